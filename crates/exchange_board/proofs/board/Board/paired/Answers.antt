-- The colder slot is the low one, whichever of the two was handed out first.
use Rattle.std.proofs.Common.{◌≡◌, ◌<◌, length, get_or, ◌∙◌, sym, ap₂, subst}
use Rattle.scalar_rule.specs.Epoch.{has_turn}
use Rattle.exchange_board.specs.JobKeeps.{job_view}
use Rattle.exchange_board.specs.PairKeeps.{ArePartners}
use Rattle.exchange_board.specs.Views.{JobView, BoardView, place_at, out_at}
use Rattle.exchange_board.proofs.Pairing.{low-first, high-first, pair-made}
use Rattle.exchange_board.proofs.board.Board.paired.Goals as goal
use Rattle.exchange_board.proofs.board.Board.paired.Goals.{then-has_turn, else-has_turn}

-- partners on a board, the colder one out at their epoch
abbrev AreOut : BoardView → JobView × JobView → Type 0
AreOut v p = ArePartners p.0 p.1 × (p.0.origin ≡ v.origin) × (p.1.slot < length v.places) × (place_at v.places p.0.slot ≡ out_at p.0.epoch)

pub invariant_of-result : goal.invariant_of-result
invariant_of-result c =
    let v = c.args.self.now in
    let job = c.args.job in
    let mate = c.args.mate in
    let same : mate.origin ≡ job.origin = c.requires.same.1 ∙ sym c.requires.same.0 in
    let told : has_turn job.slot job.epoch ≡ c.has_turn.result = ap₂ has_turn (sym c.slot.ensures) (sym c.epoch.ensures) ∙ sym c.has_turn.ensures in
    let out : AreOut v c.if-has_turn.low = elim c.if-has_turn.branch [
      | then-has_turn w ↦
          let here : AreOut v (job, mate) = (low-first (length v.places) job mate same c.requires.mate.0 c.requires.mate.1 (told ∙ w.if-has_turn.true), c.requires.same.0, c.requires.known.1, c.requires.own_out) in
          subst (AreOut v) (sym w.low-is) here
      | else-has_turn w ↦
          let first = high-first (length v.places) job mate same c.requires.known.0 c.requires.has c.requires.mate.0 c.requires.mate.1 (told ∙ w.if-has_turn.false) in
          let here : AreOut v (mate, job) = (first, c.requires.same.1, c.requires.known.0, rw c.requires.mate.1 c.requires.mate_out) in
          subst (AreOut v) (sym w.low-is) here
    ] in
    let low = c.low.inside in
    let high = c.high.inside in
    let first : AreOut v (c.if-has_turn.low.0, job_view high) = subst (λ (x : JobView). AreOut v (c.if-has_turn.low.0, x)) (sym c.high.view_is) out in
    let both : AreOut v (job_view low, job_view high) = subst (λ (x : JobView). AreOut v (x, job_view high)) (sym c.low.view_is) first in
    let copied : c.copy.result ≡ get_or c.self.inside.pairs low.slot c.copy.result = rw c.copy.ensures c.at.ensures in
    rw c.deref_mut.ensures.value
    (pair-made c.self.inside v low high c.copy.result c.self.invariant c.self.view_is c.low.invariant c.high.invariant both.0 both.1 both.2 both.3 copied)
