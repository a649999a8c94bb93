use Rattle.std.proofs.Common.{◌≡◌, ℕ, ◌+◌, ◌-◌, ◌^◌, ◌<◌, List, length, take, drop, get_or, subst, sym, ◌∙◌, arith}
use Rattle.std.proofs.lemmas.List.{length-take-le, length-drop}
use Rattle.std.proofs.lemmas.Simd.{put_chunk_whole}
use borrow.Rule.Slice.PartMut.{put_mid}
use lib.Lanes.{put_chunk}
use Rattle.local_rule.specs.SiteBits.{lane_words}
use Rattle.plane_sweep.specs.PlaneSweep.{SweepsSites}
use Rattle.plane_sweep.proofs.RowSweeps.{sites-written}
use Rattle.plane_sweep.proofs.lanes.update_sites.Goals as goal

pub returns : goal.returns
returns g c =
    let N = g.row.N in
    let own = c.args.own.now in
    let place = c.args.at in
    let m = place + N - place in
    let new = c.new_words-new.result in
    let room = c.requires.own in
    let whole : m ≡ N = omega arith in
    let long : length (take m (drop place own)) ≡ length c.load.result =
    length-take-le m (drop place own) (omega (arith, room, whole, length-drop place own)) ∙ whole ∙ sym c.load.ensures.length in
    let stored : put_chunk 0 (take m (drop place own)) c.load.result ≡ new = put_chunk_whole (take m (drop place own)) c.load.result long ∙ c.load.ensures.same in
    let sized : length new ≡ N = rw (← c.load.ensures.same) c.load.ensures.length in
    let range : (j : ℕ) → get_or (put_mid place m own new) j 0 < 2 ^ 64 = λ j. subst (λ xs. get_or (put_mid place m own xs) j 0 < 2 ^ 64) stored (c.type_inv.own j).fits in
    let P : List ℕ → Type 0 = λ xs. SweepsSites N (lane_words c.args.six.now) c.args.rule.now c.args.draws.now place own (put_mid place m own xs) in
    subst P (sym stored)
    (sites-written N c.args.rule.now c.args.draws.now place m own c.draws_at.result c.words_at.result new c.args.six.now
    whole room c.words_at.ensures.words c.draws_at.ensures sized range c.new_words-new.ensures)
