-- Two partners: their hand-out, and their exchange away from the board.
use Rattle.std.proofs.Common.{arith, ◌≡◌, inl, inr, ℕ, ◌+◌, ◌-◌, ◌*◌, ◌<◌, ◌≤◌, true, false, List, [], length, get_or, set, Option, Some, None, refl, sym, ap, ap₂, ◌∙◌, subst}
use Rattle.std.specs.Prelude.{IfNone, IfSome}
use Rattle.std.specs.Arc.{arc_value}
use Rattle.std.specs.Box.{with_value}
use Rattle.std.proofs.lemmas.Bool.{false≢true, not_from_false}
use Rattle.std.proofs.lemmas.List.{length-set, get_or-set_other, get_or_default, set_comm}
use Rattle.scalar_rule.specs.Epoch.{has_turn, has_partner, partner}
use Rattle.scalar_rule.specs.Plan.{Plan, pairs_of}
use Rattle.scalar_rule.specs.Positions.{sum_below}
use Rattle.scalar_rule.specs.Ragged.{arrived, generators}
use Rattle.scalar_rule.specs.declared.sample.Record.{Record}
use Rattle.scalar_rule.proofs.Extremes.{sum-one}
use Rattle.scalar_rule.proofs.SlotPartners.{sides, low-partner, high-partner, partner-low, partner-high, high-side, back}
use Rattle.plane_sweep.specs.Packed.{part_slot, part_pair, FitsDuo, ArePairGenerators}
use Rattle.plane_sweep.specs.declared.stand.PairWheels.{PairWheels}
use Rattle.exchange_board.specs.declared.origin.Origin.{Origin}
use Rattle.slot_steps.specs.declared.totals.Totals.{Totals}
use Rattle.exchange_board.specs.declared.home.Home.{Home}
use Rattle.exchange_board.specs.declared.board.Board.TheInside as board
use Rattle.exchange_board.specs.declared.job.Job.TheInside as job
use Rattle.exchange_board.specs.declared.pair.PairJob.TheInside as pair_job
use Rattle.exchange_board.specs.declared.pair.PairSwept.TheInside as pair_swept
use Rattle.slot_steps.specs.Totals.{AreTotals}
use Rattle.exchange_board.specs.Views.{Stage, BoardView, JobView, place_at, ready_at, out_at, placed}
use Rattle.exchange_board.specs.Content.{plan_of, slots_in, starts, started, taken_before}
use Rattle.exchange_board.specs.Machine.{epochs, phases, numbers, begun, taken}
use Rattle.exchange_board.specs.Meeting.{CanMeet, KeepsPage}
use Rattle.exchange_board.specs.JobKeeps.{job_view, RestsAt, IsSweptAt, AreRecords, KeepsJob}
use Rattle.exchange_board.specs.PairKeeps.{before, TakesPartner, ArePartners, KeepsPair, IsPairExchange, KeepsSweptPair}
use Rattle.exchange_board.specs.Answers.{Takes, TakesPair}
use Rattle.exchange_board.specs.BoardKeeps.{places_of, board_view, KeepsBoard}
use Rattle.exchange_board.proofs.Keeping.{one-set, places-long}
use Rattle.exchange_board.proofs.Arriving.{some-totals}
use Rattle.exchange_board.proofs.Settling.{can-meet}

-- what holds where there is no value, from what held there
pub none-then : (x : Option ℕ) (P Q : Type 0) → (P → Q) → IfNone x P → IfNone x Q
none-then None P Q f p = f p
none-then (Some n) P Q f p = tt

-- a slot in work is below until
pub out-below : (b : board.Inside) (v : BoardView) (t e : ℕ) → KeepsBoard b → board_view b ≡ v → t < length v.places → place_at v.places t ≡ out_at e → e < v.origin.window.until
out-below b v t e keeps is known out =
    let ps : List Stage = places_of b in
    let known_here : t < length ps = rw (← is) at known in
    let out_here : place_at ps t ≡ out_at e = rw (← is) at out in
    let epoch : epochs ps t ≡ e = ap (λ (p : Stage). p.epoch) out_here in
    let phase : phases ps t ≡ 1 = ap (λ (p : Stage). p.phase) out_here in
    let in_range : t < slots_in (arc_value b.origin) = let z = places-long b keeps in omega arith in
    let below = keeps.ruled.working t in_range (omega arith) in
    let here : e < (arc_value b.origin).window.until = omega arith in
    subst (λ (o : Origin). e < o.window.until) (ap (λ (x : BoardView). x.origin) is) here

-- the colder one of two partners comes first
pub low-first : (n : ℕ) (j m : JobView) → m.origin ≡ j.origin → m.slot ≡ partner j.slot j.epoch → m.epoch ≡ j.epoch → has_turn j.slot j.epoch ≡ true → ArePartners j m
low-first n j m same is epoch turn = elim (sides j.slot j.epoch) [
  | inl l ↦ record { same = same; next = is ∙ l.partner_is; epoch = epoch; turn = turn }
  | inr l ↦ absurd (false≢true (sym l.low ∙ turn))
]

pub high-first : (n : ℕ) (j m : JobView) → m.origin ≡ j.origin → j.slot < n → has_partner n j.slot j.epoch ≡ true → m.slot ≡ partner j.slot j.epoch → m.epoch ≡ j.epoch → has_turn j.slot j.epoch ≡ false
    → ArePartners m j
high-first n j m same known has is epoch turn = elim (sides j.slot j.epoch) [
  | inl l ↦ absurd (false≢true (sym turn ∙ l.low))
  | inr l ↦
      let pos = high-partner n j.slot j.epoch l has in
      let at : m.slot ≡ j.slot - 1 = is ∙ l.partner_is in
      let bk = back n j.slot j.epoch known has in
      let low : has_turn m.slot m.epoch ≡ true = ap₂ has_turn is epoch ∙ (bk.low ∙ not_from_false _ l.low) in
      record { same = sym same; next = omega arith; epoch = sym epoch; turn = low }
]

-- two partners in work, with a copy of their pair's generators
pub pair-made : (b : board.Inside) (v : BoardView) (l h : job.Inside) (wheels : PairWheels) → KeepsBoard b → board_view b ≡ v → KeepsJob l → KeepsJob h → ArePartners (job_view l) (job_view h)
    → (job_view l).origin ≡ v.origin → h.slot < length v.places → place_at v.places l.slot ≡ out_at l.epoch → wheels ≡ get_or b.pairs l.slot wheels
    → (let j : pair_job.Inside = record { slot = l.slot; epoch = l.epoch; low = with_value l.home (record l.home.value { wheels = wheels }); high = h.home } in KeepsPair j)
pair-made b v l h wheels keeps is low_rests high_rests partners origin known out copied =
    let o : Origin = arc_value b.origin in
    let ps : List Stage = places_of b in
    let k : ℕ = l.slot in
    let none : PairWheels = record { first = []; second = [] } in
    let known_here : h.slot < length ps = rw (← is) at known in
    let out_here : place_at ps k ≡ out_at l.epoch = rw (← is) at out in
    let epoch : epochs ps k ≡ l.epoch = ap (λ (p : Stage). p.epoch) out_here in
    let same : o ≡ arc_value l.home.value.share = ap (λ (x : BoardView). x.origin) is ∙ sym origin in
    let more : k + 1 < slots_in o = let z = places-long b keeps in let y = partners.next in omega arith in
    let in_range : k < length b.pairs = let z = keeps.pairs_long in omega arith in
    let here : (i : ℕ) → part_pair wheels ≡ generators (plan_of o) (starts o i) k l.epoch = λ i.
    ap part_pair (copied ∙ get_or_default b.pairs k wheels none in_range) ∙ (keeps.pairs k i more ∙ ap (generators (plan_of o) (starts o i) k) epoch) in
    let G : Origin → Type 0 = λ x. (i : ℕ) → part_pair wheels ≡ generators (plan_of x) (starts x i) k l.epoch in
    let F : PairWheels → Type 0 = λ w. ArePairGenerators w in
    record {
      turn = partners.turn;
      same = partners.same;
      low_rests = record { known = low_rests.known; every = low_rests.every; later = low_rests.later; fits = low_rests.fits; right = low_rests.right; unsummed = low_rests.unsummed };
      few = (let z = keeps.lawful.plan.rules.few in omega arith);
      high_rests = subst (λ n. RestsAt n l.epoch h.home.value) partners.next (subst (λ e. RestsAt h.slot e h.home.value) partners.epoch high_rests);
      generators_are = subst G same here;
      fits = subst F (sym copied) (keeps.pairs_fit k wheels in_range);
    }

-- how many hand-outs a board may have behind it
abbrev taken_in : Origin → ℕ
taken_in o = taken_before o + o.window.takes

-- one hand-out more
taken-more : (ps : List Stage) (t e : ℕ) → t < length ps → place_at ps t ≡ ready_at e → taken (set ps t (out_at e)) ≡ taken ps + 1
taken-more ps t e known rests =
    let qs : List Stage = set ps t (out_at e) in
    let epoch : epochs ps t ≡ e = ap (λ (p : Stage). p.epoch) rests in
    let phase : phases ps t ≡ 0 = ap (λ (p : Stage). p.phase) rests in
    let moved = one-set ps t (out_at e) known in
    let at_t : (epochs qs t ≡ e) × (phases qs t ≡ 1) = elim (moved t) [ inl a ↦ (a.1, a.2) | inr a ↦ absurd (a.0 refl) ] in
    ap (sum_below (λ j. begun (numbers qs j))) (length-set ps t (out_at e))
    ∙ sum-one (λ j. begun (numbers ps j)) (λ j. begun (numbers qs j)) (length ps) t known (let a0 = at_t.0 in let a1 = at_t.1 in omega arith)
    (λ j other. elim (moved j) [ inl a ↦ absurd (other a.0) | inr a ↦ ap₂ (λ x y. begun (4 * x + y)) a.1 a.2 ])

-- a hand-out of a slot, and then of its partner, is one of the pair
pub takes-pair : (b c d : BoardView) (j p : JobView) → Takes b c j → TakesPartner c d j p → TakesPair b d p
takes-pair b c d j p first then =
    let ps : List Stage = b.places in
    let t : ℕ = j.slot in
    let e : ℕ = j.epoch in
    let u : ℕ = partner t e in
    let qs : List Stage = set ps t (out_at e) in
    let places : c.places ≡ qs = ap (λ (x : BoardView). x.places) first.after in
    let origin : c.origin ≡ b.origin = ap (λ (x : BoardView). x.origin) first.after in
    let long : length c.places ≡ length ps = ap (λ (l : List Stage). length l) places ∙ length-set ps t (out_at e) in
    let has : has_partner (length ps) t e ≡ true = subst (λ n. has_partner n t e ≡ true) long then.has in
    let bk = back (length ps) t e first.known has in
    let mate : place_at ps u ≡ ready_at e = sym (get_or-set_other ps t u (out_at e) (ready_at 0) bk.other) ∙ (ap (λ (l : List Stage). place_at l u) (sym places) ∙ then.ready) in
    let both : d ≡ placed b (set qs u (out_at e)) = then.after ∙ ap₂ (λ (o : Origin) (l : List Stage). let x : BoardView = record { origin = o; places = set l u (out_at e) } in x) origin places in
    let left : taken ps + 1 < taken_in b.origin = let m = taken-more ps t e first.known first.ready in
    let z : taken c.places ≡ taken qs = ap taken places in
    let y : taken_in c.origin ≡ taken_in b.origin = ap taken_in origin in let x = then.left in omega arith in
    let made : ℕ → JobView = λ s. record { origin = p.origin; slot = s; epoch = e } in
    let same : (s : ℕ) → p.slot ≡ s → p ≡ made s = λ s is. ap₂ (λ i f. let x : JobView = record { origin = p.origin; slot = i; epoch = f } in x) is then.epoch in
    elim (sides t e) [
      | inl l ↦
          let more = low-partner (length ps) t e l has in
          let here : TakesPair b d (made t) = record {
            origin = then.origin ∙ origin;
            known = more;
            turn = l.low;
            low = first.ready;
            high = ap (place_at ps) (sym l.partner_is) ∙ mate;
            below = first.below;
            after = both ∙ ap (λ i. placed b (set qs i (out_at e))) l.partner_is;
            left = left;
          } in
          subst (TakesPair b d) (sym (same t (then.slot ∙ l.pair_is))) here
      | inr l ↦
          let pos = high-partner (length ps) t e l has in
          let at : t ≡ u + 1 = let z = l.partner_is in omega arith in
          let turned : set qs u (out_at e) ≡ set (set ps u (out_at e)) t (out_at e) = set_comm ps t u (out_at e) (out_at e) (λ z. bk.other (sym z)) in
          let here : TakesPair b d (made u) = record {
            origin = then.origin ∙ origin;
            known = let z = first.known in omega arith;
            turn = bk.low ∙ not_from_false _ l.low;
            low = mate;
            high = ap (place_at ps) (sym at) ∙ first.ready;
            below = first.below;
            after = both ∙ (ap (placed b) turned ∙ ap (λ i. placed b (set (set ps u (out_at e)) i (out_at e))) at);
            left = left;
          } in
          subst (TakesPair b d) (sym (same u (then.slot ∙ (l.pair_is ∙ sym l.partner_is)))) here
    ]

-- the colder of two partners has one
has-low : (n k e : ℕ) → has_turn k e ≡ true → k + 1 < n → has_partner n k e ≡ true
has-low n k e turn more = elim (sides k e) [ inl l ↦ partner-low n k e l more | inr l ↦ absurd (false≢true (sym l.low ∙ turn)) ]

has-high : (n k e : ℕ) → has_turn k e ≡ true → has_partner n (k + 1) e ≡ true
has-high n k e turn = elim (sides k e) [
  | inl l ↦ partner-high n (k + 1) e (high-side (k + 1) e (let z = l.parity in omega arith)) (omega arith)
  | inr l ↦ absurd (false≢true (sym l.low ∙ turn))
]

-- two partners that were swept may be exchanged
pub record CanTrade (plan : Plan) (k : ℕ) (cold hot : Home) : Type 0 where
  pub pair : k < pairs_of plan
  pub low : CanMeet plan cold
  pub high : CanMeet plan hot

pub can-trade : (plan : Plan) (k e : ℕ) (low high : Home) → plan ≡ plan_of (arc_value low.share) → has_turn k e ≡ true → arc_value high.share ≡ arc_value low.share → IsSweptAt k e low → IsSweptAt (k + 1) e high
    → CanTrade plan k low high
can-trade plan k e low high plan_is turn same first second =
    let o : Origin = arc_value low.share in
    let S : Origin → Type 0 = λ x. k + 1 < slots_in x in
    let more : k + 1 < slots_in o = subst S same second.known in
    let has_high : has_partner (slots_in (arc_value high.share)) (k + 1) e ≡ true = has-high (slots_in (arc_value high.share)) k e turn in
    let C : Plan → Type 0 = λ p. CanTrade p k low high in
    let H : Origin → Type 0 = λ x. CanMeet (plan_of x) high in
    let here : CanTrade (plan_of o) k low high = record {
      pair = let z = more in omega arith;
      low = can-meet (plan_of o) low first.fits (first.summed (has-low (slots_in o) k e turn more)) first.totals;
      high = subst H same (can-meet (plan_of (arc_value high.share)) high second.fits (second.summed has_high) second.totals);
    } in
    subst C (sym plan_is) here

-- what was swept, as it is told from what it is after the exchange
swept-before : (t e : ℕ) (old new : Home) (totals : Totals) → IsSweptAt t e old → KeepsPage old new → old.totals ≡ Some totals → IsSweptAt t e (before new old.duo totals)
swept-before t e old new totals swept kept is =
    let share : arc_value new.share ≡ arc_value old.share = ap arc_value kept.share in
    let K : Origin → Type 0 = λ x. t < slots_in x in
    let E : Origin → Type 0 = λ x. 1 ≤ x.window.every in
    let L : Origin → Type 0 = λ x. started x t ≤ 4 * e + 1 in
    let F : Origin → Type 0 = λ x. FitsDuo (plan_of x).size old.duo in
    let R : Origin → Type 0 = λ x. (b : ℕ) → b < 64 → part_slot (plan_of x).size b old.duo ≡ arrived (plan_of x) (starts x b) e t in
    let T : Origin → Type 0 = λ x. AreTotals (plan_of x) old.duo totals in
    let A : Origin → Type 0 = λ x. AreRecords x e old.duo old.page in
    let B : List Record → Type 0 = λ page. AreRecords (arc_value new.share) e old.duo page in
    record {
      known = subst K (sym share) swept.known;
      every = subst E (sym share) swept.every;
      later = subst L (sym share) swept.later;
      fits = subst F (sym share) swept.fits;
      right = subst R (sym share) swept.right;
      totals = subst T (sym share) (subst (λ y. IfSome y (AreTotals (plan_of (arc_value old.share)) old.duo)) is swept.totals);
      summed = λ has. refl;
      records = subst B (sym kept.page) (subst A (sym share) swept.records);
    }

-- two partners after their sweeps and their exchange
pub swept-pair : (j : pair_swept.Inside) (low high : Home) → has_turn j.slot j.epoch ≡ true → arc_value high.share ≡ arc_value low.share → IsSweptAt j.slot j.epoch low → IsSweptAt (j.slot + 1) j.epoch high
    → ((i : ℕ) → part_pair low.wheels ≡ generators (plan_of (arc_value low.share)) (starts (arc_value low.share) i) j.slot j.epoch)
    → CanTrade (plan_of (arc_value low.share)) j.slot low high
    → IsPairExchange (plan_of (arc_value low.share)) j.slot low.duo high.duo j.low.value.duo j.high.value.duo low.wheels j.low.value.wheels
    → KeepsPage low j.low.value → KeepsPage high j.high.value → KeepsSweptPair j
swept-pair j low high turn same first second right can traded low_kept high_kept =
    let o : Origin = arc_value low.share in
    let low_share : arc_value j.low.value.share ≡ o = ap arc_value low_kept.share in
    let high_share : arc_value j.high.value.share ≡ arc_value high.share = ap arc_value high_kept.share in
    let low_totals = some-totals low.totals can.low.waits in
    let high_totals = some-totals high.totals can.high.waits in
    let G : Origin → Type 0 = λ x. (i : ℕ) → part_pair low.wheels ≡ generators (plan_of x) (starts x i) j.slot j.epoch in
    let X : Origin → Type 0 = λ x. IsPairExchange (plan_of x) j.slot low.duo high.duo j.low.value.duo j.high.value.duo low.wheels j.low.value.wheels in
    record {
      cold = low.duo;
      cold_totals = low_totals.0;
      hot = high.duo;
      hot_totals = high_totals.0;
      was = low.wheels;
      turn = turn;
      same = high_share ∙ (same ∙ sym low_share);
      low_swept = swept-before j.slot j.epoch low j.low.value low_totals.0 first low_kept low_totals.1;
      high_swept = swept-before (j.slot + 1) j.epoch high j.high.value high_totals.0 second high_kept high_totals.1;
      generators_are = subst G (sym low_share) right;
      traded = subst X (sym low_share) traded;
      low_spent = low_kept.spent;
      high_spent = high_kept.spent;
    }
