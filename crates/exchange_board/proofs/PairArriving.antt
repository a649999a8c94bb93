-- Two partners come back, exchanged: as if the colder one had waited for the other, and the two had been exchanged on the board.
use Rattle.std.proofs.Common.{arith, ◌≡◌, inl, inr, ℕ, ◌+◌, ◌*◌, ◌<◌, ◌≤◌, true, false, List, [], length, get_or, set, Some, None, Global, refl, sym, ap, ap₂, ◌∙◌, subst}
use Rattle.std.specs.Prelude.{IsSomeAnd, Box}
use Rattle.std.specs.Arc.{arc_value}
use Rattle.std.specs.Box.{with_value}
use Rattle.std.proofs.lemmas.Bool.{false≢true}
use Rattle.std.proofs.lemmas.Option.{same_Some}
use Rattle.std.proofs.lemmas.List.{map-set, length-map, length-set, get_or-set_same, get_or-set_other, get_or_default, set-set}
use Rattle.scalar_rule.specs.Epoch.{has_turn, has_partner, partner}
use Rattle.scalar_rule.specs.Plan.{Plan}
use Rattle.scalar_rule.specs.Ragged.{generators}
use Rattle.scalar_rule.specs.declared.sample.PlainPair.{PlainPair}
use Rattle.scalar_rule.specs.declared.sample.PlainSlot.{PlainSlot}
use Rattle.scalar_rule.specs.declared.sample.Record.{Record}
use Rattle.scalar_rule.proofs.SlotPartners.{sides, Low, High, high-side, partner-low, partner-high}
use Rattle.plane_sweep.specs.Packed.{part_slot, part_pair}
use Rattle.plane_sweep.specs.declared.replica.Duo.{Duo}
use Rattle.plane_sweep.specs.declared.stand.PairWheels.{PairWheels}
use Rattle.exchange_board.specs.declared.origin.Origin.{Origin}
use Rattle.exchange_board.specs.declared.home.Home.{Home}
use Rattle.exchange_board.specs.declared.board.Slot.{Slot}
use Rattle.exchange_board.specs.declared.board.Board.TheInside as board
use Rattle.exchange_board.specs.declared.job.Swept.TheInside as swept
use Rattle.exchange_board.specs.declared.pair.PairSwept.TheInside as pair_swept
use Rattle.exchange_board.specs.Views.{Stage, BoardView, JobView, place_at, ready_at, arrived_at, out_at, progress}
use Rattle.exchange_board.specs.Content.{plan_of, slots_in, starts, floor_in, pair_in, record_at}
use Rattle.exchange_board.specs.Machine.{epochs, phases}
use Rattle.exchange_board.specs.Meeting.{half, Met, RecordsAfter}
use Rattle.exchange_board.specs.PairKeeps.{before, IsPairExchange, swept_pair_view, KeepsSweptPair}
use Rattle.exchange_board.specs.BoardKeeps.{place_of, places_of, board_view, KeepsBoard}
use Rattle.exchange_board.proofs.Keeping.{one, places-long}
use Rattle.exchange_board.proofs.Arriving.{Coming, Written, written-of, from-known, below-known, wait-keeps}
use Rattle.exchange_board.proofs.Settling.{FindsPartner, Exchanged, two, swapped, met-place, settled-keeps}

-- two partners that come back, with the board that they left
pub record PairComing (b : board.Inside) (j : pair_swept.Inside) : Type 0 where
  pub keeps : KeepsBoard b
  pub swept : KeepsSweptPair j
  pub same : arc_value j.low.value.share ≡ arc_value b.origin
  pub known : j.slot + 1 < length (places_of b)
  pub low : place_at (places_of b) j.slot ≡ out_at j.epoch
  pub high : place_at (places_of b) (j.slot + 1) ≡ out_at j.epoch

-- a number of phase 1 tells the place
out-told : (p : Stage) (e : ℕ) → p.phase < 3 → progress p ≡ 4 * e + 1 → p ≡ out_at e
out-told p e small is = let epoch : p.epoch ≡ e = omega arith in let phase : p.phase ≡ 1 = omega arith in
    ap₂ (λ x y. let q : Stage = record { epoch = x; phase = y } in q) epoch phase

-- it is what the hand-back asks for
pub pair-coming : (b : board.Inside) (j : pair_swept.Inside) (v : BoardView) (w : JobView) → KeepsBoard b → KeepsSweptPair j → board_view b ≡ v → swept_pair_view j ≡ w
    → w.origin ≡ v.origin → w.slot + 1 < length v.places → progress (place_at v.places w.slot) ≡ 4 * w.epoch + 1 → progress (place_at v.places (w.slot + 1)) ≡ 4 * w.epoch + 1 → PairComing b j
pair-coming b j v w keeps swept board_is swept_is same known low high =
    let ps : List Stage = places_of b in
    let more : j.slot + 1 < length ps = rw (← board_is, ← swept_is) at known in
    let low_here : progress (place_at ps j.slot) ≡ 4 * j.epoch + 1 = rw (← board_is, ← swept_is) at low in
    let high_here : progress (place_at ps (j.slot + 1)) ≡ 4 * j.epoch + 1 = rw (← board_is, ← swept_is) at high in
    let long = places-long b keeps in
    record {
      keeps = keeps;
      swept = swept;
      same = rw (← board_is, ← swept_is) at same;
      known = more;
      low = out-told (place_at ps j.slot) j.epoch (keeps.ruled.phased j.slot (omega arith)) low_here;
      high = out-told (place_at ps (j.slot + 1)) j.epoch (keeps.ruled.phased (j.slot + 1) (omega arith)) high_here;
    }

-- a slot as it was swept, with this content
abbrev swept_as : ℕ → ℕ → Box Home Global → Home → swept.Inside
swept_as t e box home = record { slot = t; epoch = e; home = with_value box home }

-- the colder one before the exchange, and the warmer one
abbrev low_of : (j : pair_swept.Inside) → KeepsSweptPair j → swept.Inside
low_of j k = swept_as j.slot j.epoch j.low (before j.low.value k.cold k.cold_totals)

abbrev high_of : (j : pair_swept.Inside) → KeepsSweptPair j → swept.Inside
high_of j k = swept_as (j.slot + 1) j.epoch j.high (before j.high.value k.hot k.hot_totals)

-- the colder one comes back by itself
pub low-coming : (b : board.Inside) (j : pair_swept.Inside) (c : PairComing b j) → Coming b (low_of j c.swept)
low-coming b j c = record {
  keeps = c.keeps;
  swept = c.swept.low_swept;
  same = c.same;
  known = omega (arith, c.known);
  out = c.low;
}

-- the records of the two are of an epoch that the board records
pub from-pair : (b : board.Inside) (j : pair_swept.Inside) (o : Origin) → PairComing b j → o ≡ arc_value b.origin → floor_in o ≤ j.epoch
from-pair b j o c is = from-known b _ o (low-coming b j c) is

pub below-pair : (b : board.Inside) (j : pair_swept.Inside) (o : Origin) → PairComing b j → o ≡ arc_value b.origin → j.epoch < o.window.until
below-pair b j o c is = below-known b _ o (low-coming b j c) is

pub epoch-short : (b : board.Inside) (j : pair_swept.Inside) → PairComing b j → j.epoch < 1000000000
epoch-short b j c = let below = below-pair b j (arc_value b.origin) c refl in let until = c.keeps.lawful.until in omega arith

low-of : (t e : ℕ) → has_turn t e ≡ true → Low t e
low-of t e turn = elim (sides t e) [ inl l ↦ l | inr l ↦ absurd (false≢true (sym l.low ∙ turn)) ]

-- a slot at the next epoch
abbrev pub next_at : Box Home Global → ℕ → Slot
next_at home e = record { epoch = e + 1; home = Some home }

-- the board once both are back
abbrev pub with_pair : board.Inside → pair_swept.Inside → List Record → board.Inside
with_pair b j rs = record {
  origin = b.origin;
  slots = set (set b.slots j.slot (next_at j.low j.epoch)) (j.slot + 1) (next_at j.high j.epoch);
  pairs = set b.pairs j.slot j.low.value.wheels;
  records = rs;
  left = b.left;
  duos = b.duos;
  pending = b.pending;
  places = b.places;
}

-- the places of the two
pub next-place : (e : ℕ) (home : Box Home Global) → home.value.totals ≡ None → place_of (next_at home e) ≡ ready_at (e + 1)
next-place e home spent = met-place e (next_at home e) home refl spent refl

pub pair-view : (b : board.Inside) (j : pair_swept.Inside) (rs : List Record) → KeepsSweptPair j → places_of (with_pair b j rs) ≡ set (set (places_of b) j.slot (ready_at (j.epoch + 1))) (j.slot + 1) (ready_at (j.epoch + 1))
pair-view b j rs k =
    map-set place_of (set b.slots j.slot (next_at j.low j.epoch)) (j.slot + 1) (next_at j.high j.epoch)
    ∙ ap₂ (λ (l : List Stage) (q : Stage). set l (j.slot + 1) q) (map-set place_of b.slots j.slot (next_at j.low j.epoch) ∙ ap (λ (q : Stage). set (places_of b) j.slot q) (next-place j.epoch j.low k.low_spent)) (next-place j.epoch j.high k.high_spent)

-- the warmer slot after the exchange
abbrev hot_half : Plan → ℕ → ℕ → PairWheels → Duo → Duo → PlainSlot
hot_half plan i k was own other = half plan i k false (part_pair was) (part_slot plan.size i own) (part_slot plan.size i other)

pub pair-keeps : (b : board.Inside) (j : pair_swept.Inside) (o p : Origin) (rs ss : List Record) → PairComing b j → o ≡ arc_value b.origin → p ≡ arc_value b.origin
    → RecordsAfter o j.slot j.epoch (λ i. record_at j.low.value.page i) b.records rs → RecordsAfter p (j.slot + 1) j.epoch (λ i. record_at j.high.value.page i) rs ss
    → KeepsBoard (with_pair b j ss)
pair-keeps b j o' p' rs ss c o_is p_is low_written high_written =
    let o : Origin = arc_value b.origin in
    let plan : Plan = plan_of o in
    let ps : List Stage = places_of b in
    let t : ℕ = j.slot in
    let e : ℕ = j.epoch in
    let k = c.swept in
    let low : swept.Inside = low_of j k in
    let high : swept.Inside = high_of j k in
    let now : PairWheels = j.low.value.wheels in
    let came = low-coming b j c in
    let first : Written b low rs = written-of b low o' rs came o_is low_written in
    let G : Origin → Type 0 = λ x. (i : ℕ) → part_pair k.was ≡ generators (plan_of x) (starts x i) t e in
    let X : Origin → Type 0 = λ x. IsPairExchange (plan_of x) t k.cold k.hot j.low.value.duo j.high.value.duo k.was now in
    let l : Low t e = low-of t e k.turn in
    let h : High (t + 1) e = high-side (t + 1) e (let z = l.parity in omega arith) in
    let back : partner (t + 1) e ≡ t = let z = h.partner_is in omega arith in
    let has_low : has_partner (length ps) t e ≡ true = partner-low (length ps) t e l c.known in
    let has_high : has_partner (length ps) (t + 1) e ≡ true = partner-high (length ps) (t + 1) e h (omega arith) in
    let high_phase : phases ps (partner t e) ≡ 1 = ap (phases ps) l.partner_is ∙ ap (λ (q : Stage). q.phase) c.high in
    let x : Slot = record { epoch = e; home = Some low.home } in
    let a : board.Inside = one b t x rs b.left in
    let waits : KeepsBoard a = wait-keeps b low rs came first has_low (λ two. absurd (omega arith)) in
    let known : t < length ps = omega (arith, c.known) in
    let in_slots : t < length b.slots = rw length-map at known in
    let places : places_of a ≡ set ps t (arrived_at e) = map-set place_of b.slots t x in
    let long : length (places_of a) ≡ length ps = ap (λ (q : List Stage). length q) places ∙ length-set ps t (arrived_at e) in
    let out : place_at (places_of a) (t + 1) ≡ out_at e = ap (λ (q : List Stage). place_at q (t + 1)) places ∙ (get_or-set_other ps t (t + 1) (arrived_at e) (ready_at 0) (λ z. omega arith) ∙ c.high) in
    let coming : Coming a high = record { keeps = waits; swept = k.high_swept; same = k.same ∙ c.same; known = (let z = c.known in omega arith); out = out } in
    let second : Written a high ss = written-of a high p' ss coming p_is high_written in
    let finds : FindsPartner a high t = record {
      has = subst (λ n. has_partner n (t + 1) e ≡ true) (sym long) has_high;
      is = sym back;
      place = ap (λ (q : List Stage). place_at q t) places ∙ get_or-set_same ps t (arrived_at e) (ready_at 0) known;
    } in
    let none : PairWheels = record { first = []; second = [] } in
    let more : t + 1 < slots_in o = let z = places-long b c.keeps in let y = c.known in omega arith in
    let k_in : t < length b.pairs = let z = c.keeps.pairs_long in omega arith in
    let was : PairWheels = pair_in b.pairs t in
    let was_is : was ≡ get_or b.pairs t was = sym (get_or_default b.pairs t was none k_in) in
    let epoch : epochs ps t ≡ e = ap (λ (q : Stage). q.epoch) c.low in
    let right : part_pair was ≡ part_pair k.was = c.keeps.pairs t 0 more ∙ (ap (generators plan (starts o 0) t) epoch ∙ sym (subst G c.same k.generators_are 0)) in
    let Y : PairWheels → Type 0 = λ w. IsPairExchange plan t k.cold k.hot j.low.value.duo j.high.value.duo w now in
    let same_wheels : k.was ≡ was = ap (λ (q : PlainPair). let w : PairWheels = record { first = q.first; second = q.second } in w) (sym right) in
    let traded : Y was = subst Y same_wheels (subst X c.same k.traded) in
    let y : Slot = next_at j.low e in
    let exchanged : Exchanged plan high t x y j.high.value false was now = record {
      epoch = refl;
      there = λ m is. let z : low.home ≡ m = same_Some _ _ is in
          let P : Box Home Global → Type 0 = λ q. IsSomeAnd y.home (Met plan t false was q high.home.value.duo) in
          let met : P low.home = record { same = refl; rests = k.low_spent; fits = traded.cold_fits; right = traded.cold_is } in
          subst P z met;
      own_is = λ m is. let z : low.home ≡ m = same_Some _ _ is in
          let P : Box Home Global → Type 0 = λ q. (i : ℕ) → i < 64 → part_slot plan.size i j.high.value.duo ≡ hot_half plan i t was k.hot q.value.duo in
          subst P z traded.hot_is;
      wheels = traded.wheels_are;
      own_fits = traded.hot_fits;
      own_kept = record { share = refl; page = refl; spent = k.high_spent };
      wheels_fit = traded.wheels_fit;
    } in
    let read : x ≡ get_or a.slots t x = sym (get_or-set_same b.slots t x x in_slots) in
    let done : KeepsBoard (two a t y (t + 1) (swapped high j.high.value) (set b.pairs t now) ss) =
    settled-keeps a high plan ss t t was now x y j.high.value false coming refl second finds read (sym h.low) refl was_is exchanged in
    let K : List Slot → Type 0 = λ q. let made : board.Inside = record {
      origin = b.origin;
      slots = set q (t + 1) (swapped high j.high.value);
      pairs = set b.pairs t now;
      records = ss;
      left = b.left;
      duos = b.duos;
      pending = b.pending;
      places = b.places;
    } in KeepsBoard made in
    subst K (set-set b.slots t x y) done
