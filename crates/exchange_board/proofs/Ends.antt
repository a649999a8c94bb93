-- A board with no slot in work, taken apart.
use Rattle.std.proofs.Common.{arith, ◌≡◌, ◌≢◌, inl, inr, ℕ, ◌+◌, ◌<◌, ◌≤◌, true, List, [], length, map, get_or, set, All, Option, Some, None, Global, refl, sym, ap, ap₂, ◌∙◌, subst}
use Rattle.std.specs.Prelude.{is_some, ◌==◌, Box}
use Rattle.std.specs.Arc.{arc_value}
use Rattle.std.proofs.lemmas.Bool.{cases_lt, false≢true}
use Rattle.std.proofs.lemmas.List.{length-map, get_or-map, get_or_default, get_or-set_other}
use Rattle.spin_model.specs.Steps.{table}
use Rattle.spin_model.proofs.Tables.{table-of_items}
use Rattle.scalar_rule.specs.Epoch.{slot_at, pair_at}
use Rattle.scalar_rule.specs.Plan.{Plan, slots_of, pairs_of}
use Rattle.scalar_rule.specs.Ragged.{ready, generators, all_ready}
use Rattle.scalar_rule.specs.declared.plain_copy.PlainCopy.{PlainCopy}
use Rattle.scalar_rule.specs.declared.sample.PlainSlot.{PlainSlot}
use Rattle.scalar_rule.specs.declared.sample.PlainPair.{PlainPair}
use Rattle.scalar_rule.specs.declared.sample.Sample.{Sample}
use Rattle.plane_sweep.specs.Packed.{part_slot, part_pair, part, FitsDuo}
use Rattle.plane_sweep.proofs.Labels.{permutes-equal}
use Rattle.plane_sweep.specs.declared.replica.Duo.{Duo}
use Rattle.plane_sweep.specs.declared.stand.PairWheels.{PairWheels}
use Rattle.plane_sweep.specs.declared.stand.Stand.{Stand}
use Rattle.exchange_board.specs.declared.origin.Origin.{Origin}
use Rattle.exchange_board.specs.declared.home.Home.{Home}
use Rattle.exchange_board.specs.declared.board.Slot.{Slot}
use Rattle.exchange_board.specs.declared.board.Board.TheInside as board
use Rattle.exchange_board.specs.Views.{Stage, EndedView}
use Rattle.exchange_board.specs.Content.{plan_of, slots_in, starts}
use Rattle.exchange_board.specs.Machine.{epochs, phases, numbers, NoneOut, AllEnded}
use Rattle.exchange_board.specs.BoardKeeps.{phase_of, places_of, rule_content, content_at, KeepsBoard}
use Rattle.exchange_board.specs.Stops.{AreMoved, IsEnd}
use Rattle.exchange_board.proofs.Keeping.{place-read, places-long, taken-home}
use Rattle.exchange_board.proofs.RowPlaces.{set-here}
use Rattle.exchange_board.proofs.RowLists.{rows-whole}
use Rattle.exchange_board.proofs.Cells.{floor-deep}
use Rattle.std.proofs.lemmas.Option.{same_Some}
use Rattle.plane_sweep.proofs.Empties.{no_duo}
use Rattle.scalar_rule.proofs.UnevenReached.{phase-waits}

home-or : (h : Option (Box Home Global)) → phase_of h ≢ 1 → is_some h ≡ true
home-or None h = absurd (h refl)
home-or (Some m) h = refl

is-home : (h : Option (Box Home Global)) → is_some h ≡ true → (m : Box Home Global) × (h ≡ Some m)
is-home None h = absurd (false≢true h)
is-home (Some m) h = (m, refl)

phase-told : (h : Option (Box Home Global)) (m : Box Home Global) → h ≡ Some m → (phase_of h == 2) ≡ is_some m.value.totals
phase-told h m is = ap (λ x. phase_of x == 2) is ∙ phase-waits (is_some m.value.totals)

-- no slot in work: all are at home
pub all-home : (b : board.Inside) → KeepsBoard b → NoneOut (places_of b) → (t : ℕ) (d : Slot) → t < length b.slots → is_some (get_or b.slots t d).home ≡ true
all-home b keeps none_out t d h =
    let s = get_or b.slots t d in
    let at = place-read b t s h (get_or_default b.slots t d s h) in
    home-or s.home (λ z. none_out t (let long = places-long b keeps in let sl = keeps.slots_long in omega arith) (ap (λ (p : Stage). p.phase) at ∙ z))

pub ended-none : (b : board.Inside) → AllEnded (arc_value b.origin).window.until (places_of b) → NoneOut (places_of b)
ended-none b ended t h out = let z = ended t h in let y = z.0 in omega arith

-- the content of slot t where it is
pub record IsMoved (b : board.Inside) (t : ℕ) (duo : Duo) : Type 0 where
  pub fits : FitsDuo (plan_of (arc_value b.origin)).size duo
  pub right : (i : ℕ) → i < 64 → part_slot (plan_of (arc_value b.origin)).size i duo ≡ content_at (arc_value b.origin) (epochs (places_of b)) (phases (places_of b)) i t

pub moved-content : (b : board.Inside) (duos : List Duo) → KeepsBoard b → NoneOut (places_of b) → AreMoved b.slots duos → (t : ℕ) (d : Duo) → t < slots_in (arc_value b.origin) → IsMoved b t (get_or duos t d)
moved-content b duos keeps none_out moved t d h =
    let o : Origin = arc_value b.origin in
    let in_slots : t < length b.slots = omega (arith, keeps.slots_long) in
    let none : Slot = record { epoch = 0; home = None } in
    let s = get_or b.slots t none in
    let read : s ≡ get_or b.slots t s = get_or_default b.slots t none s in_slots in
    let m = is-home s.home (all-home b keeps none_out t none in_slots) in
    let home = taken-home b t s m.0 keeps in_slots read m.1 in
    let at = place-read b t s in_slots read in
    let duo_is : get_or duos t d ≡ m.0.value.duo = moved.each t none d m.0 in_slots m.1 in
    let F : Duo → Type 0 = λ x. FitsDuo (plan_of o).size x in
    record {
      fits = subst F (sym duo_is) home.fits;
      right = λ i small. ap (part_slot (plan_of o).size i) duo_is ∙ (home.right i small
          ∙ ap₂ (λ e a. rule_content o i t e a) (sym (ap (λ (p : Stage). p.epoch) at)) (sym (ap (λ (p : Stage). p.phase == 2) at ∙ phase-told s.home m.0 m.1)));
    }

-- the generators of pair k
pub moved-pair : (b : board.Inside) (k i : ℕ) (d : PairWheels) → KeepsBoard b → k + 1 < slots_in (arc_value b.origin)
    → part_pair (get_or b.pairs k d) ≡ generators (plan_of (arc_value b.origin)) (starts (arc_value b.origin) i) k (epochs (places_of b) k)
moved-pair b k i d keeps h = ap part_pair (get_or_default b.pairs k d _ (omega (arith, keeps.pairs_long))) ∙ keeps.pairs k i h

-- the slots' list fits
pub all-fit : (b : board.Inside) (duos : List Duo) → KeepsBoard b → NoneOut (places_of b) → AreMoved b.slots duos → All (FitsDuo (plan_of (arc_value b.origin)).size) duos
all-fit b duos keeps none_out moved = λ t d h. (moved-content b duos keeps none_out moved t d (omega (arith, moved.sized, keeps.slots_long))).fits

pub slot-moved : (b : board.Inside) (duos : List Duo) (t i : ℕ) → KeepsBoard b → NoneOut (places_of b) → AreMoved b.slots duos → t < slots_in (arc_value b.origin) → i < 64
    → slot_at (map (part_slot (plan_of (arc_value b.origin)).size i) duos) t ≡ content_at (arc_value b.origin) (epochs (places_of b)) (phases (places_of b)) i t
slot-moved b duos t i keeps none_out moved h small =
    get_or-map (part_slot (plan_of (arc_value b.origin)).size i) duos t no_duo _ (omega (arith, moved.sized, keeps.slots_long))
    ∙ (moved-content b duos keeps none_out moved t no_duo h).right i small

pub pair-moved : (b : board.Inside) (k i : ℕ) → KeepsBoard b → k + 1 < slots_in (arc_value b.origin)
    → pair_at (map part_pair b.pairs) k ≡ generators (plan_of (arc_value b.origin)) (starts (arc_value b.origin) i) k (epochs (places_of b) k)
pair-moved b k i keeps h =
    let none : PairWheels = record { first = []; second = [] } in
    get_or-map part_pair b.pairs k none _ (omega (arith, keeps.pairs_long)) ∙ moved-pair b k i none keeps h

-- the state at the end
pub end-part : (b : board.Inside) (duos : List Duo) (i : ℕ) → KeepsBoard b → AllEnded (arc_value b.origin).window.until (places_of b) → AreMoved b.slots duos → i < 64
    → (let stand : Stand = record { epoch = (arc_value b.origin).window.until; slots = duos; pairs = b.pairs } in
    part (plan_of (arc_value b.origin)).size i stand ≡ all_ready (plan_of (arc_value b.origin)) (starts (arc_value b.origin) i) (arc_value b.origin).window.until)
unfolding part
end-part b duos i keeps ended moved small =
    let o : Origin = arc_value b.origin in
    let p : Plan = plan_of o in
    let until = o.window.until in
    let none_out = ended-none b ended in
    let long = places-long b keeps in
    let empty : PlainCopy = record { spins = []; wheels = []; replica = 0 } in
    let none : PlainSlot = record { first = empty; second = empty } in
    let slots : map (part_slot p.size i) duos ≡ table (λ t. ready p (starts o i) until t) (slots_of p) =
    table-of_items (λ t. ready p (starts o i) until t) (slots_of p) none (map (part_slot p.size i) duos) (length-map duos (part_slot p.size i) ∙ (moved.sized ∙ keeps.slots_long))
    (λ t h. let e = ended t (omega arith) in slot-moved b duos t i keeps none_out moved h small ∙ ap₂ (λ x y. rule_content o i t x (y == 2)) e.1 e.0) in
    let pairs : map part_pair b.pairs ≡ table (λ k. generators p (starts o i) k until) (pairs_of p) =
    table-of_items (λ k. generators p (starts o i) k until) (pairs_of p) (record { first = []; second = [] }) (map part_pair b.pairs) (length-map b.pairs part_pair ∙ keeps.pairs_long)
    (λ k h. let e = ended k (omega arith) in pair-moved b k i keeps (omega arith) ∙ ap (generators p (starts o i) k) e.1) in
    let make : List PlainSlot → List PlainPair → Sample = λ x y. record { bit = i; epoch = until; slots = x; pairs = y } in
    ap₂ make slots pairs

pub end-is : (b : board.Inside) (duos : List Duo) → KeepsBoard b → AllEnded (arc_value b.origin).window.until (places_of b) → AreMoved b.slots duos
    → (let d : EndedView = record { origin = arc_value b.origin; stand = record { epoch = (arc_value b.origin).window.until; slots = duos; pairs = b.pairs }; records = b.records } in IsEnd (arc_value b.origin) d)
unfolding part
end-is b duos keeps ended moved =
    let o : Origin = arc_value b.origin in
    let p : Plan = plan_of o in
    let until = o.window.until in
    let none_out = ended-none b ended in
    let long = places-long b keeps in
    let few = keeps.lawful.until in
    record {
      same = refl;
      fits = record {
        epoch = omega arith;
        slots = moved.sized ∙ keeps.slots_long;
        each_slot = all-fit b duos keeps none_out moved;
        pairs = keeps.pairs_long;
        each_pair = keeps.pairs_fit;
        labels = λ i small. let q = keeps.labels i small in record {
          first = permutes-equal (slots_of p) (λ t. (content_at o (epochs (places_of b)) (phases (places_of b)) i t).first.replica) (λ t. (slot_at (map (part_slot p.size i) duos) t).first.replica) q.first (λ t h. ap (λ (x : PlainSlot). x.first.replica) (slot-moved b duos t i keeps none_out moved h small));
          second = permutes-equal (slots_of p) (λ t. (content_at o (epochs (places_of b)) (phases (places_of b)) i t).second.replica) (λ t. (slot_at (map (part_slot p.size i) duos) t).second.replica) q.second (λ t h. ap (λ (x : PlainSlot). x.second.replica) (slot-moved b duos t i keeps none_out moved h small));
        };
      };
      stand = λ i small. end-part b duos i keeps ended moved small;
      records = rows-whole o (numbers (places_of b)) b.records keeps.lawful keeps.rows keeps.records_long (floor-deep o keeps.lawful).1
          (λ t h. let e = ended t (omega arith) in let e0 = e.0 in let e1 = e.1 in omega arith);
    }

-- one more slot is moved
pub moved-more : (first slots : List Slot) (duos : List Duo) (t : ℕ) (s now : Slot) (h : Box Home Global) → t < length slots → t < length duos → length slots ≡ length first → s ≡ get_or slots t s → s.home ≡ Some h
    → ((k : ℕ) (d : Slot) → t ≤ k → get_or slots k d ≡ get_or first k d)
    → ((k : ℕ) (d : Slot) (e : Duo) (m : Box Home Global) → k < t → (get_or first k d).home ≡ Some m → get_or duos k e ≡ m.value.duo)
    → (k : ℕ) (d : Slot) (e : Duo) (m : Box Home Global) → k < t + 1 → (get_or first k d).home ≡ Some m → get_or (set duos t h.value.duo) k e ≡ m.value.duo
moved-more first slots duos t s now h in_slots in_duos long read is rest done k d e m below there = elim (cases_lt k t) [
  | inl less ↦ get_or-set_other duos t k h.value.duo e (λ z. omega arith) ∙ done k d e m less there
  | inr more ↦
      let here : k ≡ t = omega arith in
      let first_is : get_or first k d ≡ s = ap (λ i. get_or first i d) here ∙ (sym (rest t d (omega arith)) ∙ (get_or_default slots t d s in_slots ∙ sym read)) in
      let same : h ≡ m = same_Some _ _ (sym is ∙ (ap (λ (x : Slot). x.home) (sym first_is) ∙ there)) in
      set-here duos t k h.value.duo e here in_duos ∙ ap (λ (x : Box Home Global). x.value.duo) same
]
