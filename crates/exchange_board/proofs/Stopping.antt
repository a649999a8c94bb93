-- The records that are kept ahead of the least completed epoch, and a board with no slot in work as a state to go on from.
use Rattle.std.proofs.Common.{arith, ◌≡◌, ◌≢◌, inl, inr, ◌⊎◌, ℕ, ◌+◌, ◌-◌, ◌*◌, ◌/◌, ◌%◌, ◌<◌, ◌≤◌, Bool, true, false, cond, List, [], ◌∷◌, ◌++◌, length, map, All, refl, sym, ap, ap₂, ◌∙◌, subst}
use Rattle.std.specs.Prelude.{◌==◌}
use Rattle.std.specs.Arc.{arc_value}
use Rattle.std.proofs.lemmas.Bool.{cases_lt, cases_Bool, eqb-true, eq-eqb, ne_eqb, false≢true}
use Rattle.std.proofs.lemmas.Bool.Decides.{eqb_tells}
use Rattle.std.proofs.lemmas.List.{length-map, length_push, get_or_append_left, get_or_push}
use Rattle.std.proofs.lemmas.Nat.{mul-add-lt}
use Rattle.std.proofs.Math.Nat.{mul-le-mul_right}
use native.Mathlib.Nat.{mul_comm}
use Rattle.scalar_rule.specs.Epoch.{has_partner, slot_at}
use Rattle.scalar_rule.specs.Plan.{Plan, slots_of}
use Rattle.scalar_rule.specs.Ragged.{Position, generators}
use Rattle.scalar_rule.specs.Records.{is_recorded}
use Rattle.scalar_rule.specs.Positions.{position_in, done, rank, turns, sum_below, floor_of, deepest_of, cell_number, cell_epoch, is_pending, pending_before, AreInStep}
use Rattle.scalar_rule.specs.declared.sample.PlainSlot.{PlainSlot}
use Rattle.scalar_rule.specs.declared.sample.Record.{Record}
use Rattle.scalar_rule.proofs.Extremes.{sum-same, least-at, least-some, greatest-at, greatest-below, count-past, count-hit, count-missed}
use Rattle.scalar_rule.proofs.Cells.{cell-decode, cell-within, kept-means, kept-tests}
use Rattle.scalar_rule.proofs.InStep.{steps-short}
use Rattle.scalar_rule.proofs.SlotPartners.{turns-say}
use Rattle.plane_sweep.specs.Cells.{IsCell}
use Rattle.plane_sweep.specs.declared.cells.Cell.{Cell}
use Rattle.plane_sweep.specs.Packed.{part_slot}
use Rattle.plane_sweep.specs.Uneven.{place_at, position_of, FitsRecord}
use Rattle.plane_sweep.proofs.Labels.{permutes-equal}
use Rattle.plane_sweep.specs.declared.replica.Duo.{Duo}
use Rattle.plane_sweep.specs.declared.uneven.Place.{Place}
use Rattle.exchange_board.specs.declared.origin.Origin.{Origin}
use Rattle.exchange_board.specs.declared.board.Board.TheInside as board
use Rattle.exchange_board.specs.Content.{plan_of, slots_in, starts, row_place, record_at, rule_record, KeepsRow, IsLawfulOrigin}
use Rattle.exchange_board.specs.Machine.{epochs, phases, numbers, begun, recorded, taken, NoneOut}
use Rattle.exchange_board.specs.BoardKeeps.{places_of, rule_content, content_at, KeepsBoard}
use Rattle.exchange_board.specs.Stops.{AreMoved, AreStops, IsAhead, HasAhead, KeepsAhead, IsKeeping, IsStop}
use Rattle.exchange_board.specs.Views.{RaggedEndedView}
use Rattle.exchange_board.proofs.Cells.{IsKeptCell}
use Rattle.exchange_board.proofs.Ends.{all-fit, slot-moved, pair-moved}
use Rattle.exchange_board.proofs.Keeping.{places-long}
use Rattle.exchange_board.proofs.Origins.{floor-upto, epoch-done}
use Rattle.exchange_board.proofs.RowPlaces.{started-done}
use Rattle.exchange_board.proofs.RowLists.{rows-upto}
use Rattle.plane_sweep.proofs.LevelStands.{position-at}

-- one more record
pub all-push : (xs : List Record) (x : Record) → All FitsRecord xs → FitsRecord x → All FitsRecord (xs ++ x ∷ [])
all-push xs x each last = λ i d h.
    let P : Record → Type 0 = λ r. FitsRecord r in
    elim (cases_lt i (length xs)) [
      | inl less ↦ subst P (sym (get_or_append_left xs (x ∷ []) d i less)) (each i d less)
      | inr more ↦ subst P (sym (get_or_push xs x d i (let z = length_push xs x in omega arith))) last
    ]

-- the test of a record that is kept ahead
abbrev pub kept_of : Origin → List Position → ℕ → Bool
kept_of o ps j = is_pending (λ t. done (position_in ps t)) (floor_of ps) o.window.samples o.window.every (length ps) j

pub ahead-short : (o : Origin) (places : List Place) (t : ℕ) → IsLawfulOrigin o → IsAhead o (map position_of places) → t < length places → (place_at places t).epoch ≤ 1000000000
ahead-short o places t l a h =
    let ps = map position_of places in
    let long = length-map places position_of in
    let r = a.reach t (omega (arith, a.sized)) in
    let same : (position_in ps t).epoch ≡ (place_at places t).epoch = ap (λ (p : Position). p.epoch) (position-at places t h) in
    let e = epoch-done (position_in ps t).epoch (position_in ps t).waits in
    omega (arith, l.until)

pub ahead-floor : (o : Origin) (ps : List Position) → IsLawfulOrigin o → IsAhead o ps → floor_of ps ≤ 1000000000
ahead-floor o ps l a =
    let some = l.plan.rules.some in
    let z = least-at (λ t. done (position_in ps t)) (length ps) 0 (omega (arith, a.sized)) in
    let r = a.reach 0 some in
    omega (arith, l.until)

-- the cell of a record that is kept ahead
pub record IsAheadCell (o : Origin) (ps : List Position) (cell : Cell) : Type 0 where
  pub cell_is : IsKeptCell o cell
  pub from : floor_of ps ≤ cell.epoch
  pub behind : cell.epoch < done (position_in ps cell.slot)

pub ahead-cell : (o : Origin) (ps : List Position) (j : ℕ) (cell : Cell) → IsLawfulOrigin o → IsAhead o ps → kept_of o ps j ≡ true → IsCell (floor_of ps) o.window.samples (length ps) j cell → IsAheadCell o ps cell
ahead-cell o ps j cell l a kept is =
    let n = length ps in
    let some = l.plan.rules.some in
    let k = kept-means (λ t. done (position_in ps t)) (floor_of ps) o.window.samples o.window.every n j kept in
    let w = cell-within o.window.samples n j (omega (arith, l.base.some_samples)) (omega (arith, a.sized)) in
    let slot : cell.slot < slots_in o = let z = is.slot in omega (arith, w.1, a.sized) in
    let reach = a.reach cell.slot slot in
    let same : done (position_in ps cell.slot) ≡ done (position_in ps (j % n)) = ap (λ t. done (position_in ps t)) is.slot in
    let behind = k.behind in
    let e = is.epoch in
    let from = a.from in
    record {
      cell_is = record {
        printed = ap (is_recorded o.window.every) is.epoch ∙ k.printed;
        from = omega arith;
        below = omega arith;
        sample = let z = is.sample in omega (arith, w.0);
        slot = slot;
      };
      from = omega arith;
      behind = omega arith;
    }

pub ahead-is : (o : Origin) (ps : List Position) (floor slots j : ℕ) (cell : Cell) → floor ≡ floor_of ps → slots ≡ length ps → IsCell floor o.window.samples slots j cell → IsCell (floor_of ps) o.window.samples (length ps) j cell
ahead-is o ps floor slots j cell floor_is slots_is is =
    let P : ℕ → ℕ → Type 0 = λ f n. IsCell f o.window.samples n j cell in
    subst (λ n. P (floor_of ps) n) slots_is (subst (λ f. P f slots) floor_is is)

-- the record that is put down
pub ahead-value : (o : Origin) (ps : List Position) (floor n j : ℕ) (cell : Cell) (rows : List Record) (place : ℕ) → floor ≡ floor_of ps → length ps ≡ n → IsCell (floor_of ps) o.window.samples (length ps) j cell → IsAheadCell o ps cell
    → place ≡ row_place o cell.epoch cell.sample cell.slot → HasAhead o ps rows
    → record_at rows place ≡ rule_record o (cell_epoch floor o.window.samples n j) (j / n % o.window.samples) (j % n)
ahead-value o ps floor n j cell rows place floor_is long is a place_is has =
    ap (record_at rows) place_is ∙ (has cell.epoch cell.sample cell.slot a.from a.behind a.cell_is.printed a.cell_is.sample a.cell_is.slot
    ∙ (ap (λ z. rule_record o z cell.sample cell.slot) is.epoch ∙ (ap₂ (λ z y. rule_record o (cell_epoch (floor_of ps) o.window.samples (length ps) j) z y) is.sample is.slot
    ∙ (ap (λ m. rule_record o (cell_epoch (floor_of ps) o.window.samples m j) (j / m % o.window.samples) (j % m)) long ∙ ap (λ f. rule_record o (cell_epoch f o.window.samples n j) (j / n % o.window.samples) (j % n)) (sym floor_is)))))

pub keeping-none : (o : Origin) (ps : List Position) (rows : List Record) → rows ≡ [] → pending_before o.window.samples o.window.every ps 0 ≡ 0 → IsKeeping o ps 0 rows
keeping-none o ps rows is zero_is = record { sized = ap length is ∙ sym zero_is; each = λ k h. absurd (omega arith) }

pub keeping-past : (o : Origin) (ps : List Position) (j : ℕ) (rows : List Record) → kept_of o ps j ≡ false → IsKeeping o ps j rows → IsKeeping o ps (j + 1) rows
keeping-past o ps j rows off was = record {
  sized = was.sized ∙ sym (count-missed (kept_of o ps) j off);
  each = λ k h on. elim (eqb_tells k j) [
    | inl a ↦ absurd (false≢true (sym off ∙ (ap (kept_of o ps) (sym a.1) ∙ on)))
    | inr a ↦ let ne : k ≢ j = a.1 in was.each k (omega arith) on
  ];
}

pub keeping-more : (o : Origin) (ps : List Position) (j : ℕ) (rows : List Record) (x : Record) → kept_of o ps j ≡ true
    → x ≡ rule_record o (cell_epoch (floor_of ps) o.window.samples (length ps) j) (j / length ps % o.window.samples) (j % length ps)
    → IsKeeping o ps j rows → IsKeeping o ps (j + 1) (rows ++ x ∷ [])
keeping-more o ps j rows x on is was = record {
  sized = length_push rows x ∙ (ap (λ n. n + 1) was.sized ∙ sym (count-hit (kept_of o ps) j on));
  each = λ k h here. elim (eqb_tells k j) [
    | inl a ↦ let same : k ≡ j = a.1 in
        get_or_push rows x _ (pending_before o.window.samples o.window.every ps k) (was.sized ∙ ap (pending_before o.window.samples o.window.every ps) (sym same))
        ∙ (is ∙ ap (λ z. rule_record o (cell_epoch (floor_of ps) o.window.samples (length ps) z) (z / length ps % o.window.samples) (z % length ps)) (sym same))
    | inr a ↦ let ne : k ≢ j = a.1 in
        let less : k < j = omega arith in
        let past = count-past (kept_of o ps) k j here less in
        get_or_append_left rows (x ∷ []) _ (pending_before o.window.samples o.window.every ps k) (omega (arith, was.sized)) ∙ was.each k less here
  ];
}

-- one more place, whichever it is
pub keeping-next : (o : Origin) (ps : List Position) (floor n j : ℕ) (old new : List Record) (spare left : ℕ) → floor ≡ floor_of ps → length ps ≡ n → IsKeeping o ps j old
    → (kept_of o ps j ≡ true → new ≡ old ++ rule_record o (cell_epoch floor o.window.samples n j) (j / n % o.window.samples) (j % n) ∷ [])
    → (kept_of o ps j ≡ true → left + 1 ≡ spare) → (kept_of o ps j ≡ false → (new ≡ old) × (left ≡ spare))
    → IsKeeping o ps (j + 1) new × (left + length new ≡ spare + length old)
keeping-next o ps floor n j old new spare left floor_is long was kept spent passed = elim (cases_Bool (kept_of o ps j)) [
  | inl on ↦
      let x = rule_record o (cell_epoch floor o.window.samples n j) (j / n % o.window.samples) (j % n) in
      let is : x ≡ rule_record o (cell_epoch (floor_of ps) o.window.samples (length ps) j) (j / length ps % o.window.samples) (j % length ps) =
      ap (λ f. rule_record o (cell_epoch f o.window.samples n j) (j / n % o.window.samples) (j % n)) floor_is ∙ ap (λ m. rule_record o (cell_epoch (floor_of ps) o.window.samples m j) (j / m % o.window.samples) (j % m)) (sym long) in
      let K : List Record → Type 0 = λ r. IsKeeping o ps (j + 1) r in
      let new_is = kept on in
      let count : length new ≡ length old + 1 = ap length new_is ∙ length_push old x in
      let s = spent on in
      (subst K (sym new_is) (keeping-more o ps j old x on is was), omega arith)
  | inr off ↦
      let p = passed off in
      let K : List Record → Type 0 = λ r. IsKeeping o ps (j + 1) r in
      let count : length new ≡ length old = ap length p.0 in
      let s = p.1 in
      (subst K (sym p.0) (keeping-past o ps j old off was), omega arith)
]

-- the room is large enough
pub cells-room : (o : Origin) (ps : List Position) → IsAhead o ps → (deepest_of ps - floor_of ps) * o.window.samples * length ps ≤ o.window.samples * slots_in o * slots_in o
cells-room o ps a =
    let x : (deepest_of ps - floor_of ps) * o.window.samples ≤ slots_in o * o.window.samples = mul-le-mul_right o.window.samples a.depth in
    let y : slots_in o * o.window.samples ≡ o.window.samples * slots_in o = mul_comm (slots_in o) o.window.samples in
    let z : (deepest_of ps - floor_of ps) * o.window.samples * length ps ≤ o.window.samples * slots_in o * length ps = mul-le-mul_right (length ps) (omega arith) in
    let w : o.window.samples * slots_in o * length ps ≡ o.window.samples * slots_in o * slots_in o = ap (λ n. o.window.samples * slots_in o * n) a.sized in
    omega arith

pub keeps-all : (o : Origin) (ps : List Position) (rows : List Record) → IsAhead o ps → IsKeeping o ps ((deepest_of ps - floor_of ps) * o.window.samples * length ps) rows → KeepsAhead o ps rows
keeps-all o ps rows a was = record {
  sized = was.sized;
  each = λ f i t from behind printed hi ht.
      let n = length ps in
      let c = floor_of ps in
      let samples = o.window.samples in
      let within : t < n = omega (arith, a.sized) in
      let d = cell-decode c samples n f i t from hi within in
      let j = cell_number c samples n f i t in
      let deep = greatest-at (λ u. done (position_in ps u)) n t within in
      let x : f - c < deepest_of ps - c = omega arith in
      let y : (f - c) * samples + i < (deepest_of ps - c) * samples = omega (arith, mul-add-lt (f - c) samples i (deepest_of ps - c) x hi) in
      let number : j < (deepest_of ps - c) * samples * n = omega (arith, mul-add-lt ((f - c) * samples + i) n t ((deepest_of ps - c) * samples) y within) in
      let e : cell_epoch c samples n j ≡ f = d.0 in
      let s : done (position_in ps (j % n)) ≡ done (position_in ps t) = ap (λ u. done (position_in ps u)) d.2 in
      let on : kept_of o ps j ≡ true = kept-tests (λ u. done (position_in ps u)) c samples o.window.every n j (ap (is_recorded o.window.every) e ∙ printed) (omega arith) in
      was.each j number on ∙ (ap (λ z. rule_record o z (j / n % samples) (j % n)) e ∙ ap₂ (λ z y. rule_record o f z y) d.1 d.2);
}

told-two : (p : ℕ) → p < 3 → (p ≡ 1 → ⊥) → (((p == 2) ≡ true) × (p ≡ 2)) ⊎ (((p == 2) ≡ false) × (p ≡ 0))
told-two p small none = elim (eqb_tells p 2) [
  | inl a ↦ inl (eq-eqb p 2 a.1, a.1)
  | inr a ↦ let ne : p ≢ 2 = a.1 in elim (eqb_tells p 1) [
    | inl c ↦ absurd (none c.1)
    | inr c ↦ let no : p ≢ 1 = c.1 in inr (ne_eqb p 2 ne, omega arith)
  ]
]

abbrev one : Bool → ℕ
one w = cond w 1 0

abbrev two : Bool → ℕ
two w = cond w 2 0

-- the position of a slot that is at home
pub record IsPosition (b : board.Inside) (ps : List Position) (t : ℕ) : Type 0 where
  pub epoch : (position_in ps t).epoch ≡ epochs (places_of b) t
  pub waits : (position_in ps t).waits ≡ (phases (places_of b) t == 2)
  pub done_is : done (position_in ps t) ≡ recorded (numbers (places_of b) t)
  pub rank_is : rank (position_in ps t) ≡ numbers (places_of b) t

pub position-of : (b : board.Inside) (places : List Place) (t : ℕ) → KeepsBoard b → NoneOut (places_of b) → AreStops (places_of b) places → t < slots_in (arc_value b.origin) → IsPosition b (map position_of places) t
position-of b places t keeps none_out stops h =
    let qs = places_of b in
    let long = places-long b keeps in
    let p = position-at places t (omega (arith, stops.sized)) in
    let epoch : (position_in (map position_of places) t).epoch ≡ epochs qs t = ap (λ (x : Position). x.epoch) p ∙ stops.epoch t (omega arith) in
    let waits : (position_in (map position_of places) t).waits ≡ (phases qs t == 2) = ap (λ (x : Position). x.waits) p ∙ stops.arrived t (omega arith) in
    let ones : one (position_in (map position_of places) t).waits ≡ one (phases qs t == 2) = ap one waits in
    let twos : two (position_in (map position_of places) t).waits ≡ two (phases qs t == 2) = ap two waits in
    elim (told-two (phases qs t) (keeps.ruled.phased t h) (none_out t (omega arith))) [
      | inl a ↦ let u : one (phases qs t == 2) ≡ 1 = ap one a.0 in let v : two (phases qs t == 2) ≡ 2 = ap two a.0 in let w = a.1 in
          record { epoch = epoch; waits = waits; done_is = omega arith; rank_is = omega arith }
      | inr a ↦ let u : one (phases qs t == 2) ≡ 0 = ap one a.0 in let v : two (phases qs t == 2) ≡ 0 = ap two a.0 in let w = a.1 in
          record { epoch = epoch; waits = waits; done_is = omega arith; rank_is = omega arith }
    ]

pub in-step : (b : board.Inside) (places : List Place) → KeepsBoard b → NoneOut (places_of b) → AreStops (places_of b) places → AreInStep (slots_in (arc_value b.origin)) (map position_of places)
in-step b places keeps none_out stops =
    let o : Origin = arc_value b.origin in
    let ps = map position_of places in
    let qs = places_of b in
    let at : (t : ℕ) → t < slots_in o → IsPosition b ps t = λ t h. position-of b places t keeps none_out stops h in
    let level : (k : ℕ) → k + 1 < slots_in o → turns k (position_in ps k).epoch ≡ turns k (position_in ps (k + 1)).epoch = λ k h.
    let a = at k (omega arith) in let c = at (k + 1) h in ap (turns k) a.epoch ∙ (keeps.ruled.level k h ∙ ap (turns k) (sym c.epoch)) in
    record {
      partnered = λ t h w. let a = at t h in let two_is : phases qs t ≡ 2 = eqb-true (phases qs t) 2 (sym a.waits ∙ w) in
          subst (λ e. has_partner (slots_in o) t e ≡ true) (sym a.epoch) (keeps.ruled.partnered t h two_is);
      turns = λ k h. turns-say k _ _ (level k h);
      lone = λ k h w v same.
          let a = at k (omega arith) in let c = at (k + 1) h in
          let pk : phases qs k ≡ 2 = eqb-true (phases qs k) 2 (sym a.waits ∙ w) in
          let pn : phases qs (k + 1) ≡ 2 = eqb-true (phases qs (k + 1)) 2 (sym c.waits ∙ v) in
          let ee : epochs qs k ≡ epochs qs (k + 1) = sym a.epoch ∙ (same ∙ c.epoch) in
          let odd = keeps.ruled.lone k h pk pn ee in
          let ea = a.epoch in
          ne_eqb ((k + (position_in ps k).epoch) % 2) 0 (λ z. omega arith);
    }

pub ahead-of : (b : board.Inside) (places : List Place) → KeepsBoard b → NoneOut (places_of b) → AreStops (places_of b) places → IsAhead (arc_value b.origin) (map position_of places)
ahead-of b places keeps none_out stops =
    let o : Origin = arc_value b.origin in
    let ps = map position_of places in
    let qs = places_of b in
    let long = places-long b keeps in
    let sized : length ps ≡ slots_in o = length-map places position_of ∙ (stops.sized ∙ long) in
    let some = keeps.lawful.plan.rules.some in
    let low = least-some (λ t. done (position_in ps t)) (length ps) (omega arith) in
    let m = low.0 in
    let hm : m < slots_in o = omega (arith, low.1) in
    let at = position-of b places m keeps none_out stops hm in
    let at_done = at.done_is in
    let low_is = low.2 in
    let since = keeps.ruled.since m hm in
    let first = started-done o m in
    let upto = floor-upto o m keeps.lawful hm in
    record {
      sized = sized;
      reach = λ t h.
          let p = position-of b places t keeps none_out stops h in
          let d = p.done_is in let below = keeps.ruled.below t h in let ph = keeps.ruled.phased t h in
          elim (cases_lt 0 (phases qs t)) [ inl up ↦ let w = keeps.ruled.working t h up in omega arith | inr down ↦ omega arith ];
      from = omega arith;
      depth = let z = steps-short (slots_in o) ps sized (in-step b places keeps none_out stops) in omega arith;
      deep = let z = greatest-at (λ t. done (position_in ps t)) (length ps) m low.1 in omega arith;
    }

pub has-ahead : (b : board.Inside) (places : List Place) → KeepsBoard b → NoneOut (places_of b) → AreStops (places_of b) places → HasAhead (arc_value b.origin) (map position_of places) b.records
has-ahead b places keeps none_out stops f i t from behind printed hi ht =
    let a = ahead-of b places keeps none_out stops in
    let p = position-of b places t keeps none_out stops ht in
    let d = p.done_is in
    let reach = a.reach t ht in
    let base = a.from in
    (keeps.rows f i t (omega arith) (omega arith) printed hi ht).written (omega arith)

pub stop-is : (b : board.Inside) (places : List Place) (duos : List Duo) (pending : List Record) → KeepsBoard b → NoneOut (places_of b) → AreStops (places_of b) places → AreMoved b.slots duos
    → KeepsAhead (arc_value b.origin) (map position_of places) pending → All FitsRecord pending
    → (let d : RaggedEndedView = record { origin = arc_value b.origin; stand = record { places = places; slots = duos; pairs = b.pairs; pending = pending }; records = b.records } in IsStop (arc_value b.origin) d)
stop-is b places duos pending keeps none_out stops moved kept kept_fit =
    let o : Origin = arc_value b.origin in
    let p : Plan = plan_of o in
    let ps = map position_of places in
    let qs = places_of b in
    let l = keeps.lawful in
    let long = places-long b keeps in
    let at : (t : ℕ) → t < slots_in o → IsPosition b ps t = λ t h. position-of b places t keeps none_out stops h in
    let ahead = ahead-of b places keeps none_out stops in
    let first = ahead.reach 0 l.plan.rules.some in
    let deep : deepest_of ps ≤ o.window.until = greatest-below (λ t. done (position_in ps t)) (length ps) o.window.until first (λ t h. ahead.reach t (omega (arith, ahead.sized))) in
    let slot : (i t : ℕ) → i < 64 → t < slots_in o → slot_at (map (part_slot p.size i) duos) t ≡ content_at o (epochs qs) (phases qs) i t = λ i t small h. slot-moved b duos t i keeps none_out moved h small in
    let level : (k : ℕ) → k + 1 < slots_in o → turns k (position_in ps k).epoch ≡ turns k (position_in ps (k + 1)).epoch = λ k h.
    let a = at k (omega arith) in let c = at (k + 1) h in ap (turns k) a.epoch ∙ (keeps.ruled.level k h ∙ ap (turns k) (sym c.epoch)) in
    record {
      same = refl;
      fits = record {
        some_samples = l.base.some_samples;
        few_samples = l.base.few_samples;
        some_every = l.base.some_every;
        places = stops.sized ∙ long;
        epochs = λ t h. let a = at t h in let e = a.epoch in let z = keeps.ruled.below t h in let u = l.until in omega arith;
        slots = moved.sized ∙ keeps.slots_long;
        each_slot = all-fit b duos keeps none_out moved;
        pairs = keeps.pairs_long;
        each_pair = keeps.pairs_fit;
        labels = λ i small. let q = keeps.labels i small in record {
          first = permutes-equal (slots_of p) (λ t. (content_at o (epochs qs) (phases qs) i t).first.replica) (λ t. (slot_at (map (part_slot p.size i) duos) t).first.replica) q.first (λ t h. ap (λ (x : PlainSlot). x.first.replica) (slot i t small h));
          second = permutes-equal (slots_of p) (λ t. (content_at o (epochs qs) (phases qs) i t).second.replica) (λ t. (slot_at (map (part_slot p.size i) duos) t).second.replica) q.second (λ t h. ap (λ (x : PlainSlot). x.second.replica) (slot i t small h));
        };
        in_step = in-step b places keeps none_out stops;
        pending = kept.sized;
        each_pending = kept_fit;
      };
      reached = λ i small. record {
        bit_is = refl;
        later = λ t h. let a = at t h in let r = a.rank_is in let s = keeps.ruled.since t h in omega arith;
        turns = λ k h. turns-say k _ _ (level k h);
        slots = λ t h. let a = at t h in slot i t small h ∙ ap₂ (λ e w. rule_content o i t e w) (sym a.epoch) (sym a.waits);
        pairs = λ k h. let a = at k (omega arith) in pair-moved b k i keeps h ∙ ap (generators p (starts o i) k) (sym a.epoch);
      };
      from = ahead.from;
      reach = deep;
      taken = let same = sum-same (λ t. done (position_in ps t)) (λ t. begun (numbers qs t)) (slots_in o) (λ t h.
          let a = at t h in let d = a.done_is in let ph = keeps.ruled.phased t h in let home = none_out t (omega arith) in omega arith) in
          let whole : taken qs ≡ sum_below (λ t. begun (numbers qs t)) (slots_in o) = ap (sum_below (λ t. begun (numbers qs t))) long in
          let spent = keeps.taken in omega arith;
      pending = kept;
      sized = keeps.records_long;
      rows = λ f i t from below printed hi ht. let a = at t ht in
          subst (λ n. KeepsRow o f i t n (record_at b.records (row_place o f i t))) (sym a.rank_is) (keeps.rows f i t from below printed hi ht);
      records = rows-upto o (numbers qs) b.records (floor_of ps) l keeps.rows keeps.records_long ahead.from (let z = ahead.deep in omega arith)
          (λ t h. let a = at t h in let d = a.done_is in let low = least-at (λ u. done (position_in ps u)) (length ps) t (omega (arith, ahead.sized)) in omega arith);
    }
