-- The table of epochs, samples and slots, and the records that are kept ahead of the least completed epoch.
use Rattle.std.proofs.Common.{arith, ◌≡◌, ◌≢◌, inl, inr, ℕ, ◌+◌, ◌-◌, ◌*◌, ◌/◌, ◌%◌, ◌<◌, ◌≤◌, true, false, nat_lt, List, length, set, replicate, refl, sym, ap, ap₂, ◌∙◌, subst}
use Rattle.std.proofs.lemmas.Bool.{lt-ltb, false≢true, cases_Bool}
use Rattle.std.proofs.lemmas.Bool.Decides.{eqb_tells}
use Rattle.std.proofs.lemmas.List.{get_or-set_other, get_or-replicate, length-set, length-replicate}
use Rattle.std.proofs.lemmas.Nat.{mul-add-lt}
use Rattle.std.proofs.Math.Nat.{mul-le-mul_right}
use Rattle.scalar_rule.specs.Records.{is_recorded}
use Rattle.scalar_rule.specs.Positions.{cell_number, cell_epoch, pending_count, deepest_of}
use Rattle.scalar_rule.specs.declared.sample.Record.{Record}
use Rattle.scalar_rule.proofs.Extremes.{count-past, count-hit, count-missed, greatest-at}
use Rattle.scalar_rule.proofs.Cells.{cell-decode, cell-encode, cell-within, kept-means, kept-tests}
use Rattle.plane_sweep.specs.Cells.{IsCell}
use Rattle.plane_sweep.specs.declared.cells.Cell.{Cell}
use Rattle.exchange_board.specs.declared.origin.Origin.{Origin}
use Rattle.exchange_board.specs.declared.rows.Rows.{Rows}
use Rattle.exchange_board.specs.Meeting.{AreRowsOf}
use Rattle.exchange_board.specs.Content.{slots_in, positions_in, started, floor_in, rows_before, row_place, row_total, no_record, record_at, KeepsRows, IsLawfulOrigin}
use Rattle.exchange_board.specs.Kept.{past_in, kept_in, number_in, before_in, cells_in, IsFilled}
use Rattle.exchange_board.proofs.Origins.{positions-long, done-reach, floor-upto}
use Rattle.exchange_board.proofs.RowPlaces.{set-here, same-place, place-within, started-done}

pub filled-none : (o : Origin) (rows : List Record) → IsLawfulOrigin o → rows ≡ replicate (row_total o) no_record → IsFilled o 0 rows
filled-none o rows l is = record {
  sized = ap length is ∙ length-replicate (row_total o) no_record;
  filled = λ f i t from printed hi ht past below. absurd (omega arith);
  zero_late = λ f i t from below printed hi ht late. ap (λ (l : List Record). record_at l (row_place o f i t)) is
      ∙ get_or-replicate (row_total o) (row_place o f i t) no_record no_record (place-within o f i t l.base.some_every from below printed hi ht);
}

-- a place that has no record
pub filled-past : (o : Origin) (j : ℕ) (rows : List Record) → IsLawfulOrigin o → kept_in o j ≡ false → IsFilled o j rows → IsFilled o (j + 1) rows
filled-past o j rows l not_kept was = record {
  sized = was.sized;
  filled = λ f i t from printed hi ht past below. elim (eqb_tells (number_in o f i t) j) [
    | inl a ↦
        let d = cell-decode (floor_in o) o.window.samples (length (positions_in o)) f i t from hi (omega (arith, positions-long o l)) in
        let P : ℕ → Type 0 = λ x. kept_in o x ≡ false in
        let there : kept_in o (number_in o f i t) ≡ false = subst P (sym a.1) not_kept in
        let e : cell_epoch (floor_in o) o.window.samples (length (positions_in o)) (number_in o f i t) ≡ f = d.0 in
        let s : past_in o (number_in o f i t % length (positions_in o)) ≡ past_in o t = ap (past_in o) d.2 in
        let here : kept_in o (number_in o f i t) ≡ true = kept-tests (past_in o) (floor_in o) o.window.samples o.window.every (length (positions_in o)) (number_in o f i t) (ap (is_recorded o.window.every) e ∙ printed) (omega arith) in
        absurd (false≢true (sym there ∙ here))
    | inr a ↦ let ne : number_in o f i t ≢ j = a.1 in was.filled f i t from printed hi ht past (omega arith)
  ];
  zero_late = was.zero_late;
}

-- a place whose record is written
pub filled-more : (o : Origin) (j place : ℕ) (x : Record) (rows : List Record) → IsLawfulOrigin o → kept_in o j ≡ true
    → place ≡ row_place o (cell_epoch (floor_in o) o.window.samples (length (positions_in o)) j) (j / length (positions_in o) % o.window.samples) (j % length (positions_in o))
    → x ≡ record_at o.base.pending (before_in o j) → IsFilled o j rows → IsFilled o (j + 1) (set rows place x)
filled-more o j place x rows l is_kept_here place_is x_is was =
    let n = length (positions_in o) in
    let c = floor_in o in
    let samples = o.window.samples in
    let long = positions-long o l in
    let slots_some = l.plan.rules.some in
    let k = kept-means (past_in o) c samples o.window.every n j is_kept_here in
    let w = cell-within samples n j (omega (arith, l.base.some_samples)) (omega arith) in
    let e = cell_epoch c samples n j in
    let reach = done-reach o (j % n) l (omega (arith, w.1)) in
    let kp = k.behind in
    let below_until : e < o.window.until = omega arith in
    let within : place < length rows = let z = place-within o e (j / n % samples) (j % n) l.base.some_every (omega arith) below_until k.printed w.0 (omega (arith, w.1)) in omega (arith, was.sized, place_is) in
    record {
      sized = length-set rows place x ∙ was.sized;
      filled = λ f i t from printed hi ht past below. elim (eqb_tells (number_in o f i t) j) [
        | inl a ↦
            let d = cell-decode c samples n f i t from hi (omega arith) in
            let same : number_in o f i t ≡ j = a.1 in
            let ef : e ≡ f = ap (cell_epoch c samples n) (sym same) ∙ d.0 in
            let ei : j / n % samples ≡ i = ap (λ z. z / n % samples) (sym same) ∙ d.1 in
            let et : j % n ≡ t = ap (λ z. z % n) (sym same) ∙ d.2 in
            let at : row_place o f i t ≡ place = sym (place_is ∙ (ap (λ z. row_place o z (j / n % samples) (j % n)) ef ∙ ap₂ (λ z y. row_place o f z y) ei et)) in
            set-here rows place (row_place o f i t) x no_record at within ∙ (x_is ∙ ap (λ z. record_at o.base.pending (before_in o z)) (sym same))
        | inr a ↦
            let ne : number_in o f i t ≢ j = a.1 in
            let apart : row_place o f i t ≢ place = λ same.
            let q = same-place o f i t e (j / n % samples) (j % n) l.base.some_every from (omega arith) printed k.printed hi w.0 ht (omega (arith, w.1)) (same ∙ place_is) in
            ne (ap (λ z. cell_number c samples n z i t) q.0 ∙ (ap₂ (λ z y. cell_number c samples n e z y) q.1 q.2 ∙ cell-encode c samples n j)) in
            get_or-set_other rows place (row_place o f i t) x no_record apart ∙ was.filled f i t from printed hi ht past (omega arith)
      ];
      zero_late = λ f i t from below printed hi ht late.
          let apart : row_place o f i t ≢ place = λ same.
          let q = same-place o f i t e (j / n % samples) (j % n) l.base.some_every from (omega arith) printed k.printed hi w.0 ht (omega (arith, w.1)) (same ∙ place_is) in
          let z : past_in o t ≡ past_in o (j % n) = ap (past_in o) q.2 in let q0 = q.0 in absurd (omega arith) in
          get_or-set_other rows place (row_place o f i t) x no_record apart ∙ was.zero_late f i t from below printed hi ht late;
    }

-- a kept record has its place in the list
pub before-within : (o : Origin) (j : ℕ) → kept_in o j ≡ true → j < cells_in o → before_in o j < pending_count o.window.samples o.window.every (positions_in o)
before-within o j kept h = count-past _ j (cells_in o) kept h

-- all rows of a board that begins
pub filled-all : (o : Origin) (rows : List Record) → IsLawfulOrigin o → IsFilled o (cells_in o) rows → KeepsRows o (started o) rows
filled-all o rows l was f i t from below printed hi ht =
    let n = length (positions_in o) in
    let long = positions-long o l in
    let d = started-done o t in
    record {
      written = λ h.
          let past : f < past_in o t = omega arith in
          let deep = greatest-at (past_in o) n t (omega arith) in
          let x : f - floor_in o < deepest_of (positions_in o) - floor_in o = omega arith in
          let y : (f - floor_in o) * o.window.samples + i < (deepest_of (positions_in o) - floor_in o) * o.window.samples = omega (arith, mul-add-lt (f - floor_in o) o.window.samples i (deepest_of (positions_in o) - floor_in o) x hi) in
          let number : number_in o f i t < cells_in o = omega (arith, mul-add-lt ((f - floor_in o) * o.window.samples + i) n t ((deepest_of (positions_in o) - floor_in o) * o.window.samples) y (omega arith)) in
          let test : nat_lt f (past_in o t) ≡ true = lt-ltb _ _ past in
          was.filled f i t from printed hi ht past number ∙ rw test refl;
      empty = λ h. was.zero_late f i t from below printed hi ht (omega arith);
    }

-- the cell of a kept record
pub record IsKeptCell (o : Origin) (cell : Cell) : Type 0 where
  pub printed : is_recorded o.window.every cell.epoch ≡ true
  pub from : floor_in o ≤ cell.epoch
  pub below : cell.epoch < o.window.until
  pub sample : cell.sample < o.window.samples
  pub slot : cell.slot < slots_in o

pub kept-cell : (o : Origin) (j : ℕ) (cell : Cell) → IsLawfulOrigin o → kept_in o j ≡ true → IsCell (floor_in o) o.window.samples (length (positions_in o)) j cell → IsKeptCell o cell
kept-cell o j cell l kept is =
    let n = length (positions_in o) in
    let long = positions-long o l in
    let some = l.plan.rules.some in
    let k = kept-means (past_in o) (floor_in o) o.window.samples o.window.every n j kept in
    let w = cell-within o.window.samples n j (omega (arith, l.base.some_samples)) (omega arith) in
    let reach = done-reach o (j % n) l (omega (arith, w.1)) in
    let behind = k.behind in
    let e = is.epoch in
    let s = is.sample in
    let t = is.slot in
    record {
      printed = ap (is_recorded o.window.every) is.epoch ∙ k.printed;
      from = omega arith;
      below = omega arith;
      sample = omega (arith, w.0);
      slot = omega (arith, w.1);
    }

-- where its record goes
pub record IsKeptRow (o : Origin) (cell : Cell) (rows : Rows) : Type 0 where
  pub place : (rows.at + cell.sample) * rows.slots + rows.slot ≡ row_place o cell.epoch cell.sample cell.slot
  pub within : (rows.at + cell.sample) * rows.slots + rows.slot < row_total o
  pub outer : (rows.at + cell.sample) * rows.slots ≤ 4194304
  pub inner : rows.at + cell.sample ≤ 4194304

pub kept-row : (o : Origin) (cell : Cell) (rows : Rows) → IsLawfulOrigin o → IsKeptCell o cell → AreRowsOf o cell.slot cell.epoch rows → IsKeptRow o cell rows
kept-row o cell rows l k are =
    let place : (rows.at + cell.sample) * rows.slots + rows.slot ≡ row_place o cell.epoch cell.sample cell.slot =
    ap₂ (λ (a b : ℕ). (a + cell.sample) * rows.slots + b) are.at are.slot ∙ ap (λ n. (rows_before o cell.epoch * o.window.samples + cell.sample) * n + cell.slot) are.slots in
    let within = place-within o cell.epoch cell.sample cell.slot l.base.some_every k.from k.below k.printed k.sample k.slot in
    let some : 1 ≤ rows.slots = let z = l.plan.rules.some in let y = are.slots in omega arith in
    let few = l.rows in
    let outer : (rows.at + cell.sample) * rows.slots ≤ 4194304 = omega arith in
    let more : 1 * (rows.at + cell.sample) ≤ rows.slots * (rows.at + cell.sample) = mul-le-mul_right (rows.at + cell.sample) some in
    record { place = place; within = omega arith; outer = outer; inner = omega (arith, more) }

-- the place of a cell in the table
pub cell-place : (o : Origin) (j : ℕ) (cell : Cell) → IsCell (floor_in o) o.window.samples (length (positions_in o)) j cell
    → row_place o cell.epoch cell.sample cell.slot ≡ row_place o (cell_epoch (floor_in o) o.window.samples (length (positions_in o)) j) (j / length (positions_in o) % o.window.samples) (j % length (positions_in o))
cell-place o j cell is = ap (λ z. row_place o z cell.sample cell.slot) is.epoch ∙ ap₂ (λ z y. row_place o (cell_epoch (floor_in o) o.window.samples (length (positions_in o)) j) z y) is.sample is.slot

-- there are not too many places
pub cells-few : (o : Origin) → IsLawfulOrigin o → (deepest_of (positions_in o) - floor_in o) * o.window.samples * slots_in o ≤ 1000000000 * 64 * 32
cells-few o l =
    let a : deepest_of (positions_in o) - floor_in o ≤ 1000000000 = omega (arith, l.reach, l.until) in
    let x : (deepest_of (positions_in o) - floor_in o) * o.window.samples ≤ 1000000000 * o.window.samples = mul-le-mul_right o.window.samples a in
    let y : o.window.samples * 1000000000 ≤ 64 * 1000000000 = mul-le-mul_right 1000000000 l.base.few_samples in
    let b : (deepest_of (positions_in o) - floor_in o) * o.window.samples ≤ 64000000000 = omega arith in
    let u : (deepest_of (positions_in o) - floor_in o) * o.window.samples * slots_in o ≤ 64000000000 * slots_in o = mul-le-mul_right (slots_in o) b in
    let v : slots_in o * 64000000000 ≤ 32 * 64000000000 = mul-le-mul_right 64000000000 l.plan.rules.few in
    omega arith

pub cell-is : (o : Origin) (floor slots j : ℕ) (cell : Cell) → IsLawfulOrigin o → floor ≡ floor_in o → slots ≡ slots_in o → IsCell floor o.window.samples slots j cell
    → IsCell (floor_in o) o.window.samples (length (positions_in o)) j cell
cell-is o floor slots j cell l floor_is slots_is is =
    let P : ℕ → ℕ → Type 0 = λ f n. IsCell f o.window.samples n j cell in
    let a : P (floor_in o) slots = subst (λ f. P f slots) floor_is is in
    subst (λ n. P (floor_in o) n) (slots_is ∙ sym (positions-long o l)) a

pub floor-deep : (o : Origin) → IsLawfulOrigin o → (floor_in o ≤ deepest_of (positions_in o)) × (floor_in o ≤ o.window.until)
floor-deep o l =
    let some = l.plan.rules.some in
    let a = floor-upto o 0 l some in
    let b = greatest-at (past_in o) (length (positions_in o)) 0 (omega (arith, positions-long o l)) in
    let c = done-reach o 0 l some in
    (omega arith, omega arith)

-- as many places as the loop goes over
pub cells-are : (o : Origin) (floor deepest slots : ℕ) → IsLawfulOrigin o → floor ≡ floor_in o → deepest ≡ deepest_of (positions_in o) → slots ≡ slots_in o
    → (deepest - floor) * o.window.samples * slots ≡ cells_in o
cells-are o floor deepest slots l f d n =
    ap₂ (λ x y. (x - y) * o.window.samples * slots) d f ∙ ap (λ x. (deepest_of (positions_in o) - floor_in o) * o.window.samples * x) (n ∙ sym (positions-long o l))

-- one more place, whichever it is
pub filled-next : (o : Origin) (floor j next now : ℕ) (old new : List Record) → IsLawfulOrigin o → floor ≡ floor_in o → next ≡ before_in o j → IsFilled o j old
    → (kept_in o j ≡ true → (now ≡ next + 1) × (new ≡ set old (row_place o (cell_epoch floor o.window.samples (length (positions_in o)) j) (j / length (positions_in o) % o.window.samples) (j % length (positions_in o))) (record_at o.base.pending next)))
    → (kept_in o j ≡ false → (now ≡ next) × (new ≡ old)) → (now ≡ before_in o (j + 1)) × IsFilled o (j + 1) new
filled-next o floor j next now old new l floor_is next_is was kept passed = elim (cases_Bool (kept_in o j)) [
  | inl on ↦
      let k = kept on in
      let F : List Record → Type 0 = λ rows. IsFilled o (j + 1) rows in
      let place = row_place o (cell_epoch floor o.window.samples (length (positions_in o)) j) (j / length (positions_in o) % o.window.samples) (j % length (positions_in o)) in
      let at : place ≡ row_place o (cell_epoch (floor_in o) o.window.samples (length (positions_in o)) j) (j / length (positions_in o) % o.window.samples) (j % length (positions_in o)) =
      ap (λ z. row_place o (cell_epoch z o.window.samples (length (positions_in o)) j) (j / length (positions_in o) % o.window.samples) (j % length (positions_in o))) floor_is in
      (k.0 ∙ (ap (λ z. z + 1) next_is ∙ sym (count-hit (kept_in o) j on)), subst F (sym k.1) (filled-more o j place (record_at o.base.pending next) old l on at (ap (record_at o.base.pending) next_is) was))
  | inr off ↦
      let k = passed off in
      let F : List Record → Type 0 = λ rows. IsFilled o (j + 1) rows in
      (k.0 ∙ (next_is ∙ sym (count-missed (kept_in o) j off)), subst F (sym k.1) (filled-past o j old l off was))
]
