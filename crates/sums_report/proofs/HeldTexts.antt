-- The text of sums that are held is that of the samples' sums, number by number.
use Rattle.std.proofs.Common.{inl, inr, ◌≡◌, ℕ, zero, suc, ◌+◌, ◌*◌, ◌/◌, ◌%◌, ◌<◌, ◌≤◌, true, cond, nat_lt, List, [], ◌∷◌, ◌++◌, ℤ, pos, map, take, length, get_or, refl, ap, ap₂, sym, ◌∙◌, arith}
use Rattle.std.proofs.lemmas.Bool.{cases_lt, lt-ltb}
use Rattle.std.proofs.lemmas.List.{map-append, get_or-take, get_or_default, length-take}
use Rattle.std.specs.Prelude.{codes, decimal}
use Rattle.spin_model.specs.Steps.{table}
use Rattle.spin_model.proofs.Joined.{joined-same}
use Rattle.spin_model.proofs.Tables.{table-of_items}
use Rattle.measured_sums.specs.EpochBins.{most_bins, overlap_classes}
use Rattle.measured_sums.specs.MeasuredSums.{Quantity, Number, Energies, EnergySquares, EnergyProducts, Links, LinkSquares, Overlaps, Magnitudes, OverlapSquares, OverlapFourths, EnergyOverlapSquares, EnergyOverlapFourths, InClass, Axes, Faces, moments, epochs_in_bin}
use Rattle.measured_sums.specs.RunningSums.{RunningSums}
use Rattle.measured_sums.specs.SumsText.{Heading, bin_lines, heading_line, numbers_line, sample_sums, slot_sums, sums_text}
use Rattle.plane_sums.specs.Bins.{SumsView, bin_at}
use Rattle.plane_sums.specs.Measured.{HasSum}
use Rattle.sums_report.specs.HeldSums.{held_sums, slot_in, AreHeld, HasBins, TextIsTheSamples}

-- of the items of a table
table-mapped : {A B : Type 0} (f g : A → B) (item : ℕ → A) (n : ℕ) → ((k : ℕ) → k < n → f (item k) ≡ g (item k)) → map f (table item n) ≡ map g (table item n)
unfolding table
table-mapped f g item zero same = refl
table-mapped f g item (suc n) same =
    map-append f (table item n) (item n ∷ [])
    ∙ ap₂ (λ xs ys. xs ++ ys) (table-mapped f g item n (λ k below. same k (omega arith))) (ap (λ z. z ∷ []) (same n (omega arith)))
    ∙ sym (map-append g (table item n) (item n ∷ []))

-- as a table
pub mapped : {A B : Type 0} (f : A → B) (item : ℕ → A) (n : ℕ) → map f (table item n) ≡ table (λ k. f (item k)) n
unfolding table
mapped f item zero = refl
mapped f item (suc n) = map-append f (table item n) (item n ∷ []) ∙ ap (λ xs. xs ++ f (item n) ∷ []) (mapped f item n)

-- the lines of a bin have the quantities that have sums
bin-same : (l b t k : ℕ) (f g : Quantity → ℤ) → ((quantity : Quantity) → HasSum l quantity → f quantity ≡ g quantity) → bin_lines l b t k f ≡ bin_lines l b t k g
bin-same l b t k f g same =
    let sums : map f moments ≡ map g moments = rw (
      same Number tt,
      same Energies tt,
      same EnergySquares tt,
      same EnergyProducts tt,
      same Links tt,
      same LinkSquares tt,
      same Overlaps tt,
      same Magnitudes tt,
      same OverlapSquares tt,
      same OverlapFourths tt,
      same EnergyOverlapSquares tt,
      same EnergyOverlapFourths tt,
    ) refl in
    let hist = table-mapped f g InClass overlap_classes (λ c below. same (InClass c) below) in
    let axis = table-mapped f g Axes (l / 2 + 1) (λ r below. same (Axes r) (omega arith)) in
    let face = table-mapped f g Faces (l / 2 + 1) (λ r below. same (Faces r) (omega arith)) in
    ap₂ (λ u v. u ++ v)
    (ap₂ (λ u v. u ++ v)
    (ap₂ (λ u v. u ++ v) (ap (numbers_line (codes "sum") b t k) sums) (ap (numbers_line (codes "hist") b t k) hist))
    (ap (numbers_line (codes "axis") b t k) axis))
    (ap (numbers_line (codes "face") b t k) face)

-- those of a slot are of the bins that have an epoch, and these are held
slot-same : (h : Heading) (slot : SumsView) (b t : ℕ) (held sums : RunningSums) → HasBins h slot
    → ((k : ℕ) (quantity : Quantity) → slot.first ≤ k → k < slot.first + length slot.bins → HasSum h.size quantity → held k quantity ≡ sums k quantity)
    → slot_sums h (λ _ _. held) b t ≡ slot_sums h (λ _ _. sums) b t
slot-same h slot b t held sums has same =
    let count = λ (k : ℕ). epochs_in_bin h.every k h.from h.to in
    joined-same (λ k. cond (nat_lt 0 (count k)) (bin_lines h.size b t k (held k)) []) (λ k. cond (nat_lt 0 (count k)) (bin_lines h.size b t k (sums k)) []) (λ k. k) most_bins
    (λ k below. elim (cases_lt 0 (count k)) [
      | inl some ↦
          let places = has.all k some in
          ap (λ (xs : List ℕ). cond (nat_lt 0 (count k)) xs []) (bin-same h.size b t k (held k) (sums k) (λ quantity. same k quantity places.0 places.1))
      | inr not ↦
          let none : count k ≡ 0 = omega arith in
          rw none refl
    ])

pub text-same : TextIsTheSamples
unfolding sums_text
text-same h banks sums held hold =
    ap (λ (xs : List ℕ). heading_line h ++ xs ++ codes "end," ++ decimal h.to ++ codes "\n")
    (joined-same (sample_sums h (held_sums banks)) (sample_sums h sums) (λ b. b) h.samples
    (λ b within. joined-same (slot_sums h (held_sums banks) b) (slot_sums h sums b) (λ t. t) h.slots
    (λ t inside.
    let whole : 64 * (b / 64) + b % 64 ≡ b = omega arith in
    let bank : b / 64 < length banks = omega (arith, held.samples) in
    slot-same h (slot_in banks (b / 64) t) b t (held_sums banks b t) (sums b t) (held.bins (b / 64) t bank inside)
    (λ k quantity from to has. hold (b / 64) t bank inside (b % 64) k quantity (omega arith) from to has ∙ ap (λ i. sums i t k quantity) whole))))

-- ---- reads

pub slot-read : (h : Heading) (banks : List (List SumsView)) (bank : List SumsView) (slot : SumsView) (g t : ℕ) → AreHeld h banks → g < length banks → t < h.slots
    → bank ≡ get_or banks g bank → slot ≡ get_or bank t slot → slot ≡ slot_in banks g t
slot-read h banks bank slot g t held some below first second =
    let none : SumsView = record { first = 0; bins = [] } in
    let whole : bank ≡ get_or banks g [] = first ∙ get_or_default banks g bank [] some in
    let long : length bank ≡ h.slots = ap length whole ∙ held.slots g some in
    second ∙ get_or_default bank t slot none (omega (arith, long, below)) ∙ ap (λ xs. get_or xs t none) whole

-- a bin with an epoch is shown
pub bin-shown : (h : Heading) (slot : SumsView) (k : ℕ) (lines : List ℕ) → HasBins h slot → slot.first ≤ k → k < slot.first + length slot.bins → 0 < (bin_at slot k).epochs
    → cond (nat_lt 0 (epochs_in_bin h.every k h.from h.to)) lines [] ≡ lines
bin-shown h slot k lines has from to some =
    let count : (bin_at slot k).epochs ≡ epochs_in_bin h.every k h.from h.to = has.epochs k from to in
    let shown : nat_lt 0 (epochs_in_bin h.every k h.from h.to) ≡ true = lt-ltb 0 (epochs_in_bin h.every k h.from h.to) (omega (arith, count, some)) in
    rw shown refl

-- the numbers at the first distances
pub column-shown : (g : Quantity → ℤ) (item : ℕ → Quantity) (column : List ℤ) (count n : ℕ) → length column ≡ 33 → ((r : ℕ) → r < 33 → get_or column r (pos 0) ≡ g (item r))
    → count ≤ 33 → n ≡ count → take n column ≡ map g (table item count)
column-shown g item column count n long same few is =
    let all = length-take n column in
    table-of_items (λ k. g (item k)) count (pos 0) (take n column) (omega (arith, all, long, is, few))
    (λ k below. get_or-take n column k (pos 0) (omega (arith, below, is)) ∙ same k (omega (arith, below, few)))
    ∙ sym (mapped g item count)
