-- A slot's packed sums an epoch on.
use Rattle.std.proofs.Common.{◌≡◌, ℕ, inl, inr, ◌+◌, ◌-◌, ◌<◌, ◌≤◌, true, false, ◌==◌, length, ◌+ℤ◌, ap, sym, ◌∙◌, arith}
use Rattle.std.proofs.lemmas.Bool.{cases_eq, eq-eqb, ne_eqb}
use Rattle.std.proofs.lemmas.Int.{ints}
use Rattle.spin_model.proofs.Counts.{count-most}
use Rattle.scalar_rule.specs.Records.{is_recorded}
use Rattle.measured_sums.specs.EpochBins.{bin_of}
use Rattle.measured_sums.specs.MeasuredSums.{Observed, Quantity, Number, is_measured, term_of}
use Rattle.measured_sums.specs.RunningSums.{RunningSums, behind_epoch}
use Rattle.measured_sums.proofs.Parts.{number-epochs}
use Rattle.plane_sums.specs.Bins.{SumsView, bin_at, sum_in}
use Rattle.plane_sums.specs.Measured.{HasSum}
use Rattle.plane_sums.specs.Slots.{HaveSums, RunsHaveRoom}

-- an epoch that isn't measured
pub sums-kept : (l every f : ℕ) (seen : ℕ → Observed) (before : ℕ → RunningSums) (old : SumsView) → is_recorded every f ≡ false
    → HaveSums l before old → HaveSums l (λ b. behind_epoch every l f (seen b) (before b)) old
sums-kept l every f seen before old not have b k quantity h from to has = rw not (have b k quantity h from to has)

-- one that is
pub sums-grown : (l every f : ℕ) (seen : ℕ → Observed) (before : ℕ → RunningSums) (old now : SumsView) → is_recorded every f ≡ true
    → now.first ≡ old.first → length now.bins ≡ length old.bins
    → ((b : ℕ) (quantity : Quantity) → b < 64 → HasSum l quantity → sum_in (bin_at now (bin_of f)) b quantity ≡ sum_in (bin_at old (bin_of f)) b quantity +ℤ term_of l (seen b) quantity)
    → ((k : ℕ) → old.first ≤ k → (k == bin_of f) ≡ false → bin_at now k ≡ bin_at old k)
    → HaveSums l before old → HaveSums l (λ b. behind_epoch every l f (seen b) (before b)) now
sums-grown l every f seen before old now is first long added others have b k quantity h from to has =
    let within : old.first ≤ k = omega (arith, first, from) in
    let below : k < old.first + length old.bins = omega (arith, first, long, to) in
    let held = have b k quantity h within below has in
    let term = term_of l (seen b) quantity in
    elim (cases_eq (bin_of f) k) [
      | inl same ↦
          let here : (bin_of f == k) ≡ true = eq-eqb (bin_of f) k same in
          rw (is, here)
          (ap (λ j. sum_in (bin_at now j) b quantity) (sym same) ∙ added b quantity h has
          ∙ ap (λ j. sum_in (bin_at old j) b quantity +ℤ term) same ∙ ap (λ z. z +ℤ term) held)
      | inr apart ↦
          let other : (bin_of f == k) ≡ false = ne_eqb (bin_of f) k apart in
          rw (is, other) (ap (λ s. sum_in s b quantity) (others k within (ne_eqb k (bin_of f) (λ e. apart (sym e)))) ∙ held)
    ]

-- a bin has at most as many epochs as the run has behind it
pub runs-have-room : RunsHaveRoom
runs-have-room = λ plan start every t e k packed below from to have.
    let s = start 0 in
    let held = have 0 k Number (omega arith) from to tt in
    let counted = number-epochs plan s every e t k in
    let most = count-most (λ j. is_measured every k (s.epoch + j)) (e - s.epoch) in
    omega (arith, ints, held, counted, most)
