-- Sums of bins: over all bins, over quantities, and of what rows have.
use Rattle.std.proofs.Common.{◌≡◌, ℕ, ◌+◌, ◌-◌, ◌/◌, ◌<◌, Bool, true, false, cond, ◌&&◌, ◌==◌, ℤ, pos, ◌+ℤ◌, ◌*ℤ◌, refl, ap, sym, ◌∙◌, arith}
use Rattle.std.proofs.Math.IntN.{*ℤ-zero, *ℤ_comm}
use Rattle.std.proofs.lemmas.Int.{ints}
use Rattle.std.specs.Prelude.{nat_le, ◌^◌}
use Rattle.spin_model.specs.SignedSums.{sum_of}
use Rattle.spin_model.specs.Lattice.{IsLawfulSize}
use Rattle.spin_model.proofs.Counts.{count-most}
use Rattle.spin_model.proofs.Tables.{get_or-table}
use Rattle.scalar_rule.specs.Plan.{Plan, slots_of}
use Rattle.scalar_rule.specs.Epoch.{epoch_records, record_of, slot_at, swept_slot, swept_slots}
use Rattle.scalar_rule.specs.Records.{is_recorded, record_at}
use Rattle.scalar_rule.specs.Serial.{serial}
use Rattle.scalar_rule.specs.declared.sample.Record.{Record}
use Rattle.scalar_rule.specs.declared.sample.Sample.{Sample}
use Rattle.measured_sums.specs.OverlapField.{total_overlap}
use Rattle.measured_sums.specs.PlaneFamilies.{axes, face_diagonals}
use Rattle.measured_sums.specs.EpochBins.{bin_of, epoch_digits, most_bins, overlap_classes}
use Rattle.measured_sums.specs.MeasuredSums.{Number, OverlapSquares, InClass, Axes, Faces, bin_sum, is_measured, observed, sum_from, term_of}
use Rattle.measured_sums.specs.Laws.{HaveSquares}
use Rattle.measured_sums.proofs.SignedTerms.{terms-same, terms-add, terms-none, terms-times, terms-swap, term-hit}
use Rattle.measured_sums.proofs.Planes.{families-have, total-overlap}
use Rattle.measured_sums.proofs.BinsAndClasses.{classes-add}

-- ---- rows

pub recorded : (plan : Plan) (s : Sample) (t : ℕ) → t < slots_of plan → record_at (epoch_records plan s) t ≡ record_of plan s.bit (swept_slot plan s.bit t (slot_at s.slots t))
recorded plan s t below =
    get_or-table (λ t. record_of plan s.bit (slot_at (swept_slots plan s) t)) (slots_of plan) t _ below
    ∙ ap (record_of plan s.bit) (get_or-table (λ t. swept_slot plan s.bit t (slot_at s.slots t)) (slots_of plan) t _ below)

pub rows-same : (plan : Plan) (s : Sample) (t : ℕ) → t < slots_of plan
    → ((observed plan s t).first_energy ≡ (record_at (epoch_records plan s) t).first_energy)
    × ((observed plan s t).second_energy ≡ (record_at (epoch_records plan s) t).second_energy)
    × (total_overlap plan.size (observed plan s t).field ≡ (record_at (epoch_records plan s) t).overlap)
rows-same plan s t below =
    let here = recorded plan s t below in
    let slot = swept_slot plan s.bit t (slot_at s.slots t) in (
      sym (ap (λ (r : Record). r.first_energy) here),
      sym (ap (λ (r : Record). r.second_energy) here),
      total-overlap plan.size slot.first.spins slot.second.spins ∙ sym (ap (λ (r : Record). r.overlap) here),
    )

-- ---- all bins

bin-below : (f : ℕ) → bin_of f < most_bins
bin-below f = let most = count-most (λ k. nat_le (2 ^ k) f) epoch_digits in omega arith

own-bin : (recorded : Bool) (b : ℕ) (z : ℤ) → b < most_bins → sum_of (λ k. cond (recorded && (b == k)) z (pos 0)) most_bins ≡ cond recorded z (pos 0)
own-bin true b z below = term-hit z b most_bins below
own-bin false b z below = terms-none most_bins

pub bins-cover : (term : ℕ → ℤ) (every c e : ℕ)
    → sum_of (λ k. bin_sum term every k c e) most_bins ≡ sum_of (λ j. cond (is_recorded every (c + j)) (term (c + j)) (pos 0)) (e - c)
bins-cover term every c e =
    terms-swap (λ k j. cond (is_measured every k (c + j)) (term (c + j)) (pos 0)) most_bins (e - c)
    ∙ terms-same (λ j. sum_of (λ k. cond (is_measured every k (c + j)) (term (c + j)) (pos 0)) most_bins) (λ j. cond (is_recorded every (c + j)) (term (c + j)) (pos 0)) (e - c)
    (λ j below. own-bin (is_recorded every (c + j)) (bin_of (c + j)) (term (c + j)) (bin-below (c + j)))

-- ---- sums over quantities

masked-sum : (measured : Bool) (h : ℕ → ℤ) (n : ℕ) → sum_of (λ c. cond measured (h c) (pos 0)) n ≡ cond measured (sum_of h n) (pos 0)
masked-sum true h n = refl
masked-sum false h n = terms-none n

masked-add : (measured : Bool) (a b : ℤ) → cond measured (a +ℤ b) (pos 0) ≡ cond measured a (pos 0) +ℤ cond measured b (pos 0)
masked-add true a b = refl
masked-add false a b = refl

masked-times : (measured : Bool) (a z : ℤ) → cond measured (a *ℤ z) (pos 0) ≡ cond measured a (pos 0) *ℤ z
masked-times true a z = refl
masked-times false a z = sym (*ℤ_comm (pos 0) z ∙ *ℤ-zero z)

bin-sums : (h : ℕ → ℕ → ℤ) (n every k c e : ℕ) → sum_of (λ i. bin_sum (h i) every k c e) n ≡ bin_sum (λ f. sum_of (λ i. h i f) n) every k c e
bin-sums h n every k c e =
    terms-swap (λ i j. cond (is_measured every k (c + j)) (h i (c + j)) (pos 0)) n (e - c)
    ∙ terms-same (λ j. sum_of (λ i. cond (is_measured every k (c + j)) (h i (c + j)) (pos 0)) n)
    (λ j. cond (is_measured every k (c + j)) (sum_of (λ i. h i (c + j)) n) (pos 0)) (e - c)
    (λ j below. masked-sum (is_measured every k (c + j)) (λ i. h i (c + j)) n)

bin-add : (f g : ℕ → ℤ) (every k c e : ℕ) → bin_sum (λ x. f x +ℤ g x) every k c e ≡ bin_sum f every k c e +ℤ bin_sum g every k c e
bin-add f g every k c e =
    terms-same (λ j. cond (is_measured every k (c + j)) (f (c + j) +ℤ g (c + j)) (pos 0))
    (λ j. cond (is_measured every k (c + j)) (f (c + j)) (pos 0) +ℤ cond (is_measured every k (c + j)) (g (c + j)) (pos 0)) (e - c)
    (λ j below. masked-add (is_measured every k (c + j)) (f (c + j)) (g (c + j)))
    ∙ terms-add (λ j. cond (is_measured every k (c + j)) (f (c + j)) (pos 0)) (λ j. cond (is_measured every k (c + j)) (g (c + j)) (pos 0)) (e - c)

bin-times : (f : ℕ → ℤ) (z : ℤ) (every k c e : ℕ) → bin_sum (λ x. f x *ℤ z) every k c e ≡ bin_sum f every k c e *ℤ z
bin-times f z every k c e =
    terms-same (λ j. cond (is_measured every k (c + j)) (f (c + j) *ℤ z) (pos 0))
    (λ j. cond (is_measured every k (c + j)) (f (c + j)) (pos 0) *ℤ z) (e - c)
    (λ j below. masked-times (is_measured every k (c + j)) (f (c + j)) z)
    ∙ terms-times (λ j. cond (is_measured every k (c + j)) (f (c + j)) (pos 0)) z (e - c)

pub bin-same : (f g : ℕ → ℤ) (every k c e : ℕ) → ((x : ℕ) → f x ≡ g x) → bin_sum f every k c e ≡ bin_sum g every k c e
bin-same f g every k c e same =
    terms-same (λ j. cond (is_measured every k (c + j)) (f (c + j)) (pos 0)) (λ j. cond (is_measured every k (c + j)) (g (c + j)) (pos 0)) (e - c)
    (λ j below. ap (λ z. cond (is_measured every k (c + j)) z (pos 0)) (same (c + j)))

pub histograms-add : (plan : Plan) (s : Sample) (every e t k : ℕ)
    → sum_of (λ c. sum_from plan s every e t k (InClass c)) overlap_classes ≡ sum_from plan s every e t k Number
histograms-add plan s every e t k =
    let seen = λ (f : ℕ). observed plan (serial plan s f) t in
    bin-sums (λ c f. term_of plan.size (seen f) (InClass c)) overlap_classes every k s.epoch e
    ∙ bin-same (λ f. sum_of (λ c. term_of plan.size (seen f) (InClass c)) overlap_classes) (λ f. pos 1) every k s.epoch e (λ f. classes-add plan.size (seen f))

-- what holds of each epoch holds of the sums
bins-have : (count l : ℕ) (number : ℕ → ℕ → ℤ) (squares : ℕ → ℤ) (every k c e : ℕ) → ((f : ℕ) → HaveSquares count (λ r. number r f) l (squares f))
    → HaveSquares count (λ r. bin_sum (number r) every k c e) l (bin_sum squares every k c e)
bins-have count l number squares every k c e each =
    let between = λ (f : ℕ). sum_of (λ i. number (i + 1) f) (l / 2 - 1) in
    let inner = bin-sums (λ i. number (i + 1)) (l / 2 - 1) every k c e in
    let twice = bin-times between (pos 2) every k c e in
    let first = bin-add (number 0) (λ f. between f *ℤ pos 2) every k c e in
    let all = bin-add (λ f. number 0 f +ℤ between f *ℤ pos 2) (number (l / 2)) every k c e in
    let right = bin-times squares (pos count) every k c e in
    let same = bin-same (λ f. number 0 f +ℤ between f *ℤ pos 2 +ℤ number (l / 2) f) (λ f. squares f *ℤ pos count) every k c e
    (λ f. ap (λ z. number 0 f +ℤ z +ℤ number (l / 2) f) (*ℤ_comm (between f) (pos 2)) ∙ each f ∙ *ℤ_comm (pos count) (squares f)) in
    let sides = sym all ∙ same ∙ right in
    let turned = *ℤ_comm (bin_sum squares every k c e) (pos count) in
    omega (arith, ints)

pub bins-squares : (plan : Plan) (s : Sample) (every e t k : ℕ) → IsLawfulSize plan.size
    → (HaveSquares 3 (λ r. sum_from plan s every e t k (Axes r)) plan.size (sum_from plan s every e t k OverlapSquares))
    × (HaveSquares 6 (λ r. sum_from plan s every e t k (Faces r)) plan.size (sum_from plan s every e t k OverlapSquares))
bins-squares plan s every e t k lawful =
    let seen = λ (f : ℕ). observed plan (serial plan s f) t in
    let squares = λ (f : ℕ). term_of plan.size (seen f) OverlapSquares in (
      bins-have 3 plan.size (λ r f. term_of plan.size (seen f) (Axes r)) squares every k s.epoch e (λ f. families-have plan.size (seen f).field axes lawful),
      bins-have 6 plan.size (λ r f. term_of plan.size (seen f) (Faces r)) squares every k s.epoch e (λ f. families-have plan.size (seen f).field face_diagonals lawful),
    )
