-- What one epoch adds at most, and the greatest sums.
use Rattle.std.proofs.Common.{inl, inr, ◌≡◌, ℕ, zero, suc, ◌+◌, ◌-◌, ◌*◌, ◌^◌, ◌<◌, ◌≤◌, Bool, true, false, cond, ◌==◌, List, [], ◌∷◌, length, ℤ, pos, nat_abs, ◌+ℤ◌, ◌-ℤ◌, ◌*ℤ◌, arith}
use Rattle.std.proofs.lemmas.Int.{ints}
use Rattle.std.proofs.lemmas.Nat.{mul-le}
use Rattle.std.proofs.Math.Nat.{add-mul}
use borrow.Author.Differences.{up, down}
use Rattle.spin_model.specs.Limits.{last_epoch}
use Rattle.spin_model.specs.Words.{one_if}
use Rattle.spin_model.specs.Steps.{count_below}
use Rattle.spin_model.specs.SignedSums.{sum_of}
use Rattle.spin_model.specs.Lattice.{IsLawfulSize, volume, bond_count}
use Rattle.spin_model.specs.Couplings.{Bonds}
use Rattle.spin_model.proofs.Counts.{count-most, one_if-most}
use Rattle.spin_model.proofs.Sites.{volume-bound}
use Rattle.coupling_set.specs.CouplingWords.{bonds_of}
use Rattle.scalar_rule.specs.Plan.{Plan}
use Rattle.scalar_rule.specs.Sums.{is_unsatisfied, unsatisfied, energy}
use Rattle.scalar_rule.specs.Epoch.{slot_at, swept_slot}
use Rattle.scalar_rule.specs.Serial.{serial}
use Rattle.scalar_rule.specs.declared.sample.PlainSlot.{PlainSlot}
use Rattle.scalar_rule.specs.declared.sample.Sample.{Sample}
use Rattle.measured_sums.specs.OverlapField.{total_overlap, link_overlap}
use Rattle.measured_sums.specs.PlaneFamilies.{Family, axes, face_diagonals}
use Rattle.measured_sums.specs.PlaneCorrelations.{plane_correlation, over_families}
use Rattle.measured_sums.specs.EpochBins.{class_of}
use Rattle.measured_sums.specs.MeasuredSums.{Observed, observed_in, observed, Quantity, Number, Energies, EnergySquares, EnergyProducts, Links, LinkSquares, Overlaps, Magnitudes, OverlapSquares, OverlapFourths, EnergyOverlapSquares, EnergyOverlapFourths, InClass, Axes, Faces, square, term_of, epochs_in_bin, is_measured, sum_from}
use Rattle.measured_sums.specs.Bounds.{greatest_term}
use Rattle.measured_sums.proofs.Planes.{absolute}
use Rattle.measured_sums.proofs.BoundedSums.{abs-sum, abs-product, sum-bound, overlap-bound, correlation-bound, link-bound}

-- ---- what is measured

-- a record of what is measured whose numbers are those of some configurations
pub record IsMeasured (l : ℕ) (seen : Observed) : Type 0 where
  pub first : nat_abs seen.first_energy ≤ bond_count l
  pub second : nat_abs seen.second_energy ≤ bond_count l
  pub field_bound : (i : ℕ) → nat_abs (seen.field i) ≤ 1

difference-bound : (a v : ℕ) → a ≤ v → nat_abs (pos (2 * a) -ℤ pos v) ≤ v
difference-bound a v most =
    let z = pos (2 * a) -ℤ pos v in
    let parts = absolute z in
    let whole : up z + v ≡ down z + 2 * a = omega (arith, ints) in
    let size = parts.0 in
    elim (parts.1) [
      | inl none ↦ omega arith
      | inr none ↦ omega arith
    ]

energy-bound : (l : ℕ) (bonds : Bonds) (spins : List Bool) → nat_abs (energy l bonds spins) ≤ bond_count l
energy-bound l bonds spins = difference-bound (unsatisfied l bonds spins) (bond_count l) (count-most (is_unsatisfied l bonds spins) (bond_count l))

pub measured : (plan : Plan) (b : ℕ) (slot : PlainSlot) → IsMeasured plan.size (observed_in plan b slot)
measured plan b slot = record {
  first = energy-bound plan.size (bonds_of plan.couplings b) slot.first.spins;
  second = energy-bound plan.size (bonds_of plan.couplings b) slot.second.spins;
  field_bound = overlap-bound slot.first.spins slot.second.spins;
}

-- ---- what an epoch adds

product-bound : (x y : ℤ) (m n : ℕ) → nat_abs x ≤ m → nat_abs y ≤ n → nat_abs (x *ℤ y) ≤ m * n
product-bound x y m n first second =
    let product = abs-product x y in
    let most = mul-le (nat_abs x) (nat_abs y) m n first second in
    omega arith

pair-bound : (x y : ℤ) (m : ℕ) → nat_abs x ≤ m → nat_abs y ≤ m → nat_abs (x +ℤ y) ≤ 2 * m
pair-bound x y m first second = let both = abs-sum x y in omega arith

total-bound : (l : ℕ) (seen : Observed) → IsMeasured l seen → nat_abs (total_overlap l seen.field) ≤ volume l
total-bound l seen h = let most = sum-bound seen.field 1 (volume l) (λ i _. h.field_bound i) in omega arith

families-bound : (families : List Family) (number : Family → ℤ) (b : ℕ) → ((family : Family) → nat_abs (number family) ≤ b) → nat_abs (over_families families number) ≤ length families * b
unfolding over_families
families-bound [] number b each = omega arith
families-bound (family ∷ families) number b each =
    let others = families-bound families number b each in
    let one = each family in
    let both = abs-sum (number family) (over_families families number) in
    let more : suc (length families) * b ≡ b + length families * b = omega arith in
    omega arith

energies-bound : (l : ℕ) (seen : Observed) → IsMeasured l seen → nat_abs (seen.first_energy +ℤ seen.second_energy) ≤ 2 * bond_count l
energies-bound l seen h = pair-bound seen.first_energy seen.second_energy (bond_count l) h.first h.second

square-bound : (l : ℕ) (seen : Observed) → IsMeasured l seen → nat_abs (square (total_overlap l seen.field)) ≤ volume l * volume l
square-bound l seen h =
    product-bound (total_overlap l seen.field) (total_overlap l seen.field) (volume l) (volume l) (total-bound l seen h) (total-bound l seen h)

fourth-bound : (l : ℕ) (seen : Observed) → IsMeasured l seen → nat_abs (square (square (total_overlap l seen.field))) ≤ volume l * volume l * (volume l * volume l)
fourth-bound l seen h =
    product-bound (square (total_overlap l seen.field)) (square (total_overlap l seen.field)) (volume l * volume l) (volume l * volume l)
    (square-bound l seen h) (square-bound l seen h)

own-size : (n : ℕ) → nat_abs (pos n) ≤ n
own-size n = omega arith

pub term-most : (l : ℕ) (seen : Observed) (quantity : Quantity) → IsMeasured l seen → nat_abs (term_of l seen quantity) ≤ greatest_term l quantity
term-most l seen Number h = own-size 1
term-most l seen Energies h = energies-bound l seen h
term-most l seen EnergySquares h =
    pair-bound (square seen.first_energy) (square seen.second_energy) (bond_count l * bond_count l)
    (product-bound seen.first_energy seen.first_energy (bond_count l) (bond_count l) h.first h.first)
    (product-bound seen.second_energy seen.second_energy (bond_count l) (bond_count l) h.second h.second)
term-most l seen EnergyProducts h = product-bound seen.first_energy seen.second_energy (bond_count l) (bond_count l) h.first h.second
term-most l seen Links h = link-bound l seen.field h.field_bound
term-most l seen LinkSquares h =
    let links = link-bound l seen.field h.field_bound in
    product-bound (link_overlap l seen.field) (link_overlap l seen.field) (bond_count l) (bond_count l) links links
term-most l seen Overlaps h = total-bound l seen h
term-most l seen Magnitudes h = total-bound l seen h
term-most l seen OverlapSquares h = square-bound l seen h
term-most l seen OverlapFourths h = fourth-bound l seen h
term-most l seen EnergyOverlapSquares h =
    product-bound (seen.first_energy +ℤ seen.second_energy) (square (total_overlap l seen.field)) (2 * bond_count l) (volume l * volume l)
    (energies-bound l seen h) (square-bound l seen h)
term-most l seen EnergyOverlapFourths h =
    product-bound (seen.first_energy +ℤ seen.second_energy) (square (square (total_overlap l seen.field))) (2 * bond_count l) (volume l * volume l * (volume l * volume l))
    (energies-bound l seen h) (fourth-bound l seen h)
term-most l seen (InClass c) h = let one = one_if-most (class_of l (total_overlap l seen.field) == c) in omega arith
term-most l seen (Axes r) h = families-bound axes (λ family. plane_correlation l seen.field family r) (l * (l * l * (l * l))) (λ family. correlation-bound l seen.field family r h.field_bound)
term-most l seen (Faces r) h = families-bound face_diagonals (λ family. plane_correlation l seen.field family r) (l * (l * l * (l * l))) (λ family. correlation-bound l seen.field family r h.field_bound)

-- ---- sums over epochs

added-term : (b : Bool) (z : ℤ) (m : ℕ) → nat_abs z ≤ m → nat_abs (cond b z (pos 0)) ≤ one_if b * m
added-term true z m most = omega arith
added-term false z m most = omega arith

passed-most : (test : ℕ → Bool) (f : ℕ → ℤ) (m n : ℕ) → ((i : ℕ) → nat_abs (f i) ≤ m) → nat_abs (sum_of (λ i. cond (test i) (f i) (pos 0)) n) ≤ count_below test n * m
unfolding sum_of count_below
passed-most test f m zero each = omega arith
passed-most test f m (suc n) each =
    let before = passed-most test f m n each in
    let last = added-term (test n) (f n) m (each n) in
    let both = abs-sum (sum_of (λ i. cond (test i) (f i) (pos 0)) n) (cond (test n) (f n) (pos 0)) in
    let more = add-mul (count_below test n) (one_if (test n)) m in
    omega arith

pub sums-most : (plan : Plan) (s : Sample) (every e t k : ℕ) (quantity : Quantity)
    → nat_abs (sum_from plan s every e t k quantity) ≤ epochs_in_bin every k s.epoch e * greatest_term plan.size quantity
sums-most plan s every e t k quantity =
    let state = λ (f : ℕ). serial plan s f in
    passed-most (λ j. is_measured every k (s.epoch + j)) (λ j. term_of plan.size (observed plan (state (s.epoch + j)) t) quantity) (greatest_term plan.size quantity) (e - s.epoch)
    (λ j. term-most plan.size (observed plan (state (s.epoch + j)) t) quantity (measured plan (state (s.epoch + j)).bit (swept_slot plan (state (s.epoch + j)).bit t (slot_at (state (s.epoch + j)).slots t))))

pub epochs-few : (every k c e : ℕ) → e ≤ last_epoch → epochs_in_bin every k c e ≤ last_epoch
epochs-few every k c e most = let few = count-most (λ j. is_measured every k (c + j)) (e - c) in omega arith

-- ---- the greatest

pub sites : (l : ℕ) → IsLawfulSize l → (volume l ≤ 262144) × (bond_count l ≤ 786432)
sites l lawful = let most = volume-bound l lawful in (most, omega arith)

pub fifth-power : (l : ℕ) → IsLawfulSize l → l * (l * l * (l * l)) ≤ 1073741824
fifth-power l lawful =
    let side = lawful.1 in
    let face = mul-le l l 64 64 side side in
    let faces = mul-le (l * l) (l * l) 4096 4096 (omega arith) (omega arith) in
    let all = mul-le l (l * l * (l * l)) 64 16777216 side (omega arith) in
    omega arith

squares : (l : ℕ) → IsLawfulSize l → (bond_count l * bond_count l ≤ 618475290624) × (volume l * volume l ≤ 68719476736)
squares l lawful =
    let most = sites l lawful in
    let bonds = mul-le (bond_count l) (bond_count l) 786432 786432 most.1 most.1 in
    let volumes = mul-le (volume l) (volume l) 262144 262144 most.0 most.0 in
    (omega arith, omega arith)

fourths : (l : ℕ) → IsLawfulSize l → volume l * volume l * (volume l * volume l) ≤ 4722366482869645213696
fourths l lawful =
    let most = (squares l lawful).1 in
    let all = mul-le (volume l * volume l) (volume l * volume l) 68719476736 68719476736 most most in
    omega arith

pub distances-fit : (l : ℕ) → IsLawfulSize l → (last_epoch * (3 * (l * (l * l * (l * l)))) < 2 ^ 63) × (last_epoch * (6 * (l * (l * l * (l * l)))) < 2 ^ 63)
distances-fit l lawful = let most = fifth-power l lawful in (omega arith, omega arith)

pub quantities-fit : (l : ℕ) → IsLawfulSize l → (quantity : Quantity) → last_epoch * greatest_term l quantity < 2 ^ 127
quantities-fit l lawful Number = omega arith
quantities-fit l lawful Energies = let most = (sites l lawful).1 in omega arith
quantities-fit l lawful EnergySquares = let most = (squares l lawful).0 in omega arith
quantities-fit l lawful EnergyProducts = let most = (squares l lawful).0 in omega arith
quantities-fit l lawful Links = let most = (sites l lawful).1 in omega arith
quantities-fit l lawful LinkSquares = let most = (squares l lawful).0 in omega arith
quantities-fit l lawful Overlaps = let most = (sites l lawful).0 in omega arith
quantities-fit l lawful Magnitudes = let most = (sites l lawful).0 in omega arith
quantities-fit l lawful OverlapSquares = let most = (squares l lawful).1 in omega arith
quantities-fit l lawful OverlapFourths = let most = fourths l lawful in omega arith
quantities-fit l lawful EnergyOverlapSquares =
    let bonds = (sites l lawful).1 in
    let two = (squares l lawful).1 in
    let all = mul-le (2 * bond_count l) (volume l * volume l) 1572864 68719476736 (omega arith) two in
    omega arith
quantities-fit l lawful EnergyOverlapFourths =
    let bonds = (sites l lawful).1 in
    let four = fourths l lawful in
    let all = mul-le (2 * bond_count l) (volume l * volume l * (volume l * volume l)) 1572864 4722366482869645213696 (omega arith) four in
    omega arith
quantities-fit l lawful (InClass c) = omega arith
quantities-fit l lawful (Axes r) = let most = fifth-power l lawful in omega arith
quantities-fit l lawful (Faces r) = let most = fifth-power l lawful in omega arith
