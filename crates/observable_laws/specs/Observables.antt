-- What the reports print as counts, as sums of signed numbers over the sites and the bonds, and how lines go around the boundary.
use Rattle.std.specs.Prelude.{◌≡◌, ℕ, ◌+◌, ◌-◌, ◌/◌, ◌%◌, ◌<◌, ◌≤◌, ℤ, pos, neg_ℤ, ◌*ℤ◌, if◌then◌else◌, Bool, List}
use Rattle.spin_model.specs.Couplings.{Bonds}
use Rattle.spin_model.specs.Lattice.{IsLawfulSize, volume, bond_count, forward}
use Rattle.spin_model.specs.SignedSums.{sum_of}
use Rattle.scalar_rule.specs.Sums.{overlap}
use Rattle.scalar_rule.specs.Sweep.{Dynamics}
use Rattle.scalar_rule.specs.declared.plain_copy.PlainCopy.{PlainCopy}
use Rattle.model_laws.specs.Energies.{spin_value, coupling_value}
use Rattle.overlap_lines.specs.Overlaps.{steps_on, link_sum, line_sum}
use Rattle.aging_run.specs.Aging.{spins_after, two_time_overlap}
use Rattle.potts_glass.specs.Potts.{is_equal, energy}

-- q of site i: the product of the two configurations' spins there
abbrev pub overlap_value : List Bool → List Bool → ℕ → ℤ
overlap_value first second i = spin_value first i *ℤ spin_value second i

-- - J [the two colours are equal] of bond n, which joins site n div 3 to its forward neighbour in direction n mod 3
abbrev pub potts_value : ℕ → Bonds → List ℕ → ℕ → ℤ
potts_value l bonds colours n = if is_equal l colours n then neg_ℤ (coupling_value bonds n) else pos 0

-- ---- the laws

-- the overlap 2 Q - V of the records is the sum of q over all sites
abbrev pub OverlapIsASum : Type 0
OverlapIsASum = (l : ℕ) (first second : List Bool) → overlap l first second ≡ sum_of (overlap_value first second) (volume l)

-- the link overlap's sum 2 n - 3 V is that of q q' over all bonds
abbrev pub LinkSumIsASum : Type 0
LinkSumIsASum = (l : ℕ) (first second : List Bool) → link_sum l first second
    ≡ sum_of (λ n. overlap_value first second (n / 3) *ℤ overlap_value first second (forward l (n / 3) (n % 3))) (bond_count l)

-- a line's sum 2 n - V is that of q q' over all sites and the sites r steps on
abbrev pub LineSumIsASum : Type 0
LineSumIsASum = (l : ℕ) (first second : List Bool) (d r : ℕ) → line_sum l first second d r
    ≡ sum_of (λ i. overlap_value first second i *ℤ overlap_value first second (steps_on l i d r)) (volume l)

-- r steps one way around are l - r steps the other way
abbrev pub LinesAreSymmetric : Type 0
LinesAreSymmetric = (l : ℕ) (first second : List Bool) (d r : ℕ) → IsLawfulSize l → d < 3 → r ≤ l
    → line_sum l first second d (l - r) ≡ line_sum l first second d r

-- the bonds are the pairs one step apart, in the three directions
abbrev pub LinksAreShortestLines : Type 0
LinksAreShortestLines = (l : ℕ) (first second : List Bool) → link_sum l first second ≡ sum_of (λ d. line_sum l first second d 1) 3

-- the two-time overlap is the sum over all sites of the product of the spin after `wait` sweeps and the spin t sweeps later
abbrev pub TwoTimeOverlapIsASum : Type 0
TwoTimeOverlapIsASum = (d : Dynamics) (wait t : ℕ) (replica : PlainCopy) → two_time_overlap d wait t replica
    ≡ sum_of (overlap_value (spins_after d wait replica) (spins_after d (wait + t) replica)) (volume d.size)

-- the Potts glass's energy is minus the sum of J over the bonds whose two colours are equal
abbrev pub PottsEnergyIsASum : Type 0
PottsEnergyIsASum = (l : ℕ) (bonds : Bonds) (colours : List ℕ) → energy l bonds colours ≡ sum_of (potts_value l bonds colours) (bond_count l)
