-- What makes the definitions the physics: the laws.
use Rattle.std.specs.Prelude.{◌≡◌, ℕ, ◌+◌, ◌*◌, ◌^◌, ◌<◌, ◌≤◌, ◌==◌, if◌then◌else◌, max, pos, ◌+ℤ◌, List, length, slice_index, All, map}
use Rattle.finite_chance.specs.Chains.{AreNear, after}
use Rattle.spin_model.specs.Couplings.{Bonds}
use Rattle.spin_model.specs.Lattice.{IsLawfulSize, volume}
use Rattle.run_decisions.specs.Decisions.{sites_of}
use Rattle.potts_glass.specs.Potts.{Dynamics, State, proposed, votes, around, site_draw, half_sweep, energy}
use Rattle.potts_laws.specs.Changes.{changed, updated_by, proposing_draws, leading_draws}
use Rattle.potts_laws.specs.Weights.{weight, weight_of, AreThresholds}
use Rattle.potts_laws.specs.Equilibrium.{update_by, pair_of, partition, total, total_after, sweeps_sites}

-- an update writes a colour at its site and does nothing else
abbrev pub UpdatesKeepTheRest : Type 0
UpdatesKeepTheRest = (d : Dynamics) (colours : List ℕ) (i u v : ℕ) → i < length colours
    → updated_by d colours i u v ≡ changed colours i (slice_index (updated_by d colours i u v) i)

-- a third of the 2 ^ 32 draws each, but for one: 2 ^ 32 is no multiple of 3
abbrev pub ProposalsAreCounted : Type 0
ProposalsAreCounted = (c step : ℕ) → step < 3 → proposing_draws c (proposed c step) ≡ (if step == 0 then 1431655766 else 1431655765)

-- the gap, the votes for the old colour over the new one less those for the new one over the old, is the energy's change
abbrev pub GapIsEnergyChange : Type 0
GapIsEnergyChange = (d : Dynamics) (colours : List ℕ) (i c : ℕ) → IsLawfulSize d.size → length colours ≡ volume d.size → i < volume d.size
    → energy d.size d.bonds (changed colours i c) +ℤ pos (votes (around d.size d.bonds colours i) c (slice_index colours i))
    ≡ energy d.size d.bonds colours +ℤ pos (votes (around d.size d.bonds colours i) (slice_index colours i) c)

-- an energy greater by m makes a configuration (a / b) ^ m = exp(-m beta) times as likely
abbrev pub WeightsAreBoltzmann : Type 0
WeightsAreBoltzmann = (a b l : ℕ) (bonds : Bonds) (s t : List ℕ) (m : ℕ) → energy l bonds t ≡ energy l bonds s +ℤ pos m
    → weight a b l bonds t * b ^ m ≡ weight a b l bonds s * a ^ m

-- ---- detailed balance

-- the pairs that change the colour of site i to c times the weight of the configuration are those that change it back
-- times the weight of the other, to within e / s
abbrev pub Balances : ℕ → ℕ → ℕ → ℕ → Dynamics → List ℕ → ℕ → ℕ → Type 0
Balances e s a b d colours i c = AreNear e
    (s * (leading_draws d colours i c * weight_of a b d colours))
    (s * (leading_draws d (changed colours i c) i (slice_index colours i) * weight_of a b d (changed colours i c)))

-- an update balances each change to within the one draw by which proposals differ, and a third of the rounding, times the
-- greater weight: 1 + r / (3 s) parts of 2 ^ 32
abbrev pub UpdatesBalance : Type 0
UpdatesBalance = (r s a b : ℕ) (d : Dynamics) (colours : List ℕ) (i step : ℕ)
    → IsLawfulSize d.size → length colours ≡ volume d.size → i < volume d.size → slice_index colours i < 4 → step < 3
    → AreThresholds r s a b d.thresholds
    → Balances ((2 ^ 32 * s + 1431655766 * r) * max (weight_of a b d colours) (weight_of a b d (changed colours i (proposed (slice_index colours i) step))))
    s a b d colours i (proposed (slice_index colours i) step)

-- ---- equilibrium

-- any list of k updates, each by a pair of draws of its own, leaves the mean of an observable from 0 to m within
-- k m (3 + (1 + 2 / 2 ^ 32) r / s) parts of 2 ^ 32 of its mean in equilibrium. Both means are times s, the partition sum and
-- 2 ^ 64 for each update and once more
abbrev pub UpdatesStayNearEquilibrium : Type 0
UpdatesStayNearEquilibrium = (r s a b : ℕ) (d : Dynamics) (sites : List ℕ) (g : List ℕ → ℕ) (m : ℕ)
    → IsLawfulSize d.size → AreThresholds r s a b d.thresholds → All (λ i. i < volume d.size) sites → ((x : List ℕ) → g x ≤ m)
    → AreNear (length sites * (3 * (2 ^ 32 * s + 1431655766 * r)) * (2 ^ 64) ^ length sites * m * partition a b d)
    (s * (2 ^ 64 * total_after a b d sites g))
    (s * (2 ^ 64 * ((2 ^ 64) ^ length sites * total a b d g)))

-- a half sweep is such a list: the sites of its class in rising order, each by its two draws of 32 bits. A sweep is two
abbrev pub HalfSweepsAreUpdates : Type 0
HalfSweepsAreUpdates = (d : Dynamics) (c : ℕ) (s : State) → ((i : ℕ) → i < volume d.size → site_draw d.size s.words i 1 < 2 ^ 32)
    → (half_sweep d c s).colours ≡ after (update_by d) (sites_of d.size c) (map (pair_of (site_draw d.size s.words)) (sites_of d.size c)) s.colours

-- n sweeps of independent, equally likely draws are n L ^ 3 updates: the mean of an observable from 0 to m stays near its mean in
-- equilibrium
abbrev pub SweepsStayNearEquilibrium : Type 0
SweepsStayNearEquilibrium = (r s a b : ℕ) (d : Dynamics) (n : ℕ) (g : List ℕ → ℕ) (m : ℕ)
    → IsLawfulSize d.size → AreThresholds r s a b d.thresholds → ((x : List ℕ) → g x ≤ m)
    → AreNear (n * volume d.size * (3 * (2 ^ 32 * s + 1431655766 * r)) * (2 ^ 64) ^ (n * volume d.size) * m * partition a b d)
    (s * (2 ^ 64 * total_after a b d (sweeps_sites d.size n) g))
    (s * (2 ^ 64 * ((2 ^ 64) ^ (n * volume d.size) * total a b d g)))

-- the means are there, where a and b stand for a temperature above zero
abbrev pub PartitionIsPositive : Type 0
PartitionIsPositive = (a b : ℕ) (d : Dynamics) → 0 < a → 0 < b → 0 < partition a b d
