-- The sums of one slot of one sample while a run goes on: none at its beginning, and behind each epoch what was observed in it more.
use Rattle.std.specs.Prelude.{ℕ, ◌==◌, if◌then◌else◌, ℤ, pos, ◌+ℤ◌}
use Rattle.scalar_rule.specs.Plan.{Plan}
use Rattle.scalar_rule.specs.Records.{is_recorded}
use Rattle.scalar_rule.specs.declared.sample.Sample.{Sample}
use Rattle.measured_sums.specs.EpochBins.{bin_of}
use Rattle.measured_sums.specs.MeasuredSums.{Observed, Quantity, term_of, sum_from}

-- by bin and quantity
abbrev pub RunningSums : Type 0
RunningSums = ℕ → Quantity → ℤ

-- over no epoch
abbrev pub no_sums : RunningSums
no_sums k quantity = pos 0

-- with an epoch f in which this was observed: its bin has the term of each quantity more, and the other bins stay
abbrev pub with_epoch : ℕ → ℕ → Observed → RunningSums → RunningSums
with_epoch l f seen sums k quantity = if bin_of f == k then sums k quantity +ℤ term_of l seen quantity else sums k quantity

-- behind epoch f: where it isn't measured, nothing is added
abbrev pub behind_epoch : ℕ → ℕ → ℕ → Observed → RunningSums → RunningSums
behind_epoch every l f seen sums k quantity = if is_recorded every f then with_epoch l f seen sums k quantity else sums k quantity

-- those of slot t in a run from a sample's state, over the measured epochs below e
abbrev pub sums_below : Plan → Sample → ℕ → ℕ → ℕ → RunningSums
sums_below plan s every t e k quantity = sum_from plan s every e t k quantity
