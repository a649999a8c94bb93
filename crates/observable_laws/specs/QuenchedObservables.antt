-- What is printed of a quench, by what `lines` and `age` print.
use Rattle.std.specs.Prelude.{◌≡◌, ℕ, ◌-◌, ◌*◌, ◌<◌, ◌≤◌, Bool, List}
use Rattle.spin_model.specs.SignedSums.{sum_of}
use Rattle.scalar_rule.specs.Plan.{Plan, slots_of, dynamics_of}
use Rattle.scalar_rule.specs.Epoch.{slot_at}
use Rattle.scalar_rule.specs.declared.sample.Sample.{Sample}
use Rattle.measured_sums.specs.OverlapField.{site_overlap, total_overlap, link_overlap, distance_correlation}
use Rattle.overlap_lines.specs.Overlaps.{link_sum, line_sum}
use Rattle.aging_run.specs.Aging.{two_time_overlap}
use Rattle.quenched_states.specs.StillRule.{still}
use Rattle.quenched_states.specs.Copies.{copy_of, two_time_field}

-- B at a distance is the sum of the three lines of that length
abbrev pub DistancesAreLines : Type 0
DistancesAreLines = (l : ℕ) (first second : List Bool) (r : ℕ)
    → distance_correlation l (site_overlap first second) r ≡ sum_of (λ d. line_sum l first second d r) 3

-- and A is the sum behind the link overlap
abbrev pub LinksAreLinkSums : Type 0
LinksAreLinkSums = (l : ℕ) (first second : List Bool) → link_overlap l (site_overlap first second) ≡ link_sum l first second

-- C of a copy at two epochs is the two-time overlap at the sweeps of these epochs
abbrev pub TwoTimesAreAging : Type 0
TwoTimesAreAging = (plan : Plan) (s : Sample) (i j t a : ℕ) → s.epoch ≤ i → i ≤ j → t < slots_of plan
    → total_overlap plan.size (two_time_field (slot_at (still plan s i).slots t) (slot_at (still plan s j).slots t) a)
    ≡ two_time_overlap (dynamics_of plan s.bit t) (plan.sweeps * (i - s.epoch)) (plan.sweeps * (j - i)) (copy_of (slot_at s.slots t) a)
