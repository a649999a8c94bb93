-- The states that a quench keeps, at times that rise.
use Rattle.std.specs.Prelude.{ℕ, ◌+◌, ◌-◌, ◌<◌, ◌≤◌, nat_lt, if◌then◌else◌, List, length, slice_index, All}
use Rattle.spin_model.specs.Limits.{last_epoch}
use Rattle.scalar_rule.specs.Plan.{Plan}
use Rattle.scalar_rule.specs.declared.sample.Sample.{Sample}
use Rattle.quenched_states.specs.StillRule.{still}

-- the most times of a quench
abbrev pub most_times : ℕ
most_times = 32

-- the times: epochs, each above the one before it
pub record AreQuenchTimes (times : List ℕ) : Type 0 where
  pub some : 1 ≤ length times
  pub few : length times ≤ most_times
  pub each : All (λ time. time ≤ last_epoch) times
  pub rising : (k : ℕ) → k + 1 < length times → slice_index times k < slice_index times (k + 1)

-- time j
abbrev pub time_at : List ℕ → ℕ → ℕ
time_at times j = slice_index times j

-- kept state j of a quench that begins with a state
abbrev pub kept_state : Plan → Sample → List ℕ → ℕ → Sample
kept_state plan s times j = still plan s (time_at times j)

-- state j of a quench that goes on: the first ones are held, at least one of them, and the others are made from the last of these
abbrev pub gone_on : Plan → List ℕ → ℕ → (ℕ → Sample) → ℕ → Sample
gone_on plan times count held j = if nat_lt j count then held j else still plan (held (count - 1)) (time_at times j)
