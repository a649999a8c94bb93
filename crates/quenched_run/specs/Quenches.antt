-- The states that a quench of banks of 64 samples keeps: a list of states, each of which is a list of banks.
use Rattle.std.specs.Prelude.{◌≡◌, ℕ, ◌<◌, ◌≤◌, List, [], length, take, slice_index_or}
use Rattle.scalar_rule.specs.Plan.{Plan}
use Rattle.scalar_rule.specs.declared.sample.Sample.{Sample}
use Rattle.plane_sweep.specs.Packed.{part}
use Rattle.plane_sweep.specs.declared.stand.Stand.{Stand}
use Rattle.quenched_states.specs.KeptStates.{time_at, kept_state, gone_on}
use Rattle.run_checkpoint.specs.BankEncoding.{BanksFit}

-- sample b of bank g of a state; `none` stands where there is no such bank
abbrev pub sample_in : Plan → Stand → List Stand → ℕ → ℕ → Sample
sample_in plan none banks g b = part plan.size b (slice_index_or banks g none)

-- and of state j
abbrev pub sample_at : Plan → Stand → List (List Stand) → ℕ → ℕ → ℕ → Sample
sample_at plan none states g b j = sample_in plan none (slice_index_or states j []) g b

-- the banks of a state fit the plans, and are at one epoch, which is no later than this
pub record AreInTime (plans : List Plan) (time : ℕ) (banks : List Stand) : Type 0 where
  pub epoch : ℕ
  pub fit : BanksFit epoch plans banks
  pub in_time : epoch ≤ time

-- the banks of each state fit the plans, and state j is at time j
abbrev pub AreAtTimes : List Plan → List ℕ → List (List Stand) → Type 0
AreAtTimes plans times states = (j : ℕ) → j < length states → BanksFit (time_at times j) plans (slice_index_or states j [])

-- the kept states of a quench that begins with a state: in each sample, those of the definition
pub record AreKept (plans : List Plan) (times : List ℕ) (base : List Stand) (states : List (List Stand)) : Type 0 where
  pub count : length states ≡ length times
  pub fit : AreAtTimes plans times states
  pub each : (g b j : ℕ) (d : Plan) (none : Stand) → g < length plans → b < 64 → j < length times
      → sample_at (slice_index_or plans g d) none states g b j
      ≡ kept_state (slice_index_or plans g d) (sample_in (slice_index_or plans g d) none base g b) times j

-- those of a quench that goes on from states that are held, which stay: in each sample, those of the definition
pub record AreGoneOn (plans : List Plan) (times : List ℕ) (held states : List (List Stand)) : Type 0 where
  pub count : length states ≡ length times
  pub fit : AreAtTimes plans times states
  pub stay : take (length held) states ≡ held
  pub each : (g b j : ℕ) (d : Plan) (none : Stand) → g < length plans → b < 64 → j < length times
      → sample_at (slice_index_or plans g d) none states g b j
      ≡ gone_on (slice_index_or plans g d) times (length held) (sample_at (slice_index_or plans g d) none held g b) j
