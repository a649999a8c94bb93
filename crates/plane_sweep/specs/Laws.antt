-- What holds of the labels of disorder samples and of packed states, under every plan.
use Rattle.std.specs.Prelude.{◌≡◌, ℕ, ◌+◌, ◌<◌, List, length}
use Rattle.scalar_rule.specs.Epoch.{slot_at}
use Rattle.scalar_rule.specs.Plan.{Plan, pairs_of}
use Rattle.scalar_rule.specs.Serial.{serial}
use Rattle.scalar_rule.specs.Turns.{exchanged_pair}
use Rattle.scalar_rule.specs.declared.sample.PlainPair.{PlainPair}
use Rattle.scalar_rule.specs.declared.sample.PlainSlot.{PlainSlot}
use Rattle.scalar_rule.specs.declared.sample.Sample.{Sample}
use Rattle.plane_sweep.specs.Packed.{part, PermutesAt, PermutesLabels, StandFits}
use Rattle.plane_sweep.specs.StartingStates.{AreStartingStates}
use Rattle.plane_sweep.specs.declared.stand.Stand.{Stand}

-- the exchange of a pair trades labels or leaves them, so they stay the slots' numbers, each once
abbrev pub LabelsPermuteAfterExchange : Type 0
LabelsPermuteAfterExchange = (plan : Plan) (b k n : ℕ) (pair : PlainPair) (slots : List PlainSlot) → length slots ≡ n → k + 1 < n
    → PermutesAt n (λ t. slot_at slots t) → PermutesAt n (λ t. slot_at (exchanged_pair plan b k pair slots) t)

-- and so they do under the serial dynamics
abbrev pub LabelsPermuteAfterEpochs : Type 0
LabelsPermuteAfterEpochs = (plan : Plan) (s : Sample) (e : ℕ) → length s.pairs ≡ pairs_of plan → PermutesLabels plan s → PermutesLabels plan (serial plan s e)

-- a packed state that fits the plan stands for states that a run can start with
abbrev pub PartsAreStartingStates : Type 0
PartsAreStartingStates = (plan : Plan) (stand : Stand) → StandFits plan stand → AreStartingStates plan (λ b. part plan.size b stand)
