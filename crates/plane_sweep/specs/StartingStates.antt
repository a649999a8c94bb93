-- The states that the 64 disorder samples of a bank start with.
use Rattle.std.specs.Prelude.{◌≡◌, ℕ, ◌^◌, ◌<◌, All}
use Rattle.spin_model.specs.Words.{AreGeneratorWords}
use Rattle.scalar_rule.specs.Epoch.{slot_at, pair_at}
use Rattle.scalar_rule.specs.Laws.{HaveSameWords}
use Rattle.scalar_rule.specs.Plan.{Plan, slots_of, pairs_of}
use Rattle.scalar_rule.specs.Shape.{Fits}
use Rattle.scalar_rule.specs.declared.sample.Sample.{Sample}
use Rattle.plane_sweep.specs.Packed.{PermutesLabels}

-- the generators of a state are words of 32 bits
pub record HasGenerators (plan : Plan) (s : Sample) : Type 0 where
  pub first : (t : ℕ) → t < slots_of plan → All AreGeneratorWords (slot_at s.slots t).first.wheels
  pub second : (t : ℕ) → t < slots_of plan → All AreGeneratorWords (slot_at s.slots t).second.wheels
  pub first_exchange : (k : ℕ) → k < pairs_of plan → AreGeneratorWords (pair_at s.pairs k).first
  pub second_exchange : (k : ℕ) → k < pairs_of plan → AreGeneratorWords (pair_at s.pairs k).second

-- state b is that of bit b and fits the plan, its labels are the slots' numbers, each once in each replica, and all states
-- have one epoch and the same generators
pub record AreStartingStates (plan : Plan) (states : ℕ → Sample) : Type 0 where
  pub bit : (b : ℕ) → b < 64 → (states b).bit ≡ b
  pub fits : (b : ℕ) → b < 64 → Fits plan (states b)
  pub labels : (b : ℕ) → b < 64 → PermutesLabels plan (states b)
  pub together : (b : ℕ) → b < 64 → HaveSameWords plan (states b) (states 0)
  pub epoch : (states 0).epoch < 2 ^ 64
  pub generators : HasGenerators plan (states 0)
