-- What holds of the checkpoints whose link overlaps and correlation lines are printed.
use Rattle.std.specs.Prelude.{◌≡◌, ℕ, ◌≤◌, List, Ok}
use Rattle.spin_model.specs.Limits.{last_epoch}
use Rattle.run_checkpoint.specs.Decoding.{decoded, IsEncoded}
use Rattle.run_checkpoint.specs.Encoding.{encoding, AreBankStates}
use Rattle.scalar_rule.specs.Plan.{Plan, IsLawfulPlan}
use Rattle.scalar_rule.specs.declared.sample.Sample.{Sample}
use Rattle.plane_sweep.specs.Packed.{StandsFor}
use Rattle.plane_sweep.specs.declared.stand.Stand.{Stand}
use Rattle.glass_main.specs.CheckpointBytes.{AreBytes}

-- bytes that are read are the encoding of the states that their packed state stands for, which fit and are in time
abbrev pub ReadStatesAreEncoded : Type 0
ReadStatesAreEncoded = (plan : Plan) (bytes : List ℕ) (base : Stand) → IsLawfulPlan plan → AreBytes bytes
    → decoded plan last_epoch bytes ≡ Ok base → IsEncoded plan last_epoch bytes base

-- a packed state is read of the bytes that stands for the states
pub record IsRead (plan : Plan) (states : ℕ → Sample) (bytes : List ℕ) : Type 0 where
  pub base : Stand
  pub read : decoded plan last_epoch bytes ≡ Ok base
  pub stands : StandsFor plan states base

-- the encoding of states that fit at an epoch in time is read as them
abbrev pub EncodedStatesAreRead : Type 0
EncodedStatesAreRead = (plan : Plan) (states : ℕ → Sample) → IsLawfulPlan plan → AreBankStates plan states → (states 0).epoch ≤ last_epoch
    → IsRead plan states (encoding plan states)
