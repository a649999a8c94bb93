-- What holds of the length of the checkpoints that runs save: none is above the limit of one that is read.
use Rattle.std.specs.Prelude.{ℕ, ◌≤◌, List, length}
use Rattle.run_checkpoint.specs.BankEncoding.{banks_encoding, AreBanks}
use Rattle.run_checkpoint.specs.Encoding.{encoding, AreBankStates}
use Rattle.plane_sweep.specs.Uneven.{RaggedStandFits}
use Rattle.plane_sweep.specs.declared.uneven.RaggedStand.{RaggedStand}
use Rattle.scalar_rule.specs.Plan.{Plan, IsLawfulPlan}
use Rattle.scalar_rule.specs.declared.sample.Sample.{Sample}
use Rattle.glass_main.specs.Request.{limit_of}
use Rattle.glass_main.specs.ResumeLaws.{AreBankPlans}
use Rattle.glass_main.specs.Stops.{stopped_checkpoint}
use Rattle.glass_main.specs.declared.planned.Planned.{Planned}
use Rattle.glass_main.specs.declared.role.Role.TheVariants.{Checkpoint}

-- as many bytes as are read of a checkpoint, or fewer
abbrev pub IsReadWhole : List ℕ → Type 0
IsReadWhole bytes = length bytes ≤ limit_of Checkpoint

-- of states of 64 samples at one epoch that fit; of a state that fits at which a run stopped; of states of 2 to 4 banks that fit
pub record SavedCheckpointsAreShort : Type 0 where
  pub level : (plan : Plan) (states : ℕ → Sample) → IsLawfulPlan plan → AreBankStates plan states → IsReadWhole (encoding plan states)
  pub stopped : (planned : Planned) (came : RaggedStand) → IsLawfulPlan planned.plan → RaggedStandFits planned.plan planned.orders.samples planned.orders.every came
      → IsReadWhole (stopped_checkpoint planned came)
  pub banks : (epoch : ℕ) (plans : List Plan) (states : List (ℕ → Sample)) → AreBankPlans plans → AreBanks epoch plans states → IsReadWhole (banks_encoding plans states)
