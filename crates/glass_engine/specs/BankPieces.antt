-- The states that banks which were driven ended with.
use Rattle.std.specs.Prelude.{◌≡◌, ℕ, List, map}
use Rattle.run_checkpoint.specs.Encoding.{flattened}
use Rattle.scalar_rule.specs.Plan.{IsLawfulPlan}
use Rattle.scalar_rule.specs.declared.sample.Sample.{Sample}
use Rattle.plane_sweep.specs.Packed.{part, StandFits}
use Rattle.plane_sweep.specs.Uneven.{level_stand}
use Rattle.glass_engine.specs.Runs.{DoneView}

-- a bank ended with every slot at rest at one epoch, in a state that fits its plan, which is lawful
pub record EndsLevel (d : DoneView) : Type 0 where
  pub lawful : IsLawfulPlan d.run.plan
  pub level : d.ended.stand ≡ level_stand (flattened d.ended.stand)
  pub fits : StandFits d.run.plan (flattened d.ended.stand)

abbrev pub ends_in : List DoneView → List (ℕ → Sample)
ends_in ds = map (λ (d : DoneView) (b : ℕ). part d.run.plan.size b (flattened d.ended.stand)) ds
