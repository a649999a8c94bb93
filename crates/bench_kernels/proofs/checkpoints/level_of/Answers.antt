-- A state that was made one at one epoch is one.
use Rattle.std.proofs.Common.{sym, ap, subst}
use Rattle.plane_sweep.specs.Packed.{StandFits}
use Rattle.plane_sweep.specs.Uneven.{level_stand}
use Rattle.run_checkpoint.specs.Encoding.{FitsKind}
use Rattle.run_checkpoint.specs.declared.kinds.Kind.TheVariants as kinds
use Rattle.run_checkpoint.proofs.UnevenForm.{flattened-level}
use Rattle.bench_kernels.proofs.checkpoints.level_of.Goals as goal

pub returns : goal.returns
returns c =
    let flat = flattened-level c.args.plan.now c.args.stand c.slots.ensures.lawful c.requires in
    subst (FitsKind kinds.Level c.args.plan.now) (sym c.in_ok-level.ensures.level) (sym (ap level_stand flat), subst (StandFits c.args.plan.now) (sym flat) c.requires)
