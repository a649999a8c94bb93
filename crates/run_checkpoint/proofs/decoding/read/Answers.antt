-- No test answers that memory ran out.
use Rattle.run_checkpoint.specs.Decoding.{decoded}
use Rattle.glass_edges.proofs.FirstRefusals.{gives-after-tests-refusal}
use Rattle.run_checkpoint.proofs.LevelClauses.{level-tells}
use Rattle.run_checkpoint.proofs.Tested.{not-memory}
use Rattle.std.proofs.Common.{Err, refl}
use Rattle.plane_sweep.specs.declared.stand.Stand.{Stand}
use Rattle.run_checkpoint.specs.declared.refused.CheckpointRefused.TheVariants as refused
use Rattle.run_checkpoint.proofs.decoding.read.Goals as goal

pub returns-in-Some : goal.returns-in-Some
unfolding decoded
returns-in-Some c =
    gives-after-tests-refusal {A = Stand} refused.NoMemory (λ (stand : Stand). stand) (Err c.in-Some.refused) c.in-Some.refused _ _ refl
    (not-memory c.in-Some.refused _ (level-tells c.args.plan.now c.args.until c.args.bytes.now) c.in-Some.ensures.value)
    c.in-Some.ensures.value
