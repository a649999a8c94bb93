-- No test answers that memory ran out.
use Rattle.std.proofs.Common.{Err, refl}
use Rattle.glass_edges.proofs.FirstRefusals.{gives-after-tests-refusal}
use Rattle.plane_sweep.specs.declared.uneven.RaggedStand.{RaggedStand}
use Rattle.run_checkpoint.specs.UnevenDecoding.{any_decoded}
use Rattle.run_checkpoint.specs.declared.refused.CheckpointRefused.TheVariants as refused
use Rattle.run_checkpoint.proofs.Tested.{not-memory}
use Rattle.run_checkpoint.proofs.UnevenClauses.{any-tells}
use Rattle.run_checkpoint.proofs.uneven_decoding.read_any.Goals as goal

pub returns-in-Some : goal.returns-in-Some
unfolding any_decoded
returns-in-Some c =
    gives-after-tests-refusal {A = RaggedStand} refused.NoMemory (λ (stand : RaggedStand). stand) (Err c.in-Some.refused) c.in-Some.refused _ _ refl
    (not-memory c.in-Some.refused _ (any-tells c.args.plan.now c.args.samples c.args.every c.args.until c.args.bytes.now) c.in-Some.ensures.value)
    c.in-Some.ensures.value
