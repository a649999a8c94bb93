use Rattle.std.proofs.Common.{arith}
use Rattle.glass_edges.proofs.Writing.{writes-none, writes-more, writes-stopped}
use Rattle.sample_average.proofs.Pieces.{pieces-none, pieces-more, pieces-at}
use Rattle.sample_average.proofs.text.put_blocks.Goals as goal

pub parts-init : goal.parts-init
parts-init g c = writes-none (pieces-none _)

pub parts-preserved : goal.parts-preserved
parts-preserved g c = writes-more c.parts.invariant c.in_ok-put_without.ensures (pieces-more _ c.parts.block)

pub returns-in_err-put_without : goal.returns-in_err-put_without
returns-in_err-put_without g c =
    writes-stopped _ c.from_residual.ensures.0 c.parts.invariant c.in_err-put_without.ensures (pieces-at _ c.parts.block _ (omega (arith, c.parts-test.true, c.blocks-block-end.ensures.value)))
