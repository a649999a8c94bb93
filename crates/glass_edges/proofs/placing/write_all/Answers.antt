-- Each piece is written behind those that were written.
use Rattle.std.proofs.Common.{rules, arith, ◌∙◌}
use Rattle.glass_edges.proofs.PartsWritten.{write-more, write-failed}
use Rattle.glass_edges.proofs.placing.write_all.Goals as goal

pub pieces-preserved : goal.pieces-preserved
pieces-preserved g c = record {
  within = search (rules, arith);
  written = write-more _ c.args.bytes.now _ _ _ c.pieces.at c.in_ok-count.count _ c.pieces.invariant.named c.pieces.invariant.written c.in_ok-count.ensures.written;
  named = c.write.ensures.named ∙ c.pieces.invariant.named;
}

pub returns-in_err-count-clause-written : goal.returns-in_err-count-clause-written
returns-in_err-count-clause-written g c = write-failed _ c.args.bytes.now _ _ _ _ _ _ _ c.from_residual.ensures.0 c.pieces.invariant.named c.pieces.invariant.written c.in_err-count.ensures.failed
