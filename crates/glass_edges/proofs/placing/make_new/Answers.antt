-- The file is made, its bytes are written, and it is flushed.
use Rattle.glass_edges.proofs.SaveParts.{not-made, filled, unfilled, flushed-made}
use Rattle.glass_edges.proofs.placing.make_new.Goals as goal

pub returns-in_err-file : goal.returns-in_err-file
returns-in_err-file g c = not-made c.args.fresh.now c.args.bytes.now _ _ _ _ c.from_residual.ensures.0 c.in_err-file.ensures.does

pub returns-in_err-write_all : goal.returns-in_err-write_all
returns-in_err-write_all g c =
    unfilled c.args.fresh.now c.args.bytes.now _ _ _ _ _ _ c.from_residual-in_err-write_all.ensures.0
    c.in_ok-file.ensures.named c.in_ok-file.ensures.does.passed c.in_err-write_all.ensures.written

pub returns : goal.returns
returns g c =
    flushed-made c.args.fresh.now c.args.bytes.now _ _ _ _ _ c.in_ok-file.ensures.named
    (filled c.args.fresh.now c.args.bytes.now _ _ _ _ _ c.in_ok-file.ensures.named c.in_ok-file.ensures.does.passed c.in_ok-write_all.ensures.written)
    (rw c.write_all.ensures.named at c.flush.ensures)
