use Rattle.std.proofs.Common.{ℕ, sym, subst}
use Rattle.glass_engine.specs.RecordPieces.{AreRowsFrom}
use Rattle.glass_engine.proofs.BankRows.{rows-ahead}
use Rattle.glass_engine.proofs.rows.recorded_before.Goals as goal

pub returns : goal.returns
returns c =
    let rows = c.args.rows.now in
    let R : ℕ → Type 0 = λ n. AreRowsFrom rows.driven.now rows.orders rows.slots c.args.epoch rows.to n in
    subst R (sym c.recorded_epochs.ensures) (rows-ahead rows.driven.now rows.orders rows.slots rows.from c.args.epoch rows.to c.requires.from c.requires.to c.requires.ready)
