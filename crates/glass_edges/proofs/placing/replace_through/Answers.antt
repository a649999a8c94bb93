-- Behind a fault the new file is removed.
use Rattle.std.proofs.Common.{sym, ◌∙◌}
use Rattle.glass_edges.proofs.SaveParts.{halfway, placed-well, placed-badly}
use Rattle.glass_edges.proofs.placing.replace_through.Goals as goal

pub returns-then-is_err : goal.returns-then-is_err
returns-then-is_err g c =
    placed-badly c.args.name.now c.args.fresh.now c.args.bytes.now c.requires _ _ _ _ _ (sym c.is_err.ensures.value ∙ c.if-is_err.true)
    (halfway c.args.name.now c.args.fresh.now c.args.bytes.now c.requires _ _ _ _ _ c.remove-placed.ensures c.make_and_rename-placed.ensures)
    c.remove.ensures

pub returns-else-is_err : goal.returns-else-is_err
returns-else-is_err g c =
    placed-well c.args.name.now c.args.fresh.now c.args.bytes.now c.requires _ _ _ (sym c.is_err.ensures.value ∙ c.if-is_err.false)
    (halfway c.args.name.now c.args.fresh.now c.args.bytes.now c.requires _ _ _ _ _ c.remove-placed.ensures c.make_and_rename-placed.ensures)
