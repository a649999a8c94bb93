-- The end, and the spins where they are printed.
use Rattle.std.proofs.Common.{◌∙◌, sym, refl}
use Rattle.std.proofs.lemmas.Bool.{and_parts, eqb-true}
use Rattle.glass_edges.proofs.Writing.{writes-failed, writes-stopped}
use Rattle.glass_engine.proofs.Reporting.{spins-printed}
use Rattle.glass_engine.proofs.report.put_tail.Goals as goal

pub write_spins-requires : goal.write_spins-requires
write_spins-requires g c =
    let rows = c.args.rows.now in
    c.requires (eqb-true rows.to rows.until (and_parts rows.orders.spins _ (sym c.prints.ensures ∙ c.if-prints.true)).1)

pub returns-in_err-end : goal.returns-in_err-end
returns-in_err-end g c = writes-failed _ c.from_residual.ensures.0 c.in_err-end.ensures refl

pub returns-in_err-write_spins : goal.returns-in_err-write_spins
returns-in_err-write_spins g c =
    writes-stopped _ c.from_residual-in_err-write_spins.ensures.0 c.in_ok-end.ensures c.in_err-write_spins.ensures
    (spins-printed _ _ _ (sym c.prints.ensures ∙ c.if-prints.true))
