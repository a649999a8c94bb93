use Rattle.std.specs.Arc.{arc_value}
use Rattle.std.proofs.Common.{◌<◌, length, sym, subst, ◌∙◌, arith}
use Rattle.std.proofs.lemmas.List.{get_or-map, length-map}
use Rattle.scalar_rule.specs.Plan.{Plan}
use Rattle.plane_sweep.specs.Packed.{StandFits}
use Rattle.quenched_run.proofs.banks.sweep_one.Goals as goal

pub sweep_bank-requires-clause-fits : goal.sweep_bank-requires-clause-fits
sweep_bank-requires-clause-fits g c κs within =
    let plans = c.args.quench.now.plans.now in
    let inside : c.args.bank < length plans = omega (arith, c.requires.can.within, length-map plans arc_value) in
    let own = c.deref.result.now in
    subst (λ (plan : Plan). StandFits plan c.args.stand.now)
    (get_or-map arc_value plans c.args.bank c.index-quench-bank.result own inside ∙ sym c.deref.ensures) (c.requires.can.fits own)
