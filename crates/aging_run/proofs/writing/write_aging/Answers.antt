-- The three parts of the text, and where each fails.
use Rattle.std.proofs.Common.{refl}
use Rattle.glass_edges.proofs.Writing.{writes-first, writes-more, writes-stopped}
use Rattle.aging_run.proofs.Slots.{text-is}
use Rattle.aging_run.proofs.writing.write_aging.Goals as goal

pub returns-in_err-write_header : goal.returns-in_err-write_header
returns-in_err-write_header g c =
    writes-first _ _ c.from_residual.ensures.0 c.in_err-write_header.ensures
    (text-is c.args.plan.now c.args.samples c.args.wait c.args.times.now c.args.aging c.aging.inside.stand c.aging.view_is)

pub returns-in_err-write_slots : goal.returns-in_err-write_slots
returns-in_err-write_slots g c =
    writes-stopped _ c.from_residual-in_err-write_slots.ensures.0 c.in_ok-write_header.ensures c.in_err-write_slots.ensures
    (text-is c.args.plan.now c.args.samples c.args.wait c.args.times.now c.args.aging c.aging.inside.stand c.aging.view_is)

pub returns : goal.returns
returns g c =
    writes-more (writes-more c.in_ok-write_header.ensures c.in_ok-write_slots.ensures refl) c.write_end.ensures
    (text-is c.args.plan.now c.args.samples c.args.wait c.args.times.now c.args.aging c.aging.inside.stand c.aging.view_is)
