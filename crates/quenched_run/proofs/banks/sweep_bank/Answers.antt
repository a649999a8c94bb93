use Rattle.std.proofs.Common.{◌-◌, List, subst, sym}
use Rattle.scalar_rule.proofs.PlaneSweeps.{written_over}
use Rattle.plane_sweep.specs.Storing.{Changed}
use Rattle.plane_sweep.specs.declared.replica.Duo.{Duo}
use Rattle.scalar_rule.specs.Plan.{slots_of}
use Rattle.quenched_run.specs.Steps.{IsStill, IsStillSlot}
use Rattle.quenched_run.proofs.StillBanks.{bank-still}
use Rattle.quenched_run.proofs.banks.sweep_bank.Goals as goal

pub returns : goal.returns
returns g c =
    let plan = c.args.plan.now in
    let old = c.args.stand.now in
    let time = c.args.time in
    let new = c.sweep_slots.new.slots in
    let swept = subst (λ (xs : List Duo). Changed (IsStillSlot plan (time - old.epoch)) (slots_of plan) xs new) c.as_mut_slice-slots.ensures.value c.sweep_slots.ensures in
    subst (λ (xs : List Duo). IsStill plan time old (record { epoch = time; slots = xs; pairs = old.pairs })) (sym (written_over old.slots new swept.sized))
    (bank-still plan time old new c.requires.fits c.requires.time swept)
