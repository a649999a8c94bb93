-- What is left of the bank is its state at the last epoch, and the sums of its slots.
use Rattle.std.specs.Arc.{arc_value}
use Rattle.std.proofs.Common.{◌≡◌, ◌<◌, ap, sym, subst, ◌∙◌, arith}
use Rattle.scalar_rule.specs.Plan.{Plan, IsLawfulPlan, slots_of}
use Rattle.measured_run.specs.Banks.{BankAt, start_of}
use Rattle.measured_run.specs.Cells.{sums_in}
use Rattle.measured_run.specs.Ends.{IsEnd, HasEnded, HasEndRoom, HoldsSlots}
use Rattle.measured_run.specs.Keeps.{bank_at, KeepsCells}
use Rattle.measured_run.specs.Opens.{duos_in}
use Rattle.measured_run.proofs.Ended.{is-end, holds-slots}
use Rattle.measured_run.proofs.driven.take_apart.Goals as goal
use Rattle.measured_run.proofs.driven.take_apart.Goals.{After-of}

last : (c : After-of) → c.bank.inside.epoch ≡ c.bank.inside.until
last c = subst (λ (v : BankAt). v.epoch ≡ v.bank.until) (sym c.bank.view_is) c.requires.ended

keeps : (c : After-of) → KeepsCells (arc_value c.bank.inside.plan) (start_of (arc_value c.bank.inside.plan) c.bank.inside.base.value) c.bank.inside.every c.bank.inside.until
    c.bank.inside.until c.bank.inside.cells c.bank.inside.pairs
keeps c =
    let b = c.bank.inside in
    let plan = arc_value b.plan in
    subst (λ e. KeepsCells plan (start_of plan b.base.value) b.every b.until e b.cells b.pairs) (last c) c.bank.invariant.cells

room : (c : After-of) → HasEndRoom (bank_at c.bank.inside).bank c.args.room
room c = subst (λ (v : BankAt). HasEndRoom v.bank c.args.room) (sym c.bank.view_is) c.requires.room

some : (c : After-of) → 0 < slots_of (arc_value c.bank.inside.plan)
some c =
    let lawful = subst (λ (p : Plan). IsLawfulPlan p) c.deref.ensures c.slots.ensures.lawful in
    omega (arith, lawful.rules.some)

are : (c : After-of) → duos_in c.bank.inside.cells ≡ c.of.result
are c = sym (c.of.ensures ∙ c.part_cells-duos.ensures.duos ∙ ap duos_in c.into_vec.ensures)

end : (c : After-of) → IsEnd (bank_at c.bank.inside).bank
    (record { places = c.args.room.places; slots = c.of.result; pairs = c.bank.inside.pairs; pending = c.args.room.pending })
end c =
    let b = c.bank.inside in
    is-end (arc_value b.plan) b.base.value b.every b.until b.cells b.pairs c.of.result c.bank.invariant.fits c.bank.invariant.until (some c) (are c) (keeps c)
    c.args.room.places c.args.room.pending (room c).places (room c).pending

pub returns-clause-sums : goal.returns-clause-sums
returns-clause-sums c =
    let at = (goal.at.returns-clause-sums c).After-of in
    let b = c.bank.inside in
    subst (λ (v : BankAt). HoldsSlots v.bank c.of-2.result) c.bank.view_is
    (holds-slots (arc_value b.plan) b.base.value b.every b.until b.cells b.pairs c.of.result c.bank.invariant.fits c.bank.invariant.until (some at) (are at) (keeps at)
    c.of-2.result (c.of-2.ensures ∙ c.part_cells-duos.ensures.sums ∙ ap sums_in c.into_vec.ensures))

pub invariant_of-done : goal.invariant_of-done
invariant_of-done c = record {
  base = c.bank.invariant.fits;
  from = omega (arith, c.bank.invariant.from, c.bank.invariant.to);
  until = c.bank.invariant.until;
  end = end c;
}

pub returns-clause-end : goal.returns-clause-end
returns-clause-end c =
    let at = (goal.at.returns-clause-end c).After-of in
    subst (λ (v : BankAt). HasEnded v.bank) c.bank.view_is (record { stand = _; end = end at })
