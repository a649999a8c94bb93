-- The last sweep is one more than those before it.
use Rattle.std.proofs.Common.{◌≡◌, ◌+◌, ◌-◌, ap, ap₂, ◌∙◌, arith}
use Rattle.scalar_rule.specs.Epoch.{swept_slot}
use Rattle.scalar_rule.specs.Plan.{dynamics_of}
use Rattle.scalar_rule.specs.Replica.{configuration_of, with_configuration}
use Rattle.scalar_rule.specs.Sweep.{sweeps}
use Rattle.scalar_rule.specs.declared.plain_copy.PlainCopy.{PlainCopy}
use Rattle.scalar_rule.specs.declared.sample.PlainSlot.{PlainSlot}
use Rattle.plane_sweep.specs.Packed.{part_copy}
use Rattle.plane_sweep.proofs.ColourSweeps.{sweeps-more}
use Rattle.slot_steps.proofs.totals.total_in_last_sweep.Goals as goal

pub returns-clause-swept : goal.returns-clause-swept
unfolding swept_slot
returns-clause-swept g c = λ b h.
    let plan = c.args.plan.now in
    let l = plan.size in
    let d = dynamics_of plan b c.args.slot in
    let k = c.sweeps-before.result - 1 in
    let all : k + 1 ≡ plan.sweeps = omega (arith, c.sweeps-before.ensures.value, c.lattice.ensures.lawful.some_sweeps) in
    let whole = λ (x : PlainCopy). ap (λ n. with_configuration x (sweeps d n (configuration_of x))) all in
    let x = part_copy l b c.args.duo.now.first in
    let y = part_copy l b c.args.duo.now.second in
    let first = sweeps-more d k x (part_copy l b c.sweep_duo_often.new.duo.first) _ (c.sweep_duo_and_count.ensures.swept_first b h) (c.sweep_duo_often.ensures.first b h) ∙ whole x in
    let second = sweeps-more d k y (part_copy l b c.sweep_duo_often.new.duo.second) _ (c.sweep_duo_and_count.ensures.swept_second b h) (c.sweep_duo_often.ensures.second b h) ∙ whole y in
    ap₂ (λ (u v : PlainCopy). let s : PlainSlot = record { first = u; second = v } in s) first second
