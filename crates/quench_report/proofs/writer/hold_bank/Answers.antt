-- The bank's plan has the lattice of the heading.
use Rattle.std.proofs.Common.{◌≡◌, ℕ, ◌/◌, ◌<◌, length, map, subst, sym, ap, ◌∙◌, arith}
use Rattle.std.specs.Arc.{arc_value}
use Rattle.std.specs.Prelude.{All}
use Rattle.std.proofs.lemmas.List.{get_or-map, length-map}
use Rattle.scalar_rule.specs.Plan.{Plan}
use Rattle.quench_report.specs.Held.{HasBank}
use Rattle.quench_report.specs.States.{heading_of}
use Rattle.quench_report.proofs.Banks.{kept-banks, plan-size}
use Rattle.quench_report.proofs.writer.hold_bank.Goals as goal

pub measure-requires-clause-banks : goal.measure-requires-clause-banks
measure-requires-clause-banks c =
    let h = heading_of c.args.quench.now.head.now in
    let plans = c.args.quench.now.plans.now in
    let b = c.args.sample in
    let within : b / 64 < length plans = omega (arith, c.requires.kept.samples, c.requires.sample, length-map plans arc_value) in
    let size : c.deref-plan.result.now.size ≡ h.size =
    ap (λ (p : Plan). p.size) (c.deref-plan.ensures ∙ sym (get_or-map arc_value plans (b / 64) _ _ within))
    ∙ plan-size h (map arc_value plans) c.args.states.now b c.requires.kept c.requires.sample in
    subst (λ (l : ℕ). All (HasBank l h.slots (b / 64)) c.args.states.now) (sym size) (kept-banks h (map arc_value plans) c.args.states.now b c.requires.kept c.requires.sample)

pub returns-then-sample-eq0-clause-room : goal.returns-then-sample-eq0-clause-room
returns-then-sample-eq0-clause-room c =
    let head = c.args.quench.now.head.now in
    c.measure.ensures.room head.slots (length head.times.now) c.requires.room
