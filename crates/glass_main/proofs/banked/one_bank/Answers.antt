use Rattle.std.proofs.Common.{arith, ◌≡◌, [], ◌∷◌, List, length, map, sym, ap, subst, ◌∙◌}
use Rattle.std.specs.Arc.{arc_value}
use Rattle.run_checkpoint.specs.BankEncoding.{HaveOneShape}
use Rattle.scalar_rule.specs.Plan.{Plan}
use Rattle.glass_main.proofs.LevelStarts.{of-one-bank, one-shape}
use Rattle.glass_main.proofs.banked.one_bank.Goals as goal

pub invariant_of-result : goal.invariant_of-result
invariant_of-result c =
    let one = c.in_ok-plans.ensures in
    let long = ap length one in
    let few = c.requires.few_samples in
    record {
      some = omega arith;
      few = omega arith;
      samples = omega arith;
      orders_are = of-one-bank c.args.planned.orders c.requires;
      shape = subst HaveOneShape (sym (ap (map arc_value) one)) (one-shape (arc_value c.in_ok-plan.plan));
    }
