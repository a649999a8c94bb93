use Rattle.std.proofs.Common.{rules, arith, sym}
use Rattle.spin_model.proofs.Tables.{count_below-zero, count_below-more}
use Rattle.scalar_rule.proofs.sums.unsatisfied_by.Goals as goal

pub bonds-init : goal.bonds-init
bonds-init g c = record {
  value = sym (count_below-zero _);
  within = search (rules, arith);
}

pub bonds-preserved : goal.bonds-preserved
bonds-preserved g c = record {
  value = rw (c.bonds.invariant.value, c.unsatisfied_at-count.ensures.value) (sym (count_below-more _ _));
  within = search (rules, arith);
}
