use Rattle.std.proofs.Common.{rules, arith, sym}
use Rattle.spin_model.proofs.Sites.{volume-bound}
use Rattle.spin_model.proofs.Tables.{count_below-zero, count_below-more}
use Rattle.scalar_rule.proofs.sums.agreeing.Goals as goal

pub overflow_add-count : goal.overflow_add-count
overflow_add-count c =
    let few = volume-bound c.requires.sites.0 c.requires.sites.1.0 in
    let sized = c.requires.sites.1.1 in
    search (rules, arith)

pub sites-init : goal.sites-init
sites-init c = record {
  value = sym (count_below-zero _);
  within = search (rules, arith);
}

pub sites-preserved : goal.sites-preserved
sites-preserved c = record {
  value = rw (c.sites.invariant.value, c.agreeing_at-count.ensures.value) (rw (c.as_slice-first.ensures, c.as_slice-second.ensures) (sym (count_below-more _ _)));
  within = search (rules, arith);
}
