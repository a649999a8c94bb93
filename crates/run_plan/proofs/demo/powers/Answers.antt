use Rattle.std.proofs.Common.{◌∙◌, refl, sym, ap, arith, ◌*◌, ◌/◌}
use Rattle.std.proofs.lemmas.List.{take_more_set, length-set, length-replicate}
use Rattle.spin_model.proofs.Tables.{table-zero, table-more}
use Rattle.run_plan.specs.DemoPlan as model
use Rattle.run_plan.proofs.DemoTables.{power-more, product-small}
use Rattle.run_plan.proofs.demo.powers.Goals as goal

pub powers-init : goal.powers-init
powers-init g c = record {
  sized = length-replicate g.row.N 0;
  next = refl;
  small = c.requires;
  made = sym (table-zero _);
}

pub powers-preserved : goal.powers-preserved
powers-preserved g c =
    let more = table-more (model.power c.args.weight) c.powers.times in
    record {
      sized = simp length-set c.powers.invariant.sized;
      next = ap (λ power. power * c.args.weight / 4294967296) c.powers.invariant.next ∙ sym (power-more c.args.weight c.powers.times);
      small = product-small c.powers.power c.args.weight c.powers.invariant.small c.requires;
      made = take_more_set c.powers.found c.powers.times _ (omega (arith, c.powers.invariant.sized)) ∙ rw (c.powers.invariant.made, more, c.powers.invariant.next) refl;
    }
