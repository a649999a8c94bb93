use Rattle.std.proofs.Common.{List, length, ap, sym, ◌∙◌, subst}
use Rattle.spin_model.proofs.Tables.{length-table}
use Rattle.scalar_rule.specs.Shape.{FitSlots}
use Rattle.scalar_rule.specs.declared.sample.PlainSlot.{PlainSlot}
use Rattle.scalar_rule.proofs.OpeningShapes.{opening-fit}
use Rattle.scalar_rule.proofs.sample.Sample.opening_bank.Goals as goal

pub returns-clause-fits : goal.returns-clause-fits
returns-clause-fits c =
    let plan = c.args.plan.now in
    let F : List PlainSlot → Type 0 = λ xs. FitSlots plan xs in
    record {
      sample = c.requires.bit;
      slots = subst F (sym c.in_ok-opening_slots.ensures) (opening-fit plan c.args.start c.args.bank c.args.bit);
      pairs = ap length c.in_ok-opening_pairs.ensures ∙ length-table _ _;
    }
