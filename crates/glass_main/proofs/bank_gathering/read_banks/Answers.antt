use Rattle.std.proofs.Common.{sym, ◌∙◌, map, length}
use Rattle.std.specs.Arc.{arc_value}
use Rattle.std.proofs.lemmas.List.{length-map}
use Rattle.glass_main.proofs.BankPlans.{bonds-refused, none-by, all-shape}
use Rattle.glass_main.specs.ManyBanks.{bank_count}
use Rattle.glass_main.specs.Request.{bonds_in}
use Rattle.glass_main.proofs.bank_gathering.read_banks.Goals as goal

pub invariant_of-result : goal.invariant_of-result
invariant_of-result c =
    let file = c.args.file.now in
    let rules = c.args.rules.now.rules in
    let given = bonds_in file.couplings file.lattice file.seed c.args.stored.now in
    let plans = c.in-Ok.plans.items in
    let shape = all-shape file rules c.args.swaps.now.swaps given (bank_count file.orders.samples) (map arc_value plans) c.in-Ok.ensures in
    record {
      count = sym (length-map plans arc_value) ∙ shape.1;
      several = c.requires.several;
      orders_are = c.requires.lawful.orders;
      shape = record { size = file.lattice; slots = length rules.rows; shape = shape.0 };
    }

pub returns-in-Err-clause-cause : goal.returns-in-Err-clause-cause
returns-in-Err-clause-cause c = λ not.
    let file = c.args.file.now in
    let given = bonds_in file.couplings file.lattice file.seed c.args.stored.now in
    bonds-refused file.couplings file.lattice file.seed c.args.stored.now c.in-Err.refused
    (none-by file c.args.rules.now.rules c.args.swaps.now.swaps given (bank_count file.orders.samples) c.in-Err.refused (c.in-Err.ensures not)).0
