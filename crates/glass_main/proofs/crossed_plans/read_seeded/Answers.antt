-- Both lists of plans have the couplings that are read, or that are refused.
use Rattle.std.proofs.Common.{◌≡◌, map}
use Rattle.std.specs.Arc.{arc_value}
use Rattle.std.proofs.lemmas.Result.{err_from_is_err_and}
use Rattle.glass_main.specs.ManyBanks.{bank_count}
use Rattle.glass_main.specs.Request.{bonds_in}
use Rattle.glass_main.proofs.BankPlans.{all-by, bonds-refused}
use Rattle.glass_main.proofs.CrossedPlans.{cause-told, few-plans, plans-refused, seeded-by, seeded-refused}
use Rattle.glass_main.proofs.crossed_plans.read_seeded.Goals as goal

pub returns-in_err-first-clause-value : goal.returns-in_err-first-clause-value
returns-in_err-first-clause-value c =
    let file = c.args.file.now in
    let given = bonds_in file.couplings file.lattice file.seed c.args.stored.now in
    let p = err_from_is_err_and c.from_residual.result c.from_residual.ensures.1 in
    plans-refused c.from_residual.result p.0 c.in_err-first.field-0.0 _ p.1 p.2
    (λ not. (seeded-refused file c.args.rules.now.rules c.args.swaps.now.swaps file.seed (bank_count file.orders.samples) given c.in_err-first.field-0.0 (c.in_err-first.ensures not)).1)

pub returns-in_err-first-clause-cause : goal.returns-in_err-first-clause-cause
returns-in_err-first-clause-cause c =
    let file = c.args.file.now in
    let given = bonds_in file.couplings file.lattice file.seed c.args.stored.now in
    let p = err_from_is_err_and c.from_residual.result c.from_residual.ensures.1 in
    cause-told file.lattice c.args.stored.now c.from_residual.result p.0 c.in_err-first.field-0.0 p.1 p.2
    (λ not. bonds-refused file.couplings file.lattice file.seed c.args.stored.now c.in_err-first.field-0.0
    (seeded-refused file c.args.rules.now.rules c.args.swaps.now.swaps file.seed (bank_count file.orders.samples) given c.in_err-first.field-0.0 (c.in_err-first.ensures not)).0)

pub returns-in_err-second-clause-value : goal.returns-in_err-second-clause-value
returns-in_err-second-clause-value c =
    let file = c.args.file.now in
    let given = bonds_in file.couplings file.lattice file.seed c.args.stored.now in
    let p = err_from_is_err_and c.from_residual-in_err-second.result c.from_residual-in_err-second.ensures.1 in
    plans-refused c.from_residual-in_err-second.result p.0 c.in_err-second.field-0.0 _ p.1 p.2
    (λ not. (seeded-refused file c.args.rules.now.rules c.args.swaps.now.swaps c.args.seed (bank_count file.orders.samples) given c.in_err-second.field-0.0 (c.in_err-second.ensures not)).1)

pub returns-in_err-second-clause-cause : goal.returns-in_err-second-clause-cause
returns-in_err-second-clause-cause c =
    let file = c.args.file.now in
    let given = bonds_in file.couplings file.lattice file.seed c.args.stored.now in
    let p = err_from_is_err_and c.from_residual-in_err-second.result c.from_residual-in_err-second.ensures.1 in
    cause-told file.lattice c.args.stored.now c.from_residual-in_err-second.result p.0 c.in_err-second.field-0.0 p.1 p.2
    (λ not. bonds-refused file.couplings file.lattice file.seed c.args.stored.now c.in_err-second.field-0.0
    (seeded-refused file c.args.rules.now.rules c.args.swaps.now.swaps c.args.seed (bank_count file.orders.samples) given c.in_err-second.field-0.0 (c.in_err-second.ensures not)).0)

pub returns-clause-value : goal.returns-clause-value
returns-clause-value c =
    let file = c.args.file.now in
    let given = bonds_in file.couplings file.lattice file.seed c.args.stored.now in
    all-by file c.args.rules.now.rules c.args.swaps.now.swaps given (map arc_value c.in_ok-first.first.items) c.in_ok-first.ensures

pub returns-clause-kept : goal.returns-clause-kept
returns-clause-kept c =
    let file = c.args.file.now in
    let given = bonds_in file.couplings file.lattice file.seed c.args.stored.now in
    let rules = c.args.rules.now.rules in
    let swaps = c.args.swaps.now.swaps in
    let first = map arc_value c.in_ok-first.first.items in
    let second = map arc_value c.in_ok-second.second.items in
    record {
      are = few-plans file rules swaps given first c.requires.lawful.orders c.in_ok-first.ensures;
      second = seeded-by file rules swaps c.args.seed (bank_count file.orders.samples) given first second c.in_ok-first.ensures c.in_ok-second.ensures;
    }
