use Rattle.std.proofs.Common.{map}
use Rattle.std.specs.Arc.{arc_value}
use Rattle.glass_main.specs.BankTables.{file_with_seed}
use Rattle.glass_main.specs.Request.{bonds_in}
use Rattle.glass_main.proofs.BankPlans.{AreFirst}
use Rattle.glass_main.proofs.bank_tables.plans_of.Given as goal

abbrev pub invariant-banks : goal.invariant-banks
invariant-banks l =
    AreFirst (file_with_seed l.fn.seed l.fn.file) l.fn.rules.rules l.fn.swaps.swaps (bonds_in l.fn.file.couplings l.fn.file.lattice l.fn.file.seed l.fn.stored) l.bank (map arc_value l.plans.items)
