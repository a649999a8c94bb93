use Rattle.std.proofs.Common.{Result, sym, subst}
use Rattle.coupling_set.specs.CouplingWords.{CouplingsView}
use Rattle.coupling_set.specs.declared.refused.CouplingsRefused.{CouplingsRefused}
use Rattle.coupling_set.specs.declared.refused.CouplingsRefused.TheVariants.{NoMemory}
use Rattle.glass_edges.specs.Refusals.{Gives}
use Rattle.run_plan.specs.declared.run_file.CouplingSource.{CouplingSource}
use Rattle.glass_main.specs.BankTables.{couplings_by}
use Rattle.glass_main.specs.Request.{bonds_in}
use Rattle.glass_main.proofs.BankPlans.{stored-by, gives-after}
use Rattle.glass_main.proofs.bank_tables.bank_couplings.Goals as goal

pub returns-in-File-clause-value : goal.returns-in-File-clause-value
returns-in-File-clause-value c =
    let file = c.args.file.now in
    let bytes = c.args.stored.now in
    let G : Result CouplingsView CouplingsRefused → Type 0 = λ r. Gives NoMemory (λ (x : CouplingsView). x) c.read_bank.result r in
    let S : CouplingSource → Type 0 = λ s. G (couplings_by file.lattice c.args.bank (bonds_in s file.lattice file.seed bytes)) in
    subst S (sym c.in-File.is) (subst G (stored-by c.in-File.field-0 file.lattice c.args.bank file.seed bytes)
    (gives-after NoMemory (λ (x : CouplingsView). x) c.read_bank.result _ c.read_bank.ensures.value))
