use Rattle.std.proofs.Common.{sym, subst, ◌∙◌}
use Rattle.glass_engine.specs.BankRuns.{AreAbreast}
use Rattle.glass_engine.proofs.BankReports.{runs-abreast}
use Rattle.glass_engine.proofs.done.Done.banks.Goals as goal

pub returns-clause-value : goal.returns-clause-value
returns-clause-value c = c.deref.ensures.value ∙ c.self.view_is

pub returns-clause-abreast : goal.returns-clause-abreast
returns-clause-abreast c = subst AreAbreast (sym c.deref.ensures.value) (runs-abreast c.self.inside.banks.items c.self.invariant.runs c.self.invariant.ended)
