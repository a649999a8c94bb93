-- No entry before this one has the name.
use Rattle.glass_edges.specs.Entries.{IsMissing}
use Rattle.glass_edges.proofs.entries.first_of.Given as goal

abbrev pub invariant-entries : goal.invariant-entries
invariant-entries l = IsMissing l.entries l.name l.i
