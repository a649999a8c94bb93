-- What is written grows up to all of the bytes.
use Rattle.std.proofs.Common.{◌≡◌, ◌-◌, ◌≤◌, length, take, Ok}
use Rattle.glass_edges.specs.Saves.{BySteps, WritesAll}
use Rattle.glass_edges.specs.declared.refused.Fault.{Fault}
use Rattle.glass_edges.proofs.placing.write_all.Given as goal

abbrev pub invariant-pieces : goal.invariant-pieces
invariant-pieces g l = record {
  within : l.at ≤ length l.bytes;
  written : BySteps (WritesAll {T = Unit {0}} {E = Fault} (g.F.Folders.name_of l.fn.file) (take l.at l.bytes) (Ok tt)) (g.F.Folders.past l.fn.folders) (g.F.Folders.past l.folders);
  named : g.F.Folders.name_of l.file ≡ g.F.Folders.name_of l.fn.file;
}

abbrev pub decreases-pieces : goal.decreases-pieces
decreases-pieces g l = length l.bytes - l.at
