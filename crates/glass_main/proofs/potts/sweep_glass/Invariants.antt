use Rattle.std.proofs.Common.{◌≡◌}
use Rattle.glass_main.specs.PottsRun.{potts_swept}
use Rattle.glass_main.proofs.potts.sweep_glass.Given as goal

abbrev pub invariant-sweeps : goal.invariant-sweeps
invariant-sweeps l = l.glass ≡ potts_swept l.row.values l.counter l.fn.glass
