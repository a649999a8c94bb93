use Rattle.std.proofs.Common.{◌≡◌, ◌≤◌, ◌*◌}
use Rattle.std.specs.Prelude.{unsigned_abs}
use Rattle.spin_model.specs.SignedSums.{sum_of}
use Rattle.glass_engine.specs.RecordPieces.{piece}
use Rattle.glass_engine.specs.Summary.{both_energies}
use Rattle.glass_engine.proofs.summary.slot_energy.Given as goal

abbrev pub invariant-samples : goal.invariant-samples
invariant-samples l = record {
  sum : l.sum ≡ sum_of (λ b. both_energies (piece l.records l.slots b) l.slot) l.b;
  few : unsigned_abs l.sum ≤ 4294967296 * l.b;
}
