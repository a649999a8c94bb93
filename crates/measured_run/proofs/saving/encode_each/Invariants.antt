use Rattle.std.specs.Prelude.{flat_map}
use Rattle.std.proofs.Common.{◌≡◌, ◌+◌, ◌++◌, drop}
use Rattle.measured_run.specs.KeptRuns.{end_bytes, spare_for}
use Rattle.measured_run.proofs.saving.encode_each.Given as goal

abbrev pub invariant-banks : goal.invariant-banks
invariant-banks l = record {
  bytes : l.room.bytes ++ flat_map end_bytes (drop l.g l.banks) ≡ l.fn.room.bytes ++ flat_map end_bytes l.banks;
  spare : l.room.spare + spare_for l.banks ≡ l.fn.room.spare + spare_for (drop l.g l.banks);
}
