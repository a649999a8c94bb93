-- The samples so far have their bytes.
use Rattle.std.proofs.Common.{◌≡◌, ℕ, ◌+◌, ◌<◌, length, slice_index}
use Rattle.coupling_set.specs.CouplingsFile.{byte_at}
use Rattle.coupling_set.proofs.file_reading.gather.Given as goal

abbrev pub invariant-samples : goal.invariant-samples
invariant-samples l = record {
  sized : length l.column ≡ 64;
  bytes : (s : ℕ) → s < l.b → slice_index l.column s ≡ byte_at l.lattice l.bytes (l.first + s) l.k;
}
