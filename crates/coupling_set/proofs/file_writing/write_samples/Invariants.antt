-- The bytes so far are those of each sample.
use Rattle.std.proofs.Common.{◌≡◌, ℕ, ◌+◌, ◌*◌, ◌<◌, length, slice_index}
use Rattle.coupling_set.specs.CouplingWords.{bonds_of}
use Rattle.coupling_set.specs.CouplingsFile.{coupling_byte}
use Rattle.coupling_set.proofs.file_writing.write_samples.Given as goal

abbrev pub invariant-bytes : goal.invariant-bytes
invariant-bytes l = record {
  sized : length l.bytes ≡ l.samples * l.stride;
  room : length l.words ≡ 8;
  written : (s j : ℕ) → s < l.samples → j < l.k → slice_index l.bytes (s * l.stride + j) ≡ coupling_byte (bonds_of l.couplings s) j;
}
