-- The samples so far have this byte, and all other bytes are as they were.
use Rattle.std.proofs.Common.{◌≡◌, ◌≢◌, ℕ, ◌+◌, ◌-◌, ◌*◌, ◌<◌, length, slice_index}
use Rattle.spin_model.specs.Words.{is_set}
use Rattle.coupling_set.specs.BondsAsWords.{word_of}
use Rattle.coupling_set.proofs.file_writing.write_column.Given as goal

abbrev pub invariant-samples : goal.invariant-samples
invariant-samples l = record {
  sized : length l.bytes ≡ l.samples * l.stride;
  written : (s : ℕ) → s < l.b → slice_index l.bytes (s * l.stride + l.k) ≡ word_of (λ i. is_set (slice_index l.words (7 - i)) s) 8;
  others : (s j : ℕ) → s < l.samples → j < l.stride → j ≢ l.k
      → slice_index l.bytes (s * l.stride + j) ≡ slice_index l.fn.bytes (s * l.stride + j);
}
