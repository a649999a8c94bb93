-- The bonds so far have their words.
use Rattle.std.proofs.Common.{◌≡◌, ℕ, ◌+◌, ◌*◌, ◌<◌, length, slice_index}
use Rattle.spin_model.specs.Words.{is_set}
use Rattle.coupling_set.specs.CouplingWords.{bonds_of}
use Rattle.coupling_set.proofs.file_writing.gather.Given as goal

abbrev pub invariant-bonds : goal.invariant-bonds
invariant-bonds l = record {
  sized : length l.words ≡ 8;
  words : (j b : ℕ) → j < l.j → is_set (slice_index l.words j) b ≡ bonds_of l.couplings b (8 * l.k + j);
}
