-- The samples so far have their bits.
use Rattle.std.proofs.Common.{◌≡◌, ℕ, ◌<◌, slice_index}
use Rattle.spin_model.specs.Words.{is_set}
use Rattle.coupling_set.proofs.file_reading.word_of.Given as goal

abbrev pub invariant-samples : goal.invariant-samples
invariant-samples l = (s : ℕ) → s < l.b → is_set l.word s ≡ is_set (slice_index l.column s) l.place
