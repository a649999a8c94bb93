-- The bytes so far are read.
use Rattle.std.proofs.Common.{◌≡◌, ℕ, ◌+◌, ◌/◌, ◌<◌, length}
use Rattle.coupling_set.specs.CouplingWords.{bonds_of}
use Rattle.coupling_set.specs.CouplingsFile.{of_file}
use Rattle.coupling_set.specs.KeptWords.{kept_count, kept_on}
use Rattle.spin_model.specs.Lattice.{bond_count}
use Rattle.coupling_set.proofs.file_reading.read_samples_with.Given as goal

abbrev pub invariant-bytes : goal.invariant-bytes
invariant-bytes l = record {
  sized : length l.words ≡ kept_count l.lattice;
  room : length l.column ≡ 64;
  read : (b n : ℕ) → b < 64 → n < bond_count l.lattice → n / 8 < l.k
      → bonds_of (kept_on l.lattice l.words) b n ≡ of_file l.lattice l.bytes (l.first + b) n;
}
