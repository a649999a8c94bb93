-- The bonds so far have their words, and those of other bytes are as they were.
use Rattle.std.proofs.Common.{◌≡◌, ◌≢◌, ℕ, ◌+◌, ◌-◌, ◌*◌, ◌/◌, ◌%◌, ◌<◌, length, slice_index}
use Rattle.coupling_set.specs.CouplingWords.{bonds_of}
use Rattle.coupling_set.specs.KeptWords.{kept_count, kept_on}
use Rattle.spin_model.specs.Lattice.{bond_count}
use Rattle.spin_model.specs.Words.{is_set}
use Rattle.coupling_set.proofs.file_reading.write_column.Given as goal

abbrev pub invariant-bonds : goal.invariant-bonds
invariant-bonds l = record {
  sized : length l.words ≡ kept_count l.lattice;
  written : (b n : ℕ) → b < 64 → n < bond_count l.lattice → n / 8 ≡ l.k → n < 8 * l.k + l.j
      → bonds_of (kept_on l.lattice l.words) b n ≡ is_set (slice_index l.column b) (7 - n % 8);
  others : (b n : ℕ) → b < 64 → n < bond_count l.lattice → n / 8 ≢ l.k
      → bonds_of (kept_on l.lattice l.words) b n ≡ bonds_of (kept_on l.lattice l.fn.words) b n;
}
