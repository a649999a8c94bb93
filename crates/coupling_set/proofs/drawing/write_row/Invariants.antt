-- The bonds so far have their words, and those before them theirs.
use Rattle.std.proofs.Common.{◌≡◌, ℕ, ◌+◌, ◌<◌, get_or}
use Rattle.coupling_set.specs.CouplingWords.{bonds_of}
use Rattle.coupling_set.specs.KeptWords.{kept_on}
use Rattle.spin_model.specs.Words.{is_set}
use Rattle.coupling_set.proofs.drawing.write_row.Given as goal

abbrev pub invariant-bonds : goal.invariant-bonds
invariant-bonds l = record {
  written : (b j : ℕ) → j < l.k → bonds_of (kept_on l.lattice l.words) b (l.start + j) ≡ is_set (get_or l.row j 0) b;
  before : (b n : ℕ) → n < l.start → bonds_of (kept_on l.lattice l.words) b n ≡ bonds_of (kept_on l.lattice l.fn.words) b n;
}
