-- The couplings of the program as those of the definitions.
use Rattle.std.specs.Prelude.{◌≡◌, ◌^◌, ◌<◌, length, All}
use Rattle.spin_model.specs.Lattice.{IsLawfulSize}
use Rattle.coupling_set.specs.CouplingWords.{CouplingsView}
use Rattle.coupling_set.specs.KeptWords.{kept_count, kept_on}
use Rattle.coupling_set.specs.declared.couplings.Couplings.TheInside.{Inside}

abbrev pub view_of : Inside → CouplingsView
view_of couplings = kept_on couplings.lattice couplings.words

-- a lawful size, and all words of the planes and free words, each of 64 bits
pub record KeepsCouplings (couplings : Inside) : Type 0 where
  pub lawful : IsLawfulSize couplings.lattice
  pub sized : length couplings.words ≡ kept_count couplings.lattice
  pub in_range : All (λ word. word < 2 ^ 64) couplings.words
