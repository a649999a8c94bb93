-- The couplings of 64 disorder samples on one lattice: a word of 64 bits for each bond, bit b set where J of sample b is -1.
use Rattle.std.specs.Prelude.{◌≡◌, ℕ, ◌+◌, ◌*◌, ◌/◌, ◌%◌, ◌^◌, ◌<◌, List, length, slice_index, All}
use Rattle.spin_model.specs.Words.{is_set}
use Rattle.spin_model.specs.Lattice.{volume, bond_count, compact, IsLawfulSize}
use Rattle.spin_model.specs.Couplings.{Bonds}

-- the side of the lattice, and the words: direction by direction, and in each the sites in compact order
pub record CouplingsView : Type 0 where
  pub size : ℕ
  pub words : List ℕ

-- where the word of the bond from site i in direction d stands
abbrev pub place_of : ℕ → ℕ → ℕ → ℕ
place_of l i d = d * volume l + compact l i

-- the word of that bond
abbrev pub bond_word : CouplingsView → ℕ → ℕ → ℕ
bond_word couplings i d = slice_index couplings.words (place_of couplings.size i d)

-- the couplings of sample b: bond n joins site n div 3 to its forward neighbour in direction n mod 3
abbrev pub bonds_of : CouplingsView → ℕ → Bonds
bonds_of couplings b = λ n. is_set (bond_word couplings (n / 3) (n % 3)) b

-- such words on a lattice of side l
abbrev pub words_on : ℕ → List ℕ → CouplingsView
words_on l words = record { size = l; words = words }

-- each of the 64 samples has at each bond the coupling that is given for the sample and the bond
abbrev pub HasBonds : CouplingsView → (ℕ → Bonds) → Type 0
HasBonds couplings bonds = (b n : ℕ) → b < 64 → n < bond_count couplings.size → bonds_of couplings b n ≡ bonds b n

-- a lawful size, and as many words of 64 bits as there are bonds
pub record AreCouplings (couplings : CouplingsView) : Type 0 where
  pub lawful : IsLawfulSize couplings.size
  pub sized : length couplings.words ≡ bond_count couplings.size
  pub in_range : All (λ word. word < 2 ^ 64) couplings.words
