-- N sites side by side: a row of words for the low bits of their colours and one for the high bits, or a row for each
-- plane of a count. Lane i of each row is site i.
use Rattle.std.specs.Prelude.{ℕ, zero, suc, ◌+◌, ◌-◌, ◌*◌, ◌<◌, ◌≡◌, ◌==◌, ◌&&◌, Bool, false, not, if◌then◌else◌, List, [], ◌∷◌, length, slice_index, slice_index_or, slice_set}
use Rattle.coupling_set.specs.CouplingWords.{CouplingsView, bond_word}
use Rattle.multispin_word.specs.Planes.{differs}
use Rattle.spin_model.specs.Words.{is_set, one_if}
use Rattle.spin_model.specs.Lattice.{volume, half_plane, site_at, z_of, place_in_plane, previous, colour as class_of}
use Rattle.potts_glass.specs.Potts.{Dynamics, Surroundings, updated}
use Rattle.potts_glass.specs.PackedColours.{colour_in}
use Rattle.potts_glass.specs.declared.fours.Bonds.{Bonds}

-- the bit of sample b at site i in row n
abbrev pub bit_in : List (List ℕ) → ℕ → ℕ → ℕ → Bool
bit_in rows n i b = is_set (slice_index (slice_index_or rows n []) i) b

-- the two words of site i
abbrev pub site_in : List (List ℕ) → ℕ → List ℕ
site_in rows i = slice_index (slice_index_or rows 0 []) i ∷ slice_index (slice_index_or rows 1 []) i ∷ []

-- what sample b sees at site i, by the rows of the six neighbours and of the six bonds
abbrev pub seen_in : List (List (List ℕ)) → List (List ℕ) → ℕ → ℕ → Surroundings
seen_in near negative i b = record {
  colour = λ k. colour_in (site_in (slice_index_or near k []) i) b;
  negative = λ k. bit_in negative k i b;
}

-- the step of site i as two bits, the same in all samples: that it is not 1, and that it is not 0
abbrev pub IsStep : List (List ℕ) → ℕ → ℕ → Type 0
IsStep steps i step = (b : ℕ) → b < 64 → (bit_in steps 0 i b ≡ not (step == 1)) × (bit_in steps 1 i b ≡ not (step == 0))

-- the colour that a change of these bits leads to
abbrev pub led_to : List (List ℕ) → List (List ℕ) → ℕ → ℕ → ℕ
led_to own change i b =
    one_if (differs (bit_in own 0 i b) (bit_in change 0 i b)) + 2 * one_if (differs (bit_in own 1 i b) (bit_in change 1 i b))

-- whether a neighbour of colour s over a bond favours colour c over another
abbrev pub favours_one : Bool → ℕ → ℕ → ℕ → Bool
favours_one negative s c other = if negative then s == other else s == c

-- a vote of 0, 1 or 2, in two rows that are never both set
abbrev pub vote_in : List (List ℕ) → ℕ → ℕ → ℕ
vote_in rows i b = one_if (bit_in rows 0 i b) + 2 * one_if (bit_in rows 1 i b)

abbrev pub IsVote : List (List ℕ) → ℕ → ℕ → Type 0
IsVote rows i b = (bit_in rows 0 i b && bit_in rows 1 i b) ≡ false

-- a count in three rows
abbrev pub count_in : List (List ℕ) → ℕ → ℕ → ℕ
count_in rows i b = one_if (bit_in rows 0 i b) + 2 * one_if (bit_in rows 1 i b) + 4 * one_if (bit_in rows 2 i b)

-- the words of the bonds in direction d from the sites of class c in plane z, in their order
pub record HoldsPlane (couplings : CouplingsView) (c z d : ℕ) (words : List ℕ) : Type 0 where
  pub sized : length words ≡ half_plane couplings.size
  pub words_at : (j : ℕ) → j < volume couplings.size → class_of couplings.size j ≡ c → z_of couplings.size j ≡ z
      → slice_index words (place_in_plane couplings.size j) ≡ bond_word couplings j d

-- those of the bonds that lead ahead from these sites, and to them from behind
pub record AreBonds (couplings : CouplingsView) (c z : ℕ) (bonds : Bonds) : Type 0 where
  pub ahead_x : HoldsPlane couplings c z 0 bonds.ahead_x.now
  pub ahead_y : HoldsPlane couplings c z 1 bonds.ahead_y.now
  pub ahead_z : HoldsPlane couplings c z 2 bonds.ahead_z.now
  pub behind_x : HoldsPlane couplings (1 - c) z 0 bonds.behind_x.now
  pub behind_y : HoldsPlane couplings (1 - c) z 1 bonds.behind_y.now
  pub behind_z : HoldsPlane couplings (1 - c) (previous couplings.size z) 2 bonds.behind_z.now

-- the colours once n sites of a row, every second one from x on, have new colours, each by the colours before
unfoldable pub renewed : Dynamics → (ℕ → ℕ → ℕ) → ℕ → ℕ → ℕ → ℕ → List ℕ → List ℕ
renewed d draw_at x y z zero colours = colours
renewed d draw_at x y z (suc n) colours =
    slice_set (renewed d draw_at x y z n colours) (site_at d.size (x + 2 * n) y z) (updated d draw_at colours (site_at d.size (x + 2 * n) y z))
