-- Both rules on six words worked by hand, computed from the definitions alone.
use Rattle.std.proofs.Common.{◌≡◌, ℕ, true, false, List, [], ◌∷◌, refl}
use Rattle.spin_model.specs.SiteRule.{heat_bath, metropolis}
use Rattle.local_rule.specs.SiteBits.{site_bits, set_count, lane_words}

-- 111110, 111100, 111000, 111000, 101000 and 001000 in binary
abbrev six_words : List ℕ
six_words = 62 ∷ 60 ∷ 56 ∷ 56 ∷ 40 ∷ 8 ∷ []

bits-4 : site_bits six_words 4 ≡ true ∷ true ∷ true ∷ true ∷ false ∷ false ∷ []
bits-4 = refl

-- heat bath with the draw 100: at one aligned neighbour it is the threshold itself, at two it is below, and at six any
-- draw is below
abbrev heat_row : List ℕ
heat_row = 0 ∷ 100 ∷ 101 ∷ 0 ∷ 0 ∷ 0 ∷ 4294967296 ∷ []

heat-1 : heat_bath heat_row (set_count six_words 1) 100 ≡ false
heat-1 = refl

heat-2 : heat_bath heat_row (set_count six_words 2) 100 ≡ true
heat-2 = refl

heat-3 : heat_bath heat_row (set_count six_words 3) 100 ≡ true
heat-3 = refl

heat-4 : heat_bath heat_row (set_count six_words 4) 100 ≡ false
heat-4 = refl

-- Metropolis with the draw 100, from spins of -1: at two satisfied bonds the spin flips by itself, at four the draw is
-- the threshold itself, at five it is below, and at six no draw is below
abbrev metropolis_row : List ℕ
metropolis_row = 100 ∷ 101 ∷ 0 ∷ 0 ∷ 0 ∷ 0 ∷ 0 ∷ []

metropolis-2 : metropolis metropolis_row (set_count six_words 2) 100 false ≡ true
metropolis-2 = refl

metropolis-3 : metropolis metropolis_row (set_count six_words 3) 100 false ≡ false
metropolis-3 = refl

metropolis-4 : metropolis metropolis_row (set_count six_words 4) 100 false ≡ false
metropolis-4 = refl

metropolis-5 : metropolis metropolis_row (set_count six_words 5) 100 false ≡ true
metropolis-5 = refl

-- lane 1 of three rows of two words
lane-1 : lane_words ((1 ∷ 2 ∷ []) ∷ (3 ∷ 4 ∷ []) ∷ (5 ∷ 6 ∷ []) ∷ []) 1 ≡ 2 ∷ 4 ∷ 6 ∷ []
lane-1 = refl
