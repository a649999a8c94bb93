-- Updates worked by hand, computed from the definitions alone.
use Rattle.std.proofs.Common.{◌≡◌, ℕ, Bool, true, false, List, [], ◌∷◌, get_or, refl}
use Rattle.std.specs.Prelude.{map}
use Rattle.spin_model.specs.Steps.{count_below}
use Rattle.potts_glass.specs.Potts.{Surroundings, step_of, proposed, new_colour}
use Rattle.potts_glass.specs.PackedColours.{colour_in}

-- six neighbours of these colours, all by bonds of one sign
abbrev six : Bool → List ℕ → Surroundings
six negative colours = record { colour = λ k. get_or colours k 0; negative = λ k. negative }

-- the steps of the smallest and the greatest draw, and at the two limits between them
steps-of_draws : map step_of (0 ∷ 1431655765 ∷ 1431655766 ∷ 2863311530 ∷ 2863311531 ∷ 4294967295 ∷ []) ≡ 0 ∷ 0 ∷ 1 ∷ 1 ∷ 2 ∷ 2 ∷ []
steps-of_draws = refl

-- each step leads to another colour
steps-from_3 : map (proposed 3) (0 ∷ 1 ∷ 2 ∷ []) ≡ 0 ∷ 1 ∷ 2 ∷ []
steps-from_3 = refl

-- with step 0 and the draw 100, from colour 0: thresholds for the gaps 1 to 6
abbrev thresholds : List ℕ
thresholds = 101 ∷ 0 ∷ 0 ∷ 0 ∷ 0 ∷ 100 ∷ []

abbrev updated : Bool → List ℕ → ℕ
updated negative colours = new_colour thresholds 0 100 (six negative colours) 0

-- neighbours 0, 0, 0, 1, 1, 2 have the gap 1, and the draw is below its threshold
gap_1 : updated false (0 ∷ 0 ∷ 0 ∷ 1 ∷ 1 ∷ 2 ∷ []) ≡ 1
unfolding count_below
gap_1 = refl

-- six neighbours of the site's colour have the gap 6, and the draw is the threshold itself
gap_6 : updated false (0 ∷ 0 ∷ 0 ∷ 0 ∷ 0 ∷ 0 ∷ []) ≡ 0
unfolding count_below
gap_6 = refl

-- six of the proposed colour have the gap -6, as have six of the site's colour with J = -1, and six of a third colour 0
gap_-6 : updated false (1 ∷ 1 ∷ 1 ∷ 1 ∷ 1 ∷ 1 ∷ []) ≡ 1
unfolding count_below
gap_-6 = refl

gap_of_negative_bonds : updated true (0 ∷ 0 ∷ 0 ∷ 0 ∷ 0 ∷ 0 ∷ []) ≡ 1
unfolding count_below
gap_of_negative_bonds = refl

gap_0 : updated false (3 ∷ 3 ∷ 3 ∷ 3 ∷ 3 ∷ 3 ∷ []) ≡ 1
unfolding count_below
gap_0 = refl

-- sample 1 of the words 5 and 2
packed : colour_in (5 ∷ 2 ∷ []) 1 ≡ 2
packed = refl
