-- Values that were worked out with pencil and paper, so that a wrong definition of the words does not check.
use Rattle.std.proofs.Common.{◌≡◌, ◌+◌, ◌*◌, ◌^◌, ◌==◌, true, false, not, [], ◌∷◌, refl}
use Rattle.std.specs.Prelude.{map, take, count_by}
use Rattle.spin_model.specs.Steps.{table}
use Rattle.finite_chance.specs.Sums.{sum_lists}
use Rattle.fair_runs.specs.Equilibrium.{over_configurations, product_to, state_weight}
use Rattle.run_decisions.specs.Decisions.{Update, Exchange}
use Rattle.fair_runs.specs.Places.{first_place, last_place, count_about}
use Rattle.fair_runs.specs.Trapped.{layer, layered, layered_opposite}

-- 2 * 3 * 4
pub product_of_three : product_to 3 (λ k. k + 2) ≡ 24
unfolding product_to
product_of_three = refl

-- of three spins: one configuration has all up, three have two, three have one
pub spins_up_of_three : over_configurations 3 (λ s. count_by (λ b. b) s) ≡ 12
unfolding sum_lists
spins_up_of_three = refl

-- two places that weigh a spin up by 3 and by 5, and one down by 1
pub weight_of_two : state_weight 2 (λ p s. (p * 2 + 3) ^ count_by (λ b. b) s) ((true ∷ true ∷ []) ∷ (true ∷ false ∷ []) ∷ []) ≡ 45
unfolding product_to
weight_of_two = refl

-- size 4: site 0 is in layer 0, site 3 in layer 3, site 21, which is x = y = z = 1, in layer 3, and site 63 in layer 9, which
-- is 1; the rows of y = 0 and y = 1 begin up up down down, and up down down up
pub layers : (map (layer 4) (0 ∷ 3 ∷ 21 ∷ 63 ∷ []) ≡ 0 ∷ 3 ∷ 3 ∷ 1 ∷ [])
    × (take 8 (layered 4) ≡ true ∷ true ∷ false ∷ false ∷ true ∷ false ∷ false ∷ true ∷ [])
    × (map not (layered 4) ≡ layered_opposite 4)
unfolding table
layers = (refl, refl, refl)

-- two updates of place 1, one of place 0, and an exchange of places 1 and 2
pub decisions_about_one : count_about (λ p. p == 1) (Update 1 0 3 ∷ Update 0 0 3 ∷ Exchange 1 0 ∷ Update 1 1 5 ∷ []) ≡ 3
unfolding first_place
decisions_about_one = refl

pub exchange_reaches_next : last_place (Exchange 1 0) ≡ 2
unfolding last_place
exchange_reaches_next = refl
