-- Observables that read some of the places: only the decisions about those places count.
use Rattle.std.specs.Prelude.{◌≡◌, ℕ, suc, ◌+◌, ◌*◌, ◌^◌, ◌≤◌, Bool, true, ◌==◌, List, length, All, count_by}
use Rattle.spin_model.specs.Steps.{count_below}
use Rattle.spin_model.specs.Lattice.{IsLawfulSize, volume}
use Rattle.scalar_rule.specs.Plan.{Plan, slots_of}
use Rattle.finite_chance.specs.Chains.{AreNear}
use Rattle.run_decisions.specs.Decisions.{Decision, Update, Exchange, IsDecisionOf, spins_at, places_of, replica_of, measured_decisions}
use Rattle.fair_runs.specs.Equilibrium.{BelongTo, partition, total, total_after}

-- the first and the last place that a decision is about
unfoldable pub first_place : Decision → ℕ
first_place (Update p sweep i) = p
first_place (Exchange p turn) = p

unfoldable pub last_place : Decision → ℕ
last_place (Update p sweep i) = p
last_place (Exchange p turn) = suc p

-- a decision that exchanges no place of a set with one outside of it
abbrev pub IsWithin : (ℕ → Bool) → Decision → Type 0
IsWithin chosen d = chosen (first_place d) ≡ chosen (last_place d)

-- how many decisions are about places of a set
abbrev pub count_about : (ℕ → Bool) → List Decision → ℕ
count_about chosen decisions = count_by (λ d. chosen (first_place d)) decisions

-- two states of as many places that agree at the places of a set
pub record AgreeAt (chosen : ℕ → Bool) (x y : List (List Bool)) : Type 0 where
  pub places : length x ≡ length y
  pub spins : (p : ℕ) → chosen p ≡ true → spins_at x p ≡ spins_at y p

-- an observable that reads those places alone
abbrev pub ReadsOnly : (ℕ → Bool) → (List (List Bool) → ℕ) → Type 0
ReadsOnly chosen g = (x y : List (List Bool)) → AgreeAt chosen x y → g x ≡ g y

-- the mean of such an observable from 0 to m changes by at most m (r / s) k / 2 ^ 32, with k the decisions about its places alone,
-- where none of these is exchanged with another place
abbrev pub OtherPlacesDontCount : Type 0
OtherPlacesDontCount = (r s : ℕ) (a b : ℕ → ℕ) (plan : Plan) (bit : ℕ) (chosen : ℕ → Bool) (decisions : List Decision) (g : List (List Bool) → ℕ) (m : ℕ)
    → IsLawfulSize plan.size → BelongTo r s a b plan → All (IsDecisionOf plan) decisions → All (IsWithin chosen) decisions → ReadsOnly chosen g → ((x : List (List Bool)) → g x ≤ m)
    → AreNear (count_about chosen decisions * r * (2 ^ 32) ^ length decisions * m * partition a b plan bit)
    (s * (2 ^ 32 * total_after a b plan bit decisions g))
    (s * (2 ^ 32 * ((2 ^ 32) ^ length decisions * total a b plan bit g)))

-- so that of an observable of one replica, in all slots, by the decisions about this replica: exchanges trade slots of one
abbrev pub OtherReplicaDoesntCount : Type 0
OtherReplicaDoesntCount = (r s : ℕ) (a b : ℕ → ℕ) (plan : Plan) (bit replica : ℕ) (decisions : List Decision) (g : List (List Bool) → ℕ) (m : ℕ)
    → IsLawfulSize plan.size → BelongTo r s a b plan → All (IsDecisionOf plan) decisions → ReadsOnly (λ p. replica_of plan p == replica) g → ((x : List (List Bool)) → g x ≤ m)
    → AreNear (count_about (λ p. replica_of plan p == replica) decisions * r * (2 ^ 32) ^ length decisions * m * partition a b plan bit)
    (s * (2 ^ 32 * total_after a b plan bit decisions g))
    (s * (2 ^ 32 * ((2 ^ 32) ^ length decisions * total a b plan bit g)))

-- of n epochs and the sweeps of the next at most this many decisions are about places of a set: for each of these places an
-- update of each site in each sweep, and an exchange in each of the n epochs
abbrev pub DecisionsAboutPlacesAreCounted : Type 0
DecisionsAboutPlacesAreCounted = (plan : Plan) (chosen : ℕ → Bool) (start n : ℕ)
    → count_about chosen (measured_decisions plan start n) ≤ count_below chosen (places_of plan) * (n * (plan.sweeps * volume plan.size + 1) + plan.sweeps * volume plan.size)

-- so a run with one slot, which has no exchange, changes the mean of an observable of one place, when it is measured after n
-- epochs and the sweeps of the next, by at most the updates of this place: half of all decisions
abbrev pub OnePlaceStaysNearEquilibrium : Type 0
OnePlaceStaysNearEquilibrium = (r s : ℕ) (a b : ℕ → ℕ) (plan : Plan) (bit start n p : ℕ) (g : List Bool → ℕ) (m : ℕ)
    → IsLawfulSize plan.size → BelongTo r s a b plan → slots_of plan ≡ 1 → ((spins : List Bool) → g spins ≤ m)
    → AreNear ((n + 1) * (plan.sweeps * volume plan.size) * r * (2 ^ 32) ^ length (measured_decisions plan start n) * m * partition a b plan bit)
    (s * (2 ^ 32 * total_after a b plan bit (measured_decisions plan start n) (λ x. g (spins_at x p))))
    (s * (2 ^ 32 * ((2 ^ 32) ^ length (measured_decisions plan start n) * total a b plan bit (λ x. g (spins_at x p)))))
