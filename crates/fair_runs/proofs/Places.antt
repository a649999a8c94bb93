-- Decisions about other places leave what stands at chosen places as it is, and so do not count for an observable of these.
use Rattle.std.proofs.Common.{inl, inr, ◌≡◌, ◌≢◌, ℕ, zero, suc, ◌+◌, ◌-◌, ◌*◌, ◌^◌, ◌<◌, ◌≤◌, Bool, true, false, cond, ◌==◌, List, [], ◌∷◌, length, get_or, set, refl, ap, sym, subst, ◌∙◌, arith}
use Rattle.std.specs.Prelude.{All}
use Rattle.std.proofs.Math.Nat.{mul-le-mul_left}
use Rattle.std.proofs.lemmas.Bool.{cases_Bool, cases_lt, eq-eqb, lt-ltb, le-ltb}
use Rattle.std.proofs.lemmas.List.{get_or-set_other, length-set}
use Rattle.std.proofs.lemmas.List.Elements.{All-weaker}
use Rattle.spin_model.specs.Lattice.{IsLawfulSize, volume, colour}
use Rattle.coupling_set.specs.CouplingWords.{bonds_of}
use Rattle.scalar_rule.specs.Plan.{Plan, slots_of, dynamics_of}
use Rattle.scalar_rule.specs.Sums.{unsatisfied}
use Rattle.scalar_rule.specs.Sweep.{visit}
use Rattle.scalar_rule.specs.Exchange.{is_swapped}
use Rattle.finite_chance.specs.Chains.{AreNear}
use Rattle.run_decisions.specs.Decisions.{Decision, Update, Exchange, IsDecisionOf, decide, slot_of, spins_at, replica_of, measured_decisions}
use Rattle.run_decisions.proofs.Lawful.{measured-lawful}
use Rattle.fair_runs.specs.Equilibrium.{over_states, BelongTo, boltzmann, partition, total, total_after}
use Rattle.fair_runs.specs.Places.{first_place, last_place, IsWithin, count_about, AgreeAt, ReadsOnly}
use Rattle.fair_runs.proofs.Decided.{IsState, states-are-sum}
use Rattle.fair_runs.proofs.Equilibrium.{decision-fair}
use Rattle.fair_runs.proofs.Partly.{IsPartlyFair, chain-partly}
use Rattle.fair_runs.proofs.PlaceCounts.{one-place_count}

-- ---- states that agree

told : true ≢ false
told clash = cc

unlike : (chosen : ℕ → Bool) (p q : ℕ) → chosen p ≡ false → chosen q ≡ true → q ≢ p
unlike chosen p q off on here = told (sym on ∙ ap chosen here ∙ off)

set-alike : {A : Type 0} (x y : List A) (p q : ℕ) (v d : A) → length x ≡ length y → get_or x q d ≡ get_or y q d → get_or (set x p v) q d ≡ get_or (set y p v) q d
set-alike [] [] p q v d long same = refl
set-alike [] (b ∷ y) p q v d long same = absurd (omega arith)
set-alike (a ∷ x) [] p q v d long same = absurd (omega arith)
set-alike (a ∷ x) (b ∷ y) zero zero v d long same = refl
set-alike (a ∷ x) (b ∷ y) zero (suc q) v d long same = same
set-alike (a ∷ x) (b ∷ y) (suc p) zero v d long same = same
set-alike (a ∷ x) (b ∷ y) (suc p) (suc q) v d long same = set-alike x y p q v d (omega arith) same

agree-set : (chosen : ℕ → Bool) (x y : List (List Bool)) (p : ℕ) (v : List Bool) → AgreeAt chosen x y → AgreeAt chosen (set x p v) (set y p v)
agree-set chosen x y p v agree = record {
  places = length-set x p v ∙ agree.places ∙ sym (length-set y p v);
  spins = λ q on. set-alike x y p q v [] agree.places (agree.spins q on);
}

agree-back : (chosen : ℕ → Bool) (x y : List (List Bool)) → AgreeAt chosen x y → AgreeAt chosen y x
agree-back chosen x y agree = record { places = sym agree.places; spins = λ q on. sym (agree.spins q on) }

agree-on : (chosen : ℕ → Bool) (x y z : List (List Bool)) → AgreeAt chosen x y → AgreeAt chosen y z → AgreeAt chosen x z
agree-on chosen x y z one other = record { places = one.places ∙ other.places; spins = λ q on. one.spins q on ∙ other.spins q on }

agree-itself : (chosen : ℕ → Bool) (x : List (List Bool)) → AgreeAt chosen x x
agree-itself chosen x = record { places = refl; spins = λ q on. refl }

-- a place outside written over
set-outside : (chosen : ℕ → Bool) (x : List (List Bool)) (p : ℕ) (v : List Bool) → chosen p ≡ false → AgreeAt chosen (set x p v) x
set-outside chosen x p v off = record {
  places = length-set x p v;
  spins = λ q on. get_or-set_other x p q v [] (unlike chosen p q off on);
}

agree-cond : (chosen : ℕ → Bool) (t : Bool) (x y v w : List (List Bool)) → AgreeAt chosen x y → AgreeAt chosen v w → AgreeAt chosen (cond t x v) (cond t y w)
agree-cond chosen true x y v w one other = one
agree-cond chosen false x y v w one other = other

-- ---- a decision

updated : Plan → ℕ → ℕ → ℕ → ℕ → List Bool → List Bool
updated plan bit p i u spins = visit (dynamics_of plan bit (slot_of plan p)) (λ _. u) (colour plan.size i) i spins

swaps : Plan → ℕ → ℕ → ℕ → List Bool → List Bool → Bool
swaps plan bit p u one other = is_swapped plan.swaps (slot_of plan p) u (unsatisfied plan.size (bonds_of plan.couplings bit) one) (unsatisfied plan.size (bonds_of plan.couplings bit) other)

-- both sides of an exchange written over, or not, by given spins
traded : Plan → ℕ → ℕ → ℕ → List Bool → List Bool → List (List Bool) → List (List Bool)
traded plan bit p u one other state = cond (swaps plan bit p u one other) (set (set state p other) (suc p) one) state

update-is : (plan : Plan) (bit p j i u : ℕ) (state : List (List Bool)) → decide plan bit (Update p j i) u state ≡ set state p (updated plan bit p i u (get_or state p []))
unfolding decide updated
update-is plan bit p j i u state = refl

exchange-is : (plan : Plan) (bit p turn u : ℕ) (state : List (List Bool)) → decide plan bit (Exchange p turn) u state ≡ traded plan bit p u (get_or state p []) (get_or state (suc p) []) state
unfolding decide traded swaps
exchange-is plan bit p turn u state = refl

traded-alike : (chosen : ℕ → Bool) (plan : Plan) (bit p u : ℕ) (one other : List Bool) (x y : List (List Bool)) → AgreeAt chosen x y
    → AgreeAt chosen (traded plan bit p u one other x) (traded plan bit p u one other y)
unfolding traded
traded-alike chosen plan bit p u one other x y agree =
    agree-cond chosen (swaps plan bit p u one other) _ _ x y (agree-set chosen (set x p other) (set y p other) (suc p) one (agree-set chosen x y p other agree)) agree

traded-outside : (chosen : ℕ → Bool) (plan : Plan) (bit p u : ℕ) (one other : List Bool) (x : List (List Bool)) → chosen p ≡ false → chosen (suc p) ≡ false
    → AgreeAt chosen (traded plan bit p u one other x) x
unfolding traded
traded-outside chosen plan bit p u one other x off next =
    either (swaps plan bit p u one other)
  where
    either : (t : Bool) → AgreeAt chosen (cond t (set (set x p other) (suc p) one) x) x
    either true = agree-on chosen _ (set x p other) x (set-outside chosen (set x p other) (suc p) one next) (set-outside chosen x p other off)
    either false = agree-itself chosen x

outside : (chosen : ℕ → Bool) (plan : Plan) (bit : ℕ) (d : Decision) → IsWithin chosen d → chosen (first_place d) ≡ false → (u : ℕ) (x : List (List Bool)) → AgreeAt chosen (decide plan bit d u x) x
unfolding first_place last_place
outside chosen plan bit (Update p j i) within off u x =
    subst (λ z. AgreeAt chosen z x) (sym (update-is plan bit p j i u x)) (set-outside chosen x p (updated plan bit p i u (get_or x p [])) off)
outside chosen plan bit (Exchange p turn) within off u x =
    subst (λ z. AgreeAt chosen z x) (sym (exchange-is plan bit p turn u x)) (traded-outside chosen plan bit p u (get_or x p []) (get_or x (suc p) []) x off (sym within ∙ off))

inside : (chosen : ℕ → Bool) (plan : Plan) (bit : ℕ) (d : Decision) → IsWithin chosen d → chosen (first_place d) ≡ true → (u : ℕ) (x y : List (List Bool)) → AgreeAt chosen x y
    → AgreeAt chosen (decide plan bit d u x) (decide plan bit d u y)
unfolding first_place last_place
inside chosen plan bit (Update p j i) within on u x y agree =
    rw (update-is plan bit p j i u x, update-is plan bit p j i u y, agree.spins p on) (agree-set chosen x y p (updated plan bit p i u (get_or y p [])) agree)
inside chosen plan bit (Exchange p turn) within on u x y agree =
    rw (exchange-is plan bit p turn u x, exchange-is plan bit p turn u y, agree.spins p on, agree.spins (suc p) (sym within ∙ on))
    (traded-alike chosen plan bit p u (get_or y p []) (get_or y (suc p) []) x y agree)

agree-after : (chosen : ℕ → Bool) (plan : Plan) (bit : ℕ) (d : Decision) → IsWithin chosen d → (u : ℕ) (x y : List (List Bool)) → AgreeAt chosen x y
    → AgreeAt chosen (decide plan bit d u x) (decide plan bit d u y)
agree-after chosen plan bit d within u x y agree = elim (cases_Bool (chosen (first_place d))) [
  | inl on ↦ inside chosen plan bit d within on u x y agree
  | inr off ↦
      agree-on chosen _ x _ (outside chosen plan bit d within off u x)
      (agree-on chosen x y _ agree (agree-back chosen _ y (outside chosen plan bit d within off u y)))
]

-- ---- all of them

-- a decision of a plan that exchanges no chosen place with another
pub record IsInside (plan : Plan) (chosen : ℕ → Bool) (d : Decision) : Type 0 where
  pub lawful : IsDecisionOf plan d
  pub within : IsWithin chosen d

pub inside-near : (r q : ℕ) (a b : ℕ → ℕ) (plan : Plan) (bit : ℕ) (chosen : ℕ → Bool) (decisions : List Decision) (g : List (List Bool) → ℕ) (m : ℕ)
    → IsLawfulSize plan.size → BelongTo r q a b plan → All (IsInside plan chosen) decisions → ReadsOnly chosen g → ((x : List (List Bool)) → g x ≤ m)
    → AreNear (count_about chosen decisions * r * (2 ^ 32) ^ length decisions * m * partition a b plan bit)
    (q * (2 ^ 32 * total_after a b plan bit decisions g))
    (q * (2 ^ 32 * ((2 ^ 32) ^ length decisions * total a b plan bit g)))
inside-near r q a b plan bit chosen decisions g m lawful belong are reads small =
    let w = boltzmann a b plan bit in
    let counts : Decision → Bool = λ d. chosen (first_place d) in
    chain-partly (IsState plan) (over_states plan) (2 ^ 32) r q w (decide plan bit) (AgreeAt chosen) counts decisions (states-are-sum plan)
    (All-weaker (IsInside plan chosen) (IsPartlyFair (over_states plan) (2 ^ 32) r q w (decide plan bit) (AgreeAt chosen) counts) (λ d h. record {
      fair = decision-fair r q a b plan bit lawful belong d h.lawful;
      alike = λ u x y agree. agree-after chosen plan bit d h.within u x y agree;
      apart = λ off u x. outside chosen plan bit d h.within off u x;
    }) decisions are) g m reads small

pub others-dont_count : (r q : ℕ) (a b : ℕ → ℕ) (plan : Plan) (bit : ℕ) (chosen : ℕ → Bool) (decisions : List Decision) (g : List (List Bool) → ℕ) (m : ℕ)
    → IsLawfulSize plan.size → BelongTo r q a b plan → All (IsDecisionOf plan) decisions → All (IsWithin chosen) decisions → ReadsOnly chosen g → ((x : List (List Bool)) → g x ≤ m)
    → AreNear (count_about chosen decisions * r * (2 ^ 32) ^ length decisions * m * partition a b plan bit)
    (q * (2 ^ 32 * total_after a b plan bit decisions g))
    (q * (2 ^ 32 * ((2 ^ 32) ^ length decisions * total a b plan bit g)))
others-dont_count r q a b plan bit chosen decisions g m lawful belong of within reads small =
    inside-near r q a b plan bit chosen decisions g m lawful belong (λ i d below. record { lawful = of i d below; within = within i d below }) reads small

-- ---- one replica, and one place

replica-within : (plan : Plan) (replica : ℕ) (d : Decision) → IsDecisionOf plan d → IsWithin (λ p. replica_of plan p == replica) d
unfolding first_place last_place IsDecisionOf
replica-within plan replica (Update p j i) of = refl
replica-within plan replica (Exchange p turn) of = ap (λ k. k == replica) (elim (cases_lt p (slots_of plan)) [
  | inl early ↦
      let here = lt-ltb p (slots_of plan) early in
      let at : slot_of plan p ≡ p = ap (λ t. cond t p (p - slots_of plan)) here in
      let paired = of.1 in
      let next = lt-ltb (suc p) (slots_of plan) (let e : suc p < slots_of plan = omega arith in e) in
      ap (λ t. cond t 0 1) here ∙ sym (ap (λ t. cond t 0 1) next)
  | inr late ↦
      ap (λ t. cond t 0 1) (le-ltb p (slots_of plan) late) ∙ sym (ap (λ t. cond t 0 1) (le-ltb (suc p) (slots_of plan) (let e : slots_of plan ≤ suc p = omega arith in e)))
])

pub replica-alone : (r q : ℕ) (a b : ℕ → ℕ) (plan : Plan) (bit replica : ℕ) (decisions : List Decision) (g : List (List Bool) → ℕ) (m : ℕ)
    → IsLawfulSize plan.size → BelongTo r q a b plan → All (IsDecisionOf plan) decisions → ReadsOnly (λ p. replica_of plan p == replica) g → ((x : List (List Bool)) → g x ≤ m)
    → AreNear (count_about (λ p. replica_of plan p == replica) decisions * r * (2 ^ 32) ^ length decisions * m * partition a b plan bit)
    (q * (2 ^ 32 * total_after a b plan bit decisions g))
    (q * (2 ^ 32 * ((2 ^ 32) ^ length decisions * total a b plan bit g)))
replica-alone r q a b plan bit replica decisions g m lawful belong of reads small =
    let chosen : ℕ → Bool = λ p. replica_of plan p == replica in
    others-dont_count r q a b plan bit chosen decisions g m lawful belong of (All-weaker (IsDecisionOf plan) (IsWithin chosen) (replica-within plan replica) decisions of) reads small

place-within : (plan : Plan) (chosen : ℕ → Bool) → slots_of plan ≡ 1 → (d : Decision) → IsDecisionOf plan d → IsWithin chosen d
unfolding first_place last_place IsDecisionOf
place-within plan chosen one (Update p j i) of = refl
place-within plan chosen one (Exchange p turn) of = let paired = of.1 in absurd (omega arith)

wider : (c k r q m z x y : ℕ) → c ≤ k → AreNear (c * r * q * m * z) x y → AreNear (k * r * q * m * z) x y
wider c k r q m z x y few near =
    let above = near.above in
    let below = near.below in
    let more = mul-le-mul_left (r * q * m * z) few in
    record { above = omega arith; below = omega arith }

pub place-alone : (r q : ℕ) (a b : ℕ → ℕ) (plan : Plan) (bit start n p : ℕ) (g : List Bool → ℕ) (m : ℕ)
    → IsLawfulSize plan.size → BelongTo r q a b plan → slots_of plan ≡ 1 → ((spins : List Bool) → g spins ≤ m)
    → AreNear ((n + 1) * (plan.sweeps * volume plan.size) * r * (2 ^ 32) ^ length (measured_decisions plan start n) * m * partition a b plan bit)
    (q * (2 ^ 32 * total_after a b plan bit (measured_decisions plan start n) (λ x. g (spins_at x p))))
    (q * (2 ^ 32 * ((2 ^ 32) ^ length (measured_decisions plan start n) * total a b plan bit (λ x. g (spins_at x p)))))
place-alone r q a b plan bit start n p g m lawful belong one small =
    let chosen : ℕ → Bool = λ k. k == p in
    let decisions = measured_decisions plan start n in
    let of = measured-lawful plan start n in
    wider (count_about chosen decisions) ((n + 1) * (plan.sweeps * volume plan.size)) r ((2 ^ 32) ^ length decisions) m (partition a b plan bit) _ _ (one-place_count plan start n p one)
    (others-dont_count r q a b plan bit chosen decisions (λ x. g (spins_at x p)) m lawful belong of (All-weaker (IsDecisionOf plan) (IsWithin chosen) (place-within plan chosen one) decisions of)
    (λ x y agree. ap g (agree.spins p (eq-eqb p p refl))) (λ x. small (spins_at x p)))
