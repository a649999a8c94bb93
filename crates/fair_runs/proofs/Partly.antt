-- A chain of decisions and a function that sees a part of the state: decisions that leave that part as it is don't count.
use Rattle.std.proofs.Common.{inl, inr, ◌≡◌, ℕ, zero, suc, ◌+◌, ◌*◌, ◌^◌, ◌≤◌, Bool, false, cond, List, [], ◌∷◌, length, ap, ◌∙◌, arith}
use Rattle.std.specs.Prelude.{All, count_by}
use Rattle.std.proofs.Math.Nat.{mul-le-mul_left, pow-zero, pow-suc}
use Rattle.std.proofs.lemmas.Bool.{cases_Bool}
use Rattle.std.proofs.lemmas.List.Elements.{All-head, All-tail}
use Rattle.std.proofs.lemmas.List.Sums.{sum_by-cons}
use Rattle.finite_chance.specs.Sums.{sum_to, sum_lists}
use Rattle.finite_chance.specs.Chains.{AreNear, after, outcomes}
use Rattle.finite_chance.proofs.Sums.{IsSum, each-same}
use Rattle.finite_chance.proofs.Chains.{IsNearlyFair, outcomes-small}

-- a decision that is nearly fair, makes like states of like ones, and leaves a state like itself if it doesn't count
pub record IsPartlyFair {D X : Type 0} (sum : (X → ℕ) → ℕ) (n r q : ℕ) (w : X → ℕ) (act : D → ℕ → X → X) (Alike : X → X → Type 0) (counts : D → Bool) (d : D) : Type 0 where
  pub fair : IsNearlyFair sum n r q w act d
  pub alike : (u : ℕ) (x y : X) → Alike x y → Alike (act d u x) (act d u y)
  pub apart : counts d ≡ false → (u : ℕ) (x : X) → Alike (act d u x) x

abbrev pub Sees : {X : Type 0} → (X → X → Type 0) → (X → ℕ) → Type 0
Sees {X} Alike h = (x y : X) → Alike x y → h x ≡ h y

pub sum-constant : (n c : ℕ) → sum_to n (λ u. c) ≡ n * c
unfolding sum_to
sum-constant zero c = omega arith
sum-constant (suc n) c = let before = sum-constant n c in omega arith

-- what doesn't count changes no mean
left-alone : {D X : Type 0} (Ok : X → Type 0) (sum : (X → ℕ) → ℕ) (n r q : ℕ) (w : X → ℕ) (act : D → ℕ → X → X) (Alike : X → X → Type 0) (counts : D → Bool) (d : D) → IsSum Ok sum
    → IsPartlyFair sum n r q w act Alike counts d → counts d ≡ false → (h : X → ℕ) → Sees Alike h
    → sum (λ x. w x * sum_to n (λ u. h (act d u x))) ≡ n * sum (λ x. w x * h x)
left-alone {D} {X} Ok sum n r q w act Alike counts d s fair off h sees =
    ap sum (each-same (λ x. w x * sum_to n (λ u. h (act d u x))) (λ x. n * (w x * h x)) (λ x.
    ap (λ y. w x * y) (ap (sum_to n) (each-same (λ u. h (act d u x)) (λ u. h x) (λ u. sees (act d u x) x (fair.apart off u x))) ∙ sum-constant n (h x))
    ∙ (let e : w x * (n * h x) ≡ n * (w x * h x) = omega arith in e)))
    ∙ s.scales n (λ x. w x * h x)

one-near : {D X : Type 0} (Ok : X → Type 0) (sum : (X → ℕ) → ℕ) (n r q : ℕ) (w : X → ℕ) (act : D → ℕ → X → X) (Alike : X → X → Type 0) (counts : D → Bool) (d : D) → IsSum Ok sum
    → IsPartlyFair sum n r q w act Alike counts d → (h : X → ℕ) (m : ℕ) → Sees Alike h → ((x : X) → h x ≤ m)
    → AreNear (cond (counts d) 1 0 * (r * m * sum w)) (q * sum (λ x. w x * sum_to n (λ u. h (act d u x)))) (q * (n * sum (λ x. w x * h x)))
one-near {D} {X} Ok sum n r q w act Alike counts d s fair h m sees small = elim (cases_Bool (counts d)) [
  | inl on ↦
      let near = fair.fair.near h m small in
      let above = near.above in
      let below = near.below in
      rw on (record { above = omega arith; below = omega arith })
  | inr off ↦
      let same = ap (λ y. q * y) (left-alone Ok sum n r q w act Alike counts d s fair off h sees) in
      rw off (record { above = omega arith; below = omega arith })
]

after-alike : {D X : Type 0} (sum : (X → ℕ) → ℕ) (n r q : ℕ) (w : X → ℕ) (act : D → ℕ → X → X) (Alike : X → X → Type 0) (counts : D → Bool) (decisions : List D)
    → All (IsPartlyFair sum n r q w act Alike counts) decisions → (draws : List ℕ) (x y : X) → Alike x y → Alike (after act decisions draws x) (after act decisions draws y)
unfolding after
after-alike sum n r q w act Alike counts [] fair draws x y like = like
after-alike sum n r q w act Alike counts (d ∷ decisions) fair [] x y like = like
after-alike sum n r q w act Alike counts (d ∷ decisions) fair (u ∷ draws) x y like =
    after-alike sum n r q w act Alike counts decisions (All-tail (IsPartlyFair sum n r q w act Alike counts) d decisions fair) draws (act d u x) (act d u y)
    ((All-head (IsPartlyFair sum n r q w act Alike counts) d decisions fair).alike u x y like)

outcomes-seen : {D X : Type 0} (sum : (X → ℕ) → ℕ) (n r q : ℕ) (w : X → ℕ) (act : D → ℕ → X → X) (Alike : X → X → Type 0) (counts : D → Bool) (decisions : List D)
    → All (IsPartlyFair sum n r q w act Alike counts) decisions → (g : X → ℕ) → Sees Alike g → Sees Alike (outcomes act n decisions g)
outcomes-seen sum n r q w act Alike counts decisions fair g sees x y like =
    ap (sum_lists (sum_to n) (length decisions)) (each-same (λ draws. g (after act decisions draws x)) (λ draws. g (after act decisions draws y)) (λ draws.
    sees (after act decisions draws x) (after act decisions draws y) (after-alike sum n r q w act Alike counts decisions fair draws x y like)))

pub chain-partly : {D X : Type 0} (Ok : X → Type 0) (sum : (X → ℕ) → ℕ) (n r q : ℕ) (w : X → ℕ) (act : D → ℕ → X → X) (Alike : X → X → Type 0) (counts : D → Bool) (decisions : List D) → IsSum Ok sum
    → All (IsPartlyFair sum n r q w act Alike counts) decisions → (g : X → ℕ) (m : ℕ) → Sees Alike g → ((x : X) → g x ≤ m)
    → AreNear (count_by counts decisions * r * n ^ length decisions * m * sum w) (q * (n * sum (λ x. w x * outcomes act n decisions g x))) (q * (n * (n ^ length decisions * sum (λ x. w x * g x))))
unfolding sum_lists after
chain-partly Ok sum n r q w act Alike counts [] s fair g m sees small = let one = pow-zero n in rw one (record { above = omega arith; below = omega arith })
chain-partly {D} {X} Ok sum n r q w act Alike counts (d ∷ decisions) s fair g m sees small =
    let k = length decisions in
    let one = cond (counts d) 1 0 in
    let more = count_by counts decisions in
    let next = pow-suc n k in
    let counted : count_by counts (d ∷ decisions) ≡ one + more = sum_by-cons (λ e. cond (counts e) 1 0) d decisions in
    let others = All-tail (IsPartlyFair sum n r q w act Alike counts) d decisions fair in
    let rest = chain-partly Ok sum n r q w act Alike counts decisions s others g m sees small in
    let first = one-near Ok sum n r q w act Alike counts d s (All-head (IsPartlyFair sum n r q w act Alike counts) d decisions fair) (outcomes act n decisions g) (n ^ k * m)
    (outcomes-seen sum n r q w act Alike counts decisions others g sees) (outcomes-small act n decisions g m small) in
    let above = mul-le-mul_left n first.above in
    let below = mul-le-mul_left n first.below in
    let above_rest = mul-le-mul_left n rest.above in
    let below_rest = mul-le-mul_left n rest.below in
    rw (next, counted) (record { above = omega arith; below = omega arith })
