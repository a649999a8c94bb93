-- Sweeps update each site once; the sum of all weights.
use Rattle.std.proofs.Common.{◌≡◌, ℕ, zero, suc, ◌+◌, ◌-◌, ◌*◌, ◌^◌, ◌<◌, ◌≤◌, Bool, true, false, cond, ◌==◌, List, [], ◌∷◌, ◌++◌, length, refl, ap, sym, ◌∙◌, subst, arith, length-append}
use Rattle.std.specs.Prelude.{All}
use Rattle.std.proofs.Math.Nat.{mul-le-mul_left, pow-zero, pow-suc}
use Rattle.std.proofs.lemmas.List.Elements.{All-nil, All-cons, All-append}
use Rattle.finite_chance.specs.Sums.{sum_lists}
use Rattle.finite_chance.specs.Chains.{AreNear}
use Rattle.spin_model.specs.Lattice.{IsLawfulSize, volume, bond_count, colour as class}
use Rattle.spin_model.specs.Steps.{table}
use Rattle.run_decisions.specs.Decisions.{sites_of}
use Rattle.run_decisions.proofs.Swept.{below-sites}
use Rattle.potts_glass.specs.Potts.{Dynamics}
use Rattle.potts_laws.specs.Weights.{height, weight_of, AreThresholds}
use Rattle.potts_laws.specs.Equilibrium.{over_configurations, partition, total, total_after, sweeps_sites}
use Rattle.potts_laws.proofs.HalfSweeps.{sites-next}
use Rattle.potts_laws.proofs.Updates.{updates-stay_near}

-- ---- the sites of sweeps

at-most_one : (v n : ℕ) (t : Bool) → n < v → All (λ i. i < v) (cond t (n ∷ []) [])
at-most_one v n true below = All-cons (λ i. i < v) n [] below (All-nil (λ i. i < v))
at-most_one v n false below = All-nil (λ i. i < v)

sites-inside : (v l c n : ℕ) → n ≤ v → All (λ i. i < v) (below-sites l c n)
unfolding below-sites table
sites-inside v l c zero few = All-nil (λ i. i < v)
sites-inside v l c (suc n) few =
    subst (All (λ i. i < v)) (sym (sites-next l c n))
    (All-append (λ i. i < v) (below-sites l c n) (cond (class l n == c) (n ∷ []) []) (sites-inside v l c n (omega arith)) (at-most_one v n (class l n == c) (omega arith)))

one-class : (c n : ℕ) → c < 2 → length (cond (c == 0) (n ∷ []) []) + length (cond (c == 1) (n ∷ []) []) ≡ 1
one-class zero n small = refl
one-class (suc zero) n small = refl
one-class (suc (suc c)) n small = absurd (omega arith)

sites-count : (l n : ℕ) → length (below-sites l 0 n) + length (below-sites l 1 n) ≡ n
unfolding below-sites table
sites-count l zero = refl
sites-count l (suc n) =
    let before = sites-count l n in
    let one = ap length (sites-next l 0 n) ∙ length-append (below-sites l 0 n) (cond (class l n == 0) (n ∷ []) []) in
    let other = ap length (sites-next l 1 n) ∙ length-append (below-sites l 1 n) (cond (class l n == 1) (n ∷ []) []) in
    let both = one-class (class l n) n (omega arith) in
    omega arith

sweep-inside : (l : ℕ) → All (λ i. i < volume l) (sites_of l 0 ++ sites_of l 1)
unfolding below-sites
sweep-inside l = All-append (λ i. i < volume l) (sites_of l 0) (sites_of l 1) (sites-inside (volume l) l 0 (volume l) (omega arith)) (sites-inside (volume l) l 1 (volume l) (omega arith))

sweep-count : (l : ℕ) → length (sites_of l 0 ++ sites_of l 1) ≡ volume l
unfolding below-sites
sweep-count l = length-append (sites_of l 0) (sites_of l 1) ∙ sites-count l (volume l)

sweeps-inside : (l n : ℕ) → All (λ i. i < volume l) (sweeps_sites l n)
unfolding sweeps_sites
sweeps-inside l zero = All-nil (λ i. i < volume l)
sweeps-inside l (suc n) = All-append (λ i. i < volume l) (sites_of l 0 ++ sites_of l 1) (sweeps_sites l n) (sweep-inside l) (sweeps-inside l n)

sweeps-count : (l n : ℕ) → length (sweeps_sites l n) ≡ n * volume l
unfolding sweeps_sites
sweeps-count l zero = omega arith
sweeps-count l (suc n) =
    let joined = length-append (sites_of l 0 ++ sites_of l 1) (sweeps_sites l n) in
    let one = sweep-count l in
    let before = sweeps-count l n in
    omega arith

pub sweeps-stay_near : (r s a b : ℕ) (d : Dynamics) (n : ℕ) (g : List ℕ → ℕ) (m : ℕ)
    → IsLawfulSize d.size → AreThresholds r s a b d.thresholds → ((x : List ℕ) → g x ≤ m)
    → AreNear (n * volume d.size * (3 * (2 ^ 32 * s + 1431655766 * r)) * (2 ^ 64) ^ (n * volume d.size) * m * partition a b d)
    (s * (2 ^ 64 * total_after a b d (sweeps_sites d.size n) g))
    (s * (2 ^ 64 * ((2 ^ 64) ^ (n * volume d.size) * total a b d g)))
sweeps-stay_near r s a b d n g m lawful thresholds small =
    subst (λ k. AreNear (k * (3 * (2 ^ 32 * s + 1431655766 * r)) * (2 ^ 64) ^ k * m * partition a b d)
    (s * (2 ^ 64 * total_after a b d (sweeps_sites d.size n) g)) (s * (2 ^ 64 * ((2 ^ 64) ^ k * total a b d g))))
    (sweeps-count d.size n)
    (updates-stay_near r s a b d (sweeps_sites d.size n) g m lawful thresholds (sweeps-inside d.size n) small)

-- ---- the sum of all weights

times-positive : (x y : ℕ) → 0 < x → 0 < y → 0 < x * y
times-positive x y one other = let e : x * 1 ≤ x * y = mul-le-mul_left x other in omega arith

power-positive : (x n : ℕ) → 0 < x → 0 < x ^ n
power-positive x zero some = let one = pow-zero x in rw one (omega arith)
power-positive x (suc n) some =
    let next = pow-suc x n in
    rw next (times-positive (x ^ n) x (power-positive x n some) some)

sum-positive : (v : ℕ) (f : List ℕ → ℕ) → ((x : List ℕ) → 0 < f x) → 0 < over_configurations v f
unfolding sum_lists
sum-positive zero f some = some []
sum-positive (suc v) f some = let e = sum-positive v (λ rest. f (0 ∷ rest)) (λ rest. some (0 ∷ rest)) in omega arith

pub partition-positive : (a b : ℕ) (d : Dynamics) → 0 < a → 0 < b → 0 < partition a b d
partition-positive a b d one other =
    sum-positive (volume d.size) (weight_of a b d)
    (λ x. let high = height d.size d.bonds x in times-positive (a ^ high) (b ^ (2 * bond_count d.size - high)) (power-positive a high one) (power-positive b (2 * bond_count d.size - high) other))
