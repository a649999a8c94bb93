-- From any start; that the weights are above 0; exact thresholds; one update as a push-forward.
use Rattle.std.proofs.Common.{◌≡◌, ℕ, zero, suc, ◌+◌, ◌-◌, ◌*◌, ◌/◌, ◌^◌, ◌<◌, ◌≤◌, Bool, true, false, not, List, [], ◌∷◌, length, get_or, refl, ap, subst, sym, ◌∙◌, arith}
use Rattle.std.specs.Prelude.{All}
use Rattle.std.proofs.Math.Nat.{mul-le-mul_left, pow-zero, pow-suc}
use Rattle.coupling_set.specs.CouplingWords.{bonds_of}
use Rattle.threshold_table.specs.Tables.{RuleView, rule_of, thresholds_of}
use Rattle.spin_model.specs.Couplings.{Bonds}
use Rattle.spin_model.specs.Steps.{count_below}
use Rattle.spin_model.specs.Lattice.{IsLawfulSize, volume, bond_count}
use Rattle.spin_model.specs.SiteRule.{Metropolis}
use Rattle.scalar_rule.specs.Sums.{unsatisfied}
use Rattle.scalar_rule.specs.Sweep.{Dynamics}
use Rattle.scalar_rule.specs.Plan.{Plan, slots_of}
use Rattle.finite_chance.specs.Sums.{sum_to, over_spin, sum_lists}
use Rattle.finite_chance.specs.Chains.{AreNear, outcomes}
use Rattle.finite_chance.proofs.Sums.{IsListOf, Any, Keeps, sum-same, each-same, not-keeps, place-keeps}
use Rattle.finite_chance.proofs.Chains.{passing, two-ways, outcomes-small}
use Rattle.run_decisions.specs.Decisions.{Decision, IsDecisionOf, slot_of, places_of, decide}
use Rattle.run_decisions.proofs.Epochs.{slot-below}
use Rattle.model_laws.specs.Weights.{weight}
use Rattle.model_laws.specs.Energies.{turned}
use Rattle.model_laws.specs.Balance.{IsMetropolisThreshold, turns, updated_by}
use Rattle.model_laws.specs.Stationary.{AreThresholds}
use Rattle.model_laws.proofs.Balancing.{update-turns}
use Rattle.fair_runs.specs.Equilibrium.{over_configurations, over_states, product_to, BelongTo, boltzmann, partition, total}
use Rattle.fair_runs.specs.FairRuns.{IsClose}
use Rattle.fair_runs.proofs.Decided.{configurations-are-sum, turned-back}
use Rattle.fair_runs.proofs.Equilibrium.{nearly-stays, passing-counts}

-- ---- from any start

join-near : (d s q k r e f m z x y w : ℕ) → AreNear (e * (f * m) * z) (q * x) (q * y) → AreNear (k * r * f * m * z) (s * (d * y)) (s * (d * w))
    → AreNear ((d * (s * e) + q * (k * r)) * (f * (m * z))) (d * (s * (q * x))) (d * (s * (q * w)))
join-near d s q k r e f m z x y w one other =
    let a = mul-le-mul_left (d * s) one.above in
    let b = mul-le-mul_left (d * s) one.below in
    let g = mul-le-mul_left q other.above in
    let h = mul-le-mul_left q other.below in
    record { above = omega arith; below = omega arith }

pub hardly-grows : (r s e q : ℕ) (a b : ℕ → ℕ) (plan : Plan) (bit : ℕ) (start : List (List Bool) → ℕ) (decisions : List Decision) (g : List (List Bool) → ℕ) (m : ℕ)
    → IsLawfulSize plan.size → BelongTo r s a b plan → All (IsDecisionOf plan) decisions → IsClose e q a b plan bit start → ((x : List (List Bool)) → g x ≤ m)
    → AreNear ((2 ^ 32 * (s * e) + q * (length decisions * r)) * ((2 ^ 32) ^ length decisions * (m * partition a b plan bit)))
    (2 ^ 32 * (s * (q * over_states plan (λ x. start x * outcomes (decide plan bit) (2 ^ 32) decisions g x))))
    (2 ^ 32 * (s * (q * ((2 ^ 32) ^ length decisions * total a b plan bit g))))
hardly-grows r s e q a b plan bit start decisions g m lawful belong of close small =
    let h : List (List Bool) → ℕ = outcomes (decide plan bit) (2 ^ 32) decisions g in
    join-near (2 ^ 32) s q (length decisions) r e ((2 ^ 32) ^ length decisions) m (partition a b plan bit) (over_states plan (λ x. start x * h x)) (total a b plan bit h)
    ((2 ^ 32) ^ length decisions * total a b plan bit g)
    (close h ((2 ^ 32) ^ length decisions * m) (λ x. outcomes-small (decide plan bit) (2 ^ 32) decisions g m small x))
    (nearly-stays r s a b plan bit decisions g m lawful belong of small)

-- ---- weights above 0

power-positive : (x n : ℕ) → 0 < x → 0 < x ^ n
power-positive x zero some = let one = pow-zero x in rw one (omega arith)
power-positive x (suc n) some =
    let next = pow-suc x n in
    let before = power-positive x n some in
    rw next (product-positive (x ^ n) x before some)
  where
    product-positive : (x y : ℕ) → 0 < x → 0 < y → 0 < x * y
    product-positive x y one other = let e : x * 1 ≤ x * y = mul-le-mul_left x other in omega arith

times-positive : (x y : ℕ) → 0 < x → 0 < y → 0 < x * y
times-positive x y one other = let e : x * 1 ≤ x * y = mul-le-mul_left x other in omega arith

weight-positive : (a b l : ℕ) (bonds : Bonds) (s : List Bool) → 0 < a → 0 < b → 0 < weight a b l bonds s
weight-positive a b l bonds s one other = times-positive _ _ (power-positive a (unsatisfied l bonds s / 2) one) (power-positive b (bond_count l - unsatisfied l bonds s / 2) other)

product-positive : (n : ℕ) (f : ℕ → ℕ) → ((p : ℕ) → p < n → 0 < f p) → 0 < product_to n f
unfolding product_to
product-positive zero f each = omega arith
product-positive (suc n) f each = times-positive _ _ (product-positive n f (λ p below. each p (omega arith))) (each n (omega arith))

abbrev Positive : {A : Type 0} → ((A → ℕ) → ℕ) → Type 0
Positive {A} sum = (f : A → ℕ) → ((x : A) → 0 < f x) → 0 < sum f

lists-positive : {A : Type 0} (each : (A → ℕ) → ℕ) → Positive each → (n : ℕ) → Positive (sum_lists each n)
unfolding sum_lists
lists-positive each some zero f all = all []
lists-positive each some (suc n) f all = some _ (λ x. lists-positive each some n (λ rest. f (x ∷ rest)) (λ rest. all (x ∷ rest)))

spin-positive : Positive over_spin
spin-positive f all = let e = all true in omega arith

pub partition-positive : (a b : ℕ → ℕ) (plan : Plan) (bit : ℕ) → ((t : ℕ) → t < slots_of plan → (0 < a t) × (0 < b t)) → 0 < partition a b plan bit
partition-positive a b plan bit warm =
    let v = volume plan.size in
    lists-positive (over_configurations v) (lists-positive over_spin spin-positive v) (places_of plan) (boltzmann a b plan bit)
    (λ x. product-positive (places_of plan) _ (λ p below. let w = warm (slot_of plan p) (slot-below plan p below) in weight-positive (a (slot_of plan p)) (b (slot_of plan p)) plan.size (bonds_of plan.couplings bit) (get_or x p []) w.0 w.1))

-- ---- the grid

cube-small : (j : ℕ) → j ≤ 1024 → (j * j ≤ 1048576) × (j * j * j ≤ 1073741824)
cube-small j few =
    let two : j * j ≤ 1024 * 1024 = square j few in
    (omega arith, cube j few)
  where
    square : (j : ℕ) → j ≤ 1024 → j * j ≤ 1024 * 1024
    square j few = let e : j * j ≤ j * 1024 = mul-le-mul_left j few in omega arith

    cube : (j : ℕ) → j ≤ 1024 → j * j * j ≤ 1073741824
    cube j few = let e : j * j * j ≤ j * j * 1024 = mul-le-mul_left (j * j) few in let s = square j few in omega arith

first-power : (x : ℕ) → x ^ 1 ≡ x
first-power x = let one = pow-zero x in pow-suc x 0 ∙ rw one (omega arith)

second-power : (x : ℕ) → x ^ 2 ≡ x * x
second-power x = let one = first-power x in pow-suc x 1 ∙ rw one refl

third-power : (x : ℕ) → x ^ 3 ≡ x * x * x
third-power x = let two = second-power x in pow-suc x 2 ∙ rw two refl

pub grid-exact : (j : ℕ) → j ≤ 1024 → AreThresholds 0 1 j 1024 Metropolis (j * 2 ^ 22 ∷ j * j * 2 ^ 12 ∷ j * j * j * 2 ^ 2 ∷ [])
grid-exact j few k many small = at k many small
  where
    small_powers : (j * j ≤ 1048576) × (j * j * j ≤ 1073741824)
    small_powers = cube-small j few

    at : (k : ℕ) → 4 ≤ k → k ≤ 6 → IsMetropolisThreshold 0 1 j 1024 (j * 2 ^ 22 ∷ j * j * 2 ^ 12 ∷ j * j * j * 2 ^ 2 ∷ []) k
    at zero many small = absurd (omega arith)
    at (suc zero) many small = absurd (omega arith)
    at (suc (suc zero)) many small = absurd (omega arith)
    at (suc (suc (suc zero))) many small = absurd (omega arith)
    at (suc (suc (suc (suc zero)))) many small = let p = first-power j in record { limited = omega arith; near = record { above = omega arith; below = omega arith } }
    at (suc (suc (suc (suc (suc zero))))) many small = let p = second-power j in let s = small_powers in record { limited = omega arith; near = record { above = omega arith; below = omega arith } }
    at (suc (suc (suc (suc (suc (suc zero)))))) many small = let p = third-power j in let s = small_powers in record { limited = omega arith; near = record { above = omega arith; below = omega arith } }
    at (suc (suc (suc (suc (suc (suc (suc k))))))) many small = absurd (omega arith)

one-slot : (j : ℕ) (rules : RuleView) (t : ℕ) → j ≤ 1024 → rule_of rules.kind ≡ Metropolis → rules.rows ≡ (j * 2 ^ 22 ∷ j * j * 2 ^ 12 ∷ j * j * j * 2 ^ 2 ∷ []) ∷ [] → t ≡ 0
    → AreThresholds 0 1 j 1024 (rule_of rules.kind) (thresholds_of rules t)
one-slot j rules t few metropolis rows here =
    subst (λ r. AreThresholds 0 1 j 1024 r (thresholds_of rules t)) (sym metropolis)
    (subst (λ k. AreThresholds 0 1 j 1024 Metropolis (get_or rules.rows k [])) (sym here)
    (subst (λ xs. AreThresholds 0 1 j 1024 Metropolis (get_or xs 0 [])) (sym rows) (grid-exact j few)))

pub one-slot_exact : (j : ℕ) (plan : Plan) → j ≤ 1024 → rule_of plan.rules.kind ≡ Metropolis → plan.rules.rows ≡ (j * 2 ^ 22 ∷ j * j * 2 ^ 12 ∷ j * j * j * 2 ^ 2 ∷ []) ∷ []
    → BelongTo 0 1 (λ t. j) (λ t. 1024) plan
one-slot_exact j plan few metropolis rows =
    let one : slots_of plan ≡ 1 = ap length rows in
    record {
      rules = λ t below. one-slot j plan.rules t few metropolis rows (omega arith);
      swaps = λ k m paired some small. absurd (omega arith);
    }

-- ---- one update

pub push-forward : (n : ℕ) (d : Dynamics) (i : ℕ) (weights h : List Bool → ℕ) → i < volume d.size
    → over_configurations (volume d.size) (λ s. weights s * sum_to n (λ u. h (updated_by d s i u)))
    ≡ over_configurations (volume d.size) (λ s. (count_below (turns d (turned s i) i) n * weights (turned s i) + count_below (λ u. not (turns d s i u)) n * weights s) * h s)
push-forward n d i weights h within =
    let v = volume d.size in
    let sum = over_configurations v in
    let Ok = IsListOf (Any Bool) v in
    let t : List Bool → ℕ = λ s. count_below (turns d s i) n in
    let k : List Bool → ℕ = λ s. count_below (λ u. not (turns d s i u)) n in
    let s_is = configurations-are-sum v in
    let to : List Bool → ℕ = λ s. t s * weights s * h (turned s i) in
    let rest : List Bool → ℕ = λ s. k s * weights s * h s in
    let from : List Bool → ℕ = λ s. t (turned s i) * weights (turned s i) * h s in
    let keeps : Keeps sum (λ s. turned s i) = place-keeps over_spin not false not-keeps v i within in
    sum-same Ok sum _ (λ s. to s + rest s) s_is (λ s lawful.
    let sized = lawful.sized in
    let split : sum_to n (λ u. h (updated_by d s i u)) ≡ t s * h (turned s i) + k s * h s =
    ap (sum_to n) (each-same _ _ (λ u. ap h (update-turns d s i u (omega arith)))) ∙ two-ways (turns d s i) h (turned s i) s n
    ∙ ap (λ x. x * h (turned s i) + passing (λ u. not (turns d s i u)) n * h s) (passing-counts (turns d s i) n)
    ∙ ap (λ x. t s * h (turned s i) + x * h s) (passing-counts (λ u. not (turns d s i u)) n) in
    ap (λ x. weights s * x) split ∙ omega arith)
    ∙ s_is.adds to rest
    ∙ ap (λ x. x + sum rest) (sym (keeps to) ∙ sum-same Ok sum (λ s. to (turned s i)) from s_is (λ s lawful. let sized = lawful.sized in ap (λ x. t (turned s i) * weights (turned s i) * h x) (turned-back s i (omega arith))))
    ∙ sym (s_is.adds from rest)
    ∙ sum-same Ok sum (λ s. from s + rest s) _ s_is (λ s lawful. omega arith)
