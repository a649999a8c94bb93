-- The decisions of a plan whose thresholds belong to its temperatures are nearly fair, and so is a run of them.
use Rattle.std.proofs.Common.{◌≡◌, ℕ, zero, suc, ◌+◌, ◌*◌, ◌^◌, ◌<◌, ◌≤◌, Bool, true, false, List, length, refl, sym, subst, arith}
use Rattle.std.specs.Prelude.{All, max}
use Rattle.std.proofs.Math.Nat.{mul-le-mul_left, le_of_mul-le-mul_left}
use Rattle.std.proofs.lemmas.List.Elements.{All-weaker}
use Rattle.coupling_set.specs.CouplingWords.{bonds_of}
use Rattle.spin_model.specs.Words.{one_if}
use Rattle.spin_model.specs.Steps.{count_below}
use Rattle.spin_model.specs.Lattice.{IsLawfulSize, volume, bond_count}
use Rattle.scalar_rule.specs.Sums.{unsatisfied}
use Rattle.scalar_rule.specs.Exchange.{is_swapped}
use Rattle.scalar_rule.specs.Plan.{Plan, slots_of, dynamics_of}
use Rattle.finite_chance.specs.Sums.{sum_to}
use Rattle.finite_chance.specs.Chains.{AreNear}
use Rattle.finite_chance.proofs.Chains.{IsNearlyFair, passing, chain}
use Rattle.run_decisions.specs.Decisions.{Decision, Update, Exchange, IsDecisionOf, slot_of, places_of, decide, run_decisions, measured_decisions}
use Rattle.run_decisions.proofs.Epochs.{slot-below}
use Rattle.run_decisions.proofs.Lawful.{run-lawful, measured-lawful}
use Rattle.model_laws.specs.Weights.{weight}
use Rattle.model_laws.specs.Energies.{turned}
use Rattle.model_laws.specs.Balance.{turns, turning_draws, weight_of}
use Rattle.model_laws.specs.ExchangeBalance.{pair_weight, half_difference}
use Rattle.model_laws.proofs.Balancing.{unsatisfied-small, update-turns, wider}
use Rattle.model_laws.proofs.NearlyStays.{near-by-rule}
use Rattle.model_laws.proofs.ExchangeBalancing.{exchange-balances}
use Rattle.fair_runs.specs.Equilibrium.{over_states, BelongTo, boltzmann, partition, total, total_after}
use Rattle.fair_runs.proofs.Decided.{UpdatesFairly, update-fair, ExchangesFairly, exchange-fair}

-- ---- counts

pub passing-counts : (p : ℕ → Bool) (n : ℕ) → passing p n ≡ count_below p n
unfolding passing sum_to count_below
passing-counts p zero = refl
passing-counts p (suc n) = let before = passing-counts p n in omega arith

as-near : (r q x y t s w v : ℕ) → x ≡ t → y ≡ s → AreNear r (q * (t * w)) (q * (s * v)) → AreNear r (q * (x * w)) (q * (y * v))
as-near r q x y t s w v one other near = rw (one, other) near

-- ---- the decisions of a plan

weights_of : (ℕ → ℕ) → (ℕ → ℕ) → Plan → ℕ → ℕ → List Bool → ℕ
weights_of a b plan bit p spins = weight (a (slot_of plan p)) (b (slot_of plan p)) plan.size (bonds_of plan.couplings bit) spins

updates-fairly : (r q : ℕ) (a b : ℕ → ℕ) (plan : Plan) (bit p i : ℕ) → IsLawfulSize plan.size → BelongTo r q a b plan → p < places_of plan → i < volume plan.size
    → UpdatesFairly plan bit (2 ^ 32) r q p i (weights_of a b plan bit p) (λ s u. turns (dynamics_of plan bit (slot_of plan p)) s i u)
unfolding weights_of
updates-fairly r q a b plan bit p i lawful belong below within =
    let t = slot_of plan p in
    let d = dynamics_of plan bit t in record {
      turns = λ s u sized. update-turns d s i u (omega arith);
      near = λ s sized.
          as-near (r * (weight_of (a t) (b t) d s + weight_of (a t) (b t) d (turned s i))) q (passing (turns d s i) (2 ^ 32)) (passing (turns d (turned s i) i) (2 ^ 32)) (turning_draws d s i) (turning_draws d (turned s i) i)
          (weight_of (a t) (b t) d s) (weight_of (a t) (b t) d (turned s i))
          (passing-counts (turns d s i) (2 ^ 32)) (passing-counts (turns d (turned s i) i) (2 ^ 32))
          (near-by-rule d.rule r q (a t) (b t) d s i refl lawful sized within (belong.rules t (slot-below plan p below)));
    }

gap-small : (u v n : ℕ) → u ≤ n → v ≤ n → 2 * half_difference u v ≤ n
gap-small u v n one other = omega arith

exchanges-fairly : (r q : ℕ) (a b : ℕ → ℕ) (plan : Plan) (bit p : ℕ) → IsLawfulSize plan.size → BelongTo r q a b plan → slot_of plan p + 1 < slots_of plan → slot_of plan (suc p) ≡ slot_of plan p + 1
    → ExchangesFairly plan bit (2 ^ 32) r q p (weights_of a b plan bit)
    (λ x y u. is_swapped plan.swaps (slot_of plan p) u (unsatisfied plan.size (bonds_of plan.couplings bit) x) (unsatisfied plan.size (bonds_of plan.couplings bit) y))
unfolding weights_of
exchanges-fairly r q a b plan bit p lawful belong paired next =
    let k = slot_of plan p in
    let l = plan.size in
    let bonds = bonds_of plan.couplings bit in
    let U : List Bool → ℕ = λ x. unsatisfied l bonds x in
    let test : List Bool → List Bool → ℕ → Bool = λ x y u. is_swapped plan.swaps k u (U x) (U y) in
    record {
      swaps = λ x y u. refl;
      near = λ x y.
          let pw : List Bool → List Bool → ℕ = λ s t. pair_weight (a k) (b k) (a (k + 1)) (b (k + 1)) l bonds s t in
          let balance = exchange-balances r q (a k) (b k) (a (k + 1)) (b (k + 1)) l bonds x y plan.swaps k lawful
          (λ some. belong.swaps k (half_difference (U x) (U y)) paired some (gap-small (U x) (U y) (bond_count l) (unsatisfied-small l bonds x) (unsatisfied-small l bonds y))) in
          let near = wider (r * max (pw x y) (pw y x)) (r * (pw x y + pw y x)) _ _ (mul-le-mul_left r (let e : max (pw x y) (pw y x) ≤ pw x y + pw y x = omega arith in e)) balance in
          subst (λ j. AreNear (r * (weight (a k) (b k) l bonds x * weight (a j) (b j) l bonds y + weight (a k) (b k) l bonds y * weight (a j) (b j) l bonds x))
          (q * (passing (test x y) (2 ^ 32) * (weight (a k) (b k) l bonds x * weight (a j) (b j) l bonds y))) (q * (passing (test y x) (2 ^ 32) * (weight (a k) (b k) l bonds y * weight (a j) (b j) l bonds x)))) (sym next)
          (as-near (r * (pw x y + pw y x)) q (passing (test x y) (2 ^ 32)) (passing (test y x) (2 ^ 32)) (count_below (test x y) (2 ^ 32)) (count_below (test y x) (2 ^ 32)) (pw x y) (pw y x)
          (passing-counts (test x y) (2 ^ 32)) (passing-counts (test y x) (2 ^ 32)) near);
    }

abbrev pub fair_for : ℕ → ℕ → (ℕ → ℕ) → (ℕ → ℕ) → Plan → ℕ → Decision → Type 0
fair_for r q a b plan bit d = IsNearlyFair (over_states plan) (2 ^ 32) r q (boltzmann a b plan bit) (decide plan bit) d

pub decision-fair : (r q : ℕ) (a b : ℕ → ℕ) (plan : Plan) (bit : ℕ) → IsLawfulSize plan.size → BelongTo r q a b plan → (d : Decision) → IsDecisionOf plan d → fair_for r q a b plan bit d
unfolding IsDecisionOf weights_of
decision-fair r q a b plan bit lawful belong (Update p j i) of =
    update-fair plan bit (2 ^ 32) r q p j i (weights_of a b plan bit) (λ s u. turns (dynamics_of plan bit (slot_of plan p)) s i u) of.0 of.1 (updates-fairly r q a b plan bit p i lawful belong of.0 of.1)
decision-fair r q a b plan bit lawful belong (Exchange p turn) of =
    exchange-fair plan bit (2 ^ 32) r q p turn (weights_of a b plan bit)
    (λ x y u. is_swapped plan.swaps (slot_of plan p) u (unsatisfied plan.size (bonds_of plan.couplings bit) x) (unsatisfied plan.size (bonds_of plan.couplings bit) y)) of.0
    (exchanges-fairly r q a b plan bit p lawful belong of.1 of.2)

-- ---- all of them

pub nearly-stays : (r q : ℕ) (a b : ℕ → ℕ) (plan : Plan) (bit : ℕ) (decisions : List Decision) (g : List (List Bool) → ℕ) (m : ℕ)
    → IsLawfulSize plan.size → BelongTo r q a b plan → All (IsDecisionOf plan) decisions → ((x : List (List Bool)) → g x ≤ m)
    → AreNear (length decisions * r * (2 ^ 32) ^ length decisions * m * partition a b plan bit)
    (q * (2 ^ 32 * total_after a b plan bit decisions g))
    (q * (2 ^ 32 * ((2 ^ 32) ^ length decisions * total a b plan bit g)))
nearly-stays r q a b plan bit decisions g m lawful belong of small =
    chain (over_states plan) (2 ^ 32) r q (boltzmann a b plan bit) (decide plan bit) decisions
    (All-weaker (IsDecisionOf plan) (fair_for r q a b plan bit) (λ d h. decision-fair r q a b plan bit lawful belong d h) decisions of) g m small

same-factor : (n x y : ℕ) → 0 < n → n * x ≡ n * y → x ≡ y
same-factor n x y some same =
    let less : x ≤ y = le_of_mul-le-mul_left (let e : n * x ≤ n * y = omega arith in e) some in
    let more : y ≤ x = le_of_mul-le-mul_left (let e : n * y ≤ n * x = omega arith in e) some in
    omega arith

exact-near : (k q m z n x y : ℕ) → 0 < n → AreNear (k * 0 * q * m * z) (1 * (n * x)) (1 * (n * y)) → x ≡ y
exact-near k q m z n x y some near = let above = near.above in let below = near.below in same-factor n x y some (omega arith)

pub stays : (a b : ℕ → ℕ) (plan : Plan) (bit : ℕ) (decisions : List Decision) (g : List (List Bool) → ℕ) (m : ℕ)
    → IsLawfulSize plan.size → BelongTo 0 1 a b plan → All (IsDecisionOf plan) decisions → ((x : List (List Bool)) → g x ≤ m)
    → total_after a b plan bit decisions g ≡ (2 ^ 32) ^ length decisions * total a b plan bit g
stays a b plan bit decisions g m lawful belong of small =
    exact-near (length decisions) ((2 ^ 32) ^ length decisions) m (partition a b plan bit) (2 ^ 32) (total_after a b plan bit decisions g) ((2 ^ 32) ^ length decisions * total a b plan bit g)
    (omega arith) (nearly-stays 0 1 a b plan bit decisions g m lawful belong of small)

one-small : (t : Bool) → one_if t ≤ 1
one-small true = omega arith
one-small false = omega arith

less-one : (k r q z x y : ℕ) → AreNear (k * r * q * 1 * z) x y → AreNear (k * r * q * z) x y
less-one k r q z x y near = let above = near.above in let below = near.below in record { above = omega arith; below = omega arith }

pub runs-stay-near : (r q : ℕ) (a b : ℕ → ℕ) (plan : Plan) (bit start n : ℕ) (event : List (List Bool) → Bool)
    → IsLawfulSize plan.size → BelongTo r q a b plan
    → AreNear (length (run_decisions plan start n) * r * (2 ^ 32) ^ length (run_decisions plan start n) * partition a b plan bit)
    (q * (2 ^ 32 * total_after a b plan bit (run_decisions plan start n) (λ x. one_if (event x))))
    (q * (2 ^ 32 * ((2 ^ 32) ^ length (run_decisions plan start n) * total a b plan bit (λ x. one_if (event x)))))
runs-stay-near r q a b plan bit start n event lawful belong =
    let k = length (run_decisions plan start n) in
    less-one k r ((2 ^ 32) ^ k) (partition a b plan bit) _ _
    (nearly-stays r q a b plan bit (run_decisions plan start n) (λ x. one_if (event x)) 1 lawful belong (run-lawful plan start n) (λ x. one-small (event x)))

pub measured-near : (r q : ℕ) (a b : ℕ → ℕ) (plan : Plan) (bit start n : ℕ) (event : List (List Bool) → Bool)
    → IsLawfulSize plan.size → BelongTo r q a b plan
    → AreNear (length (measured_decisions plan start n) * r * (2 ^ 32) ^ length (measured_decisions plan start n) * partition a b plan bit)
    (q * (2 ^ 32 * total_after a b plan bit (measured_decisions plan start n) (λ x. one_if (event x))))
    (q * (2 ^ 32 * ((2 ^ 32) ^ length (measured_decisions plan start n) * total a b plan bit (λ x. one_if (event x)))))
measured-near r q a b plan bit start n event lawful belong =
    let k = length (measured_decisions plan start n) in
    less-one k r ((2 ^ 32) ^ k) (partition a b plan bit) _ _
    (nearly-stays r q a b plan bit (measured_decisions plan start n) (λ x. one_if (event x)) 1 lawful belong (measured-lawful plan start n) (λ x. one-small (event x)))
