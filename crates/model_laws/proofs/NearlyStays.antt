-- Updates with rounded thresholds change Boltzmann's weights by little.
use Rattle.std.proofs.Common.{inl, inr, ◌≡◌, ℕ, suc, ◌+◌, ◌-◌, ◌*◌, ◌^◌, ◌<◌, ◌≤◌, Bool, not, List, [], ◌∷◌, length, refl, ap, sym, ◌∙◌, subst, arith}
use Rattle.std.specs.Prelude.{All, max, min}
use Rattle.std.proofs.Math.Nat.{pow-zero, pow-suc, mul-le-mul_left}
use Rattle.std.proofs.lemmas.Bool.{cases_lt}
use Rattle.std.proofs.lemmas.List.{length-set}
use Rattle.std.proofs.lemmas.List.Elements.{All-head, All-tail}
use Rattle.finite_chance.specs.Chains.{AreNear}
use Rattle.spin_model.specs.Lattice.{IsLawfulSize, volume}
use Rattle.spin_model.specs.SiteRule.{Rule, HeatBath, Metropolis}
use Rattle.scalar_rule.specs.Neighbours.{spin, aligned, satisfied}
use Rattle.scalar_rule.specs.Sweep.{Dynamics}
use Rattle.model_laws.specs.Energies.{turned}
use Rattle.model_laws.specs.Balance.{turns, turning_draws, keeping_draws, weight_of, site_weight}
use Rattle.model_laws.specs.Stationary.{after_update, after_updates, AreThresholds}
use Rattle.model_laws.proofs.Turning.{satisfied-turned}
use Rattle.model_laws.proofs.DrawCounts.{count-others}
use Rattle.model_laws.proofs.Balancing.{ShareFactor, share-factor, weight-more, weight-less, wider, heat-balances, metropolis-balances}
use Rattle.model_laws.proofs.Reached.{aligned-few}
use Rattle.model_laws.proofs.Stays.{satisfied-few}

-- the rounding is small against the weights
abbrev IsSmall : ℕ → ℕ → ℕ → ℕ → Type 0
IsSmall r q a b = (m : ℕ) → m ≤ 3 → r * (a ^ m + b ^ m) ≤ q * min (a ^ m) (b ^ m)

sum-small : (r q c x y : ℕ) → r * (x + y) ≤ q * min x y → (r * (c * x + c * y) ≤ q * (c * x)) × (r * (c * x + c * y) ≤ q * (c * y))
sum-small r q c x y small =
    let one : q * min x y ≤ q * x = mul-le-mul_left q (let e : min x y ≤ x = omega arith in e) in
    let other : q * min x y ≤ q * y = mul-le-mul_left q (let e : min x y ≤ y = omega arith in e) in
    let first : c * (r * (x + y)) ≤ c * (q * x) = mul-le-mul_left c (let e : r * (x + y) ≤ q * x = omega arith in e) in
    let second : c * (r * (x + y)) ≤ c * (q * y) = mul-le-mul_left c (let e : r * (x + y) ≤ q * y = omega arith in e) in
    (omega arith, omega arith)

shared-small : (r q a b k w v : ℕ) → k ≤ 6 → IsSmall r q a b → ShareFactor a b k w v → r * (w + v) ≤ q * w
shared-small r q a b k w v six small f = elim (cases_lt k 3) [
  | inl few ↦
      let m = 6 - k - 3 in
      let s = sum-small r q f.factor (a ^ m) (b ^ m) (small m (omega arith)) in
      let turned_round : 6 - (6 - k) ≡ k = omega arith in
      let one : w ≡ f.factor * a ^ m = f.one ∙ ap (λ n. f.factor * n) (sym (ap (site_weight a b) turned_round) ∙ weight-less a b (6 - k) (omega arith) (omega arith)) in
      let other : v ≡ f.factor * b ^ m = f.other ∙ ap (λ n. f.factor * n) (weight-more a b (6 - k) (omega arith)) in
      rw (one, other) s.0
  | inr many ↦
      let m = k - 3 in
      let s = sum-small r q f.factor (a ^ m) (b ^ m) (small m (omega arith)) in
      let one : w ≡ f.factor * b ^ m = f.one ∙ ap (λ n. f.factor * n) (weight-more a b k many) in
      let other : v ≡ f.factor * a ^ m = f.other ∙ ap (λ n. f.factor * n) (weight-less a b k many six) in
      let whole = s.1 in
      rw (one, other) (omega arith)
]

-- ---- one update

pub near-by-rule : (rule : Rule) (r s a b : ℕ) (d : Dynamics) (spins : List Bool) (i : ℕ) → d.rule ≡ rule → IsLawfulSize d.size → length spins ≡ volume d.size → i < volume d.size
    → AreThresholds r s a b rule d.thresholds
    → AreNear (r * (weight_of a b d spins + weight_of a b d (turned spins i))) (s * (turning_draws d spins i * weight_of a b d spins)) (s * (turning_draws d (turned spins i) i * weight_of a b d (turned spins i)))
near-by-rule HeatBath r s a b d spins i rule lawful sized within belong =
    heat-balances r s a b d spins i rule lawful sized within (belong (aligned d.size d.bonds spins i) (aligned-few d spins i))
near-by-rule Metropolis r s a b d spins i rule lawful sized within belong =
    let w = weight_of a b d spins in
    let v = weight_of a b d (turned spins i) in
    let near = metropolis-balances r s a b d spins i rule lawful sized within (λ many. belong _ many (satisfied-few d spins i lawful sized within)) in
    wider (r * max w v) (r * (w + v)) _ _ (mul-le-mul_left r (let e : max w v ≤ w + v = omega arith in e)) near

once : (r x y : ℕ) → AreNear r (1 * x) (1 * y) → AreNear r x y
once r x y near = let above = near.above in let below = near.below in record { above = omega arith; below = omega arith }

-- of n draws k keep the spin and t turn it
keeps-near : (t s k n q w v : ℕ) → AreNear (q * w) (t * w) (s * v) → k + t ≡ n → ((n - q) * w ≤ s * v + k * w) × (s * v + k * w ≤ (n + q) * w)
keeps-near t s k n q w v near rest =
    let whole : (k + t) * w ≡ n * w = ap (λ m. m * w) rest in
    let above = near.above in
    let below = near.below in (
      elim (cases_lt n q) [
        | inl more ↦ let none : n - q ≡ 0 = omega arith in rw none (omega arith)
        | inr few ↦ let split : (n - q + q) * w ≡ n * w = ap (λ m. m * w) (let e : n - q + q ≡ n = omega arith in e) in omega arith
      ],
      omega arith,
    )

-- ---- many

-- bounds that are the same for all configurations, as multiples of their weights
pub record Between (low high w x : ℕ) : Type 0 where
  pub least : low * w ≤ x
  pub most : x ≤ high * w

step-between : (t k low high less more w v x y : ℕ) → (less * w ≤ t * v + k * w) × (t * v + k * w ≤ more * w) → Between low high v x → Between low high w y → Between (low * less) (high * more) w (t * x + k * y)
step-between t k low high less more w v x y step other own =
    let a = mul-le-mul_left t other.least in
    let b = mul-le-mul_left k own.least in
    let c = mul-le-mul_left low step.0 in
    let e = mul-le-mul_left t other.most in
    let f = mul-le-mul_left k own.most in
    let g = mul-le-mul_left high step.1 in
    record { least = omega arith; most = omega arith }

one-between : (r q a b : ℕ) (d : Dynamics) (i low high : ℕ) (weights : List Bool → ℕ) (spins : List Bool) → IsLawfulSize d.size → length spins ≡ volume d.size → i < volume d.size
    → AreThresholds r 1 a b d.rule d.thresholds → IsSmall r q a b → ((t : List Bool) → length t ≡ volume d.size → Between low high (weight_of a b d t) (weights t))
    → Between (low * (2 ^ 32 - q)) (high * (2 ^ 32 + q)) (weight_of a b d spins) (after_update d i weights spins)
one-between r q a b d i low high weights spins lawful sized within belong small known =
    let w = weight_of a b d spins in
    let v = weight_of a b d (turned spins i) in
    let six = satisfied-turned d.size d.bonds spins i lawful sized within in
    let little = shared-small r q a b (satisfied d.size d.bonds spins i) w v (omega arith) small (share-factor a b d.size d.bonds spins i lawful sized within) in
    let near = wider (r * (w + v)) (q * w) _ _ little (once (r * (w + v)) _ _ (near-by-rule d.rule r 1 a b d spins i refl lawful sized within belong)) in
    let step = keeps-near (turning_draws d spins i) (turning_draws d (turned spins i) i) (keeping_draws d spins i) (2 ^ 32) q w v near (count-others (turns d spins i) (2 ^ 32)) in
    let long : length (turned spins i) ≡ volume d.size = length-set spins i (not (spin spins i)) ∙ sized in
    step-between (turning_draws d (turned spins i) i) (keeping_draws d spins i) low high (2 ^ 32 - q) (2 ^ 32 + q) w v (weights (turned spins i)) (weights spins) step (known (turned spins i) long) (known spins sized)

none-between : (low high m n w x : ℕ) → Between low high w x → (low * (m ^ 0 * w) ≤ x) × (x ≤ high * (n ^ 0 * w))
none-between low high m n w x known =
    let one = pow-zero m in
    let other = pow-zero n in
    let least = known.least in
    let most = known.most in
    rw (one, other) (omega arith, omega arith)

next-power : (c n m w : ℕ) → c * n * (n ^ m * w) ≡ c * (n ^ suc m * w)
next-power c n m w = let next = pow-suc n m in rw next (omega arith)

many-between : (r q a b : ℕ) (d : Dynamics) (sites : List ℕ) (low high : ℕ) (weights : List Bool → ℕ) (spins : List Bool) → IsLawfulSize d.size → length spins ≡ volume d.size
    → All (λ (i : ℕ). i < volume d.size) sites → AreThresholds r 1 a b d.rule d.thresholds → IsSmall r q a b
    → ((t : List Bool) → length t ≡ volume d.size → Between low high (weight_of a b d t) (weights t))
    → (low * ((2 ^ 32 - q) ^ length sites * weight_of a b d spins) ≤ after_updates d sites weights spins)
    × (after_updates d sites weights spins ≤ high * ((2 ^ 32 + q) ^ length sites * weight_of a b d spins))
unfolding after_updates
many-between r q a b d [] low high weights spins lawful sized within belong small known = none-between low high (2 ^ 32 - q) (2 ^ 32 + q) (weight_of a b d spins) (weights spins) (known spins sized)
many-between r q a b d (i ∷ sites) low high weights spins lawful sized within belong small known =
    let rest = many-between r q a b d sites (low * (2 ^ 32 - q)) (high * (2 ^ 32 + q)) (after_update d i weights) spins lawful sized (All-tail (λ (k : ℕ). k < volume d.size) i sites within) belong small
    (λ t long. one-between r q a b d i low high weights t lawful long (All-head (λ (k : ℕ). k < volume d.size) i sites within) belong small known) in
    let w = weight_of a b d spins in
    let x = after_updates d sites (after_update d i weights) spins in
    (subst (λ (n : ℕ). n ≤ x) (next-power low (2 ^ 32 - q) (length sites) w) rest.0, subst (λ (n : ℕ). x ≤ n) (next-power high (2 ^ 32 + q) (length sites) w) rest.1)

once-between : (w : ℕ) → Between 1 1 w w
once-between w = record { least = omega arith; most = omega arith }

without-one : (x y z : ℕ) → (1 * x ≤ z) × (z ≤ 1 * y) → (x ≤ z) × (z ≤ y)
without-one x y z both = let low = both.0 in let high = both.1 in (omega arith, omega arith)

pub boltzmann-nearly-stays : (r q a b : ℕ) (d : Dynamics) (sites : List ℕ) (spins : List Bool) → IsLawfulSize d.size → length spins ≡ volume d.size
    → All (λ (i : ℕ). i < volume d.size) sites → AreThresholds r 1 a b d.rule d.thresholds → IsSmall r q a b
    → ((2 ^ 32 - q) ^ length sites * weight_of a b d spins ≤ after_updates d sites (weight_of a b d) spins)
    × (after_updates d sites (weight_of a b d) spins ≤ (2 ^ 32 + q) ^ length sites * weight_of a b d spins)
boltzmann-nearly-stays r q a b d sites spins lawful sized within belong small =
    without-one ((2 ^ 32 - q) ^ length sites * weight_of a b d spins) ((2 ^ 32 + q) ^ length sites * weight_of a b d spins) (after_updates d sites (weight_of a b d) spins)
    (many-between r q a b d sites 1 1 (weight_of a b d) spins lawful sized within belong small (λ t long. once-between (weight_of a b d t)))
