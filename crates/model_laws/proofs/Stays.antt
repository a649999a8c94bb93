-- Updates one after the other leave Boltzmann's weights as they are.
use Rattle.std.proofs.Common.{◌≡◌, ℕ, suc, ◌+◌, ◌*◌, ◌^◌, ◌<◌, ◌≤◌, Bool, not, List, [], ◌∷◌, length, ap, ◌∙◌, arith}
use Rattle.std.specs.Prelude.{All}
use Rattle.std.proofs.Math.Nat.{pow-zero, pow-suc}
use Rattle.std.proofs.lemmas.List.{length-set}
use Rattle.std.proofs.lemmas.List.Elements.{All-head, All-tail}
use Rattle.spin_model.specs.Lattice.{IsLawfulSize, volume}
use Rattle.spin_model.specs.SiteRule.{Rule, HeatBath, Metropolis}
use Rattle.scalar_rule.specs.Neighbours.{spin, aligned}
use Rattle.scalar_rule.specs.Sweep.{Dynamics}
use Rattle.model_laws.specs.Energies.{turned}
use Rattle.model_laws.specs.Balance.{turning_draws, keeping_draws, weight_of, more_satisfied, IsExactAt}
use Rattle.model_laws.specs.Stationary.{after_update, after_updates, AreThresholds}
use Rattle.model_laws.proofs.Turning.{satisfied-turned}
use Rattle.model_laws.proofs.Balancing.{keeps-boltzmann}
use Rattle.model_laws.proofs.Reached.{aligned-few}

exact-here : (a b : ℕ) (rule : Rule) (thresholds : List ℕ) (j k : ℕ) → j ≤ 6 → k ≤ 6 → AreThresholds 0 1 a b rule thresholds → IsExactAt a b rule thresholds j k
exact-here a b HeatBath thresholds j k few six exact = exact j few
exact-here a b Metropolis thresholds j k few six exact = λ many. exact k many six

pub satisfied-few : (d : Dynamics) (spins : List Bool) (i : ℕ) → IsLawfulSize d.size → length spins ≡ volume d.size → i < volume d.size → more_satisfied d spins i ≤ 6
satisfied-few d spins i lawful sized within = let six = satisfied-turned d.size d.bonds spins i lawful sized within in omega arith

-- of a configuration, what comes from the other and from itself
scaled : (t k c n w v x y : ℕ) → t * v + k * w ≡ n * w → x ≡ c * v → y ≡ c * w → t * x + k * y ≡ c * n * w
scaled t k c n w v x y stays one other = let times = ap (λ m. c * m) stays in rw (one, other) (omega arith)

one-update : (a b : ℕ) (d : Dynamics) (i c : ℕ) (weights : List Bool → ℕ) (spins : List Bool) → IsLawfulSize d.size → length spins ≡ volume d.size → i < volume d.size
    → AreThresholds 0 1 a b d.rule d.thresholds → ((t : List Bool) → length t ≡ volume d.size → weights t ≡ c * weight_of a b d t)
    → after_update d i weights spins ≡ c * 2 ^ 32 * weight_of a b d spins
one-update a b d i c weights spins lawful sized within exact known =
    let here = exact-here a b d.rule d.thresholds (aligned d.size d.bonds spins i) (more_satisfied d spins i) (aligned-few d spins i) (satisfied-few d spins i lawful sized within) exact in
    let long : length (turned spins i) ≡ volume d.size = length-set spins i (not (spin spins i)) ∙ sized in
    scaled (turning_draws d (turned spins i) i) (keeping_draws d spins i) c (2 ^ 32) (weight_of a b d spins) (weight_of a b d (turned spins i)) (weights (turned spins i)) (weights spins)
    (keeps-boltzmann a b d spins i lawful sized within here) (known (turned spins i) long) (known spins sized)

none-more : (c n w : ℕ) → c * w ≡ c * (n ^ 0 * w)
none-more c n w = let one = pow-zero n in rw one (omega arith)

one-more : (c n m w : ℕ) → c * n * (n ^ m * w) ≡ c * (n ^ suc m * w)
one-more c n m w = let next = pow-suc n m in rw next (omega arith)

many-updates : (a b : ℕ) (d : Dynamics) (sites : List ℕ) (c : ℕ) (weights : List Bool → ℕ) (spins : List Bool) → IsLawfulSize d.size → length spins ≡ volume d.size
    → All (λ (i : ℕ). i < volume d.size) sites → AreThresholds 0 1 a b d.rule d.thresholds → ((t : List Bool) → length t ≡ volume d.size → weights t ≡ c * weight_of a b d t)
    → after_updates d sites weights spins ≡ c * ((2 ^ 32) ^ length sites * weight_of a b d spins)
unfolding after_updates
many-updates a b d [] c weights spins lawful sized within exact known = known spins sized ∙ none-more c (2 ^ 32) (weight_of a b d spins)
many-updates a b d (i ∷ sites) c weights spins lawful sized within exact known =
    many-updates a b d sites (c * 2 ^ 32) (after_update d i weights) spins lawful sized (All-tail (λ (k : ℕ). k < volume d.size) i sites within) exact
    (λ t long. one-update a b d i c weights t lawful long (All-head (λ (k : ℕ). k < volume d.size) i sites within) exact known)
    ∙ one-more c (2 ^ 32) (length sites) (weight_of a b d spins)

once : (w : ℕ) → w ≡ 1 * w
once w = omega arith

times-once : (x : ℕ) → 1 * x ≡ x
times-once x = omega arith

pub boltzmann-stays : (a b : ℕ) (d : Dynamics) (sites : List ℕ) (spins : List Bool) → IsLawfulSize d.size → length spins ≡ volume d.size
    → All (λ (i : ℕ). i < volume d.size) sites → AreThresholds 0 1 a b d.rule d.thresholds
    → after_updates d sites (weight_of a b d) spins ≡ (2 ^ 32) ^ length sites * weight_of a b d spins
boltzmann-stays a b d sites spins lawful sized within exact =
    many-updates a b d sites 1 (weight_of a b d) spins lawful sized within exact (λ t long. once (weight_of a b d t))
    ∙ times-once ((2 ^ 32) ^ length sites * weight_of a b d spins)
