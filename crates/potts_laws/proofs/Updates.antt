-- An update is nearly fair: it makes one of three turns, each its own inverse, or none. So are lists of updates.
use Rattle.std.proofs.Common.{◌≡◌, ℕ, zero, suc, ◌+◌, ◌-◌, ◌*◌, ◌/◌, ◌%◌, ◌^◌, ◌<◌, ◌≤◌, Bool, true, false, ◌==◌, if◌then◌else◌, List, length, get_or, set, ap, sym, ◌∙◌, subst, arith}
use Rattle.std.specs.Prelude.{All, max}
use Rattle.std.proofs.lemmas.List.{get_or-set_same, set-set, set-get_or}
use Rattle.std.proofs.lemmas.List.Elements.{All-get_or, All-weaker}
use Rattle.finite_chance.specs.Sums.{sum_to}
use Rattle.finite_chance.specs.Chains.{AreNear}
use Rattle.finite_chance.proofs.Sums.{IsSum, IsListOf, Keeps, each-same, sum-same, list-is-sum, place-keeps}
use Rattle.finite_chance.proofs.Steps.{IsReversible, one-step}
use Rattle.finite_chance.proofs.Chains.{IsNearlyFair, chain}
use Rattle.spin_model.specs.Lattice.{IsLawfulSize, volume}
use Rattle.spin_model.specs.Steps.{count_below}
use Rattle.spin_model.proofs.Counts.{count-most}
use Rattle.potts_glass.specs.Potts.{Dynamics, step_of, proposed, is_made, votes, around}
use Rattle.potts_laws.specs.Changes.{changed, updated_by, leading_draws}
use Rattle.potts_laws.specs.Weights.{weight_of, AreThresholds}
use Rattle.potts_laws.specs.Equilibrium.{over_colour, over_configurations, update_by, partition, total, total_after}
use Rattle.potts_laws.proofs.Balancing.{updates-keep, update-colour, updates-balance, wider}
use Rattle.potts_laws.proofs.Draws.{count-pairs, by-colour, sum-ones}

-- ---- the three turns of a colour

abbrev IsColour : ℕ → Type 0
IsColour c = c < 4

-- colours in two pairs, each led to the other of its pair
record IsPairing (t : ℕ → ℕ) : Type 0 where
  pub keeps : Keeps over_colour t
  pub small : (c : ℕ) → c < 4 → t c < 4
  pub back : (c : ℕ) → c < 4 → t (t c) ≡ c
  pub step : (c : ℕ) → c < 4 → proposed c ((t c + 3 - c) % 4) ≡ t c
  pub short : (c : ℕ) → c < 4 → (t c + 3 - c) % 4 < 3

abbrev first : ℕ → ℕ
first c = c + 1 - 2 * (c % 2)

abbrev second : ℕ → ℕ
second c = (c + 2) % 4

abbrev third : ℕ → ℕ
third c = 3 - c

first-pairs : IsPairing first
first-pairs = record { keeps = λ f. omega arith; small = λ c few. omega arith; back = λ c few. omega arith; step = λ c few. omega arith; short = λ c few. omega arith }

second-pairs : IsPairing second
second-pairs = record { keeps = λ f. omega arith; small = λ c few. omega arith; back = λ c few. omega arith; step = λ c few. omega arith; short = λ c few. omega arith }

third-pairs : IsPairing third
third-pairs = record { keeps = λ f. omega arith; small = λ c few. omega arith; back = λ c few. omega arith; step = λ c few. omega arith; short = λ c few. omega arith }

all-four : (f : ℕ → ℕ) (c : ℕ) → c < 4 → over_colour f ≡ f c + f (first c) + f (second c) + f (third c)
all-four f zero few = omega arith
all-four f (suc zero) few = omega arith
all-four f (suc (suc zero)) few = omega arith
all-four f (suc (suc (suc zero))) few = omega arith
all-four f (suc (suc (suc (suc c)))) few = absurd (omega arith)

-- ---- configurations

abbrev IsConfiguration : ℕ → List ℕ → Type 0
IsConfiguration v = IsListOf IsColour v

colour-is-sum : IsSum IsColour over_colour
colour-is-sum = record {
  adds = λ f g. omega arith;
  scales = λ c f. omega arith;
  grows = λ f g more.
      let a = more 0 (omega arith) in
      let b = more 1 (omega arith) in
      let c = more 2 (omega arith) in
      let d = more 3 (omega arith) in
      omega arith;
}

configurations-are-sum : (v : ℕ) → IsSum (IsConfiguration v) (over_configurations v)
configurations-are-sum v = list-is-sum IsColour over_colour v colour-is-sum

colour-at : (v : ℕ) (x : List ℕ) (i : ℕ) → IsConfiguration v x → i < v → get_or x i 0 < 4
colour-at v x i ok within = let long = ok.sized in All-get_or IsColour x i 0 (omega arith) ok.members

-- ---- the turn of a site

abbrev turned : (ℕ → ℕ) → ℕ → List ℕ → List ℕ
turned t i x = set x i (t (get_or x i 0))

abbrev turning : Dynamics → (ℕ → ℕ) → ℕ → List ℕ → ℕ
turning d t i x = leading_draws d x i (t (get_or x i 0))

turned-back : (t : ℕ → ℕ) (i : ℕ) (x : List ℕ) → IsPairing t → i < length x → get_or x i 0 < 4 → turned t i (turned t i x) ≡ x
turned-back t i x p within few =
    set-set x i (t (get_or x i 0)) (t (get_or (turned t i x) i 0))
    ∙ ap (λ c. set x i (t c)) (get_or-set_same x i (t (get_or x i 0)) 0 within)
    ∙ ap (set x i) (p.back (get_or x i 0) few)
    ∙ set-get_or x i 0

pairs-of_draws : (d : Dynamics) (x : List ℕ) (i c : ℕ) → leading_draws d x i c ≡ count_below (λ w. get_or (update_by d i w x) i 0 == c) (2 ^ 64)
pairs-of_draws d x i c = sym (count-pairs (λ u v. get_or (updated_by d x i u v) i 0 == c) 4294967296)

leading-most : (d : Dynamics) (x : List ℕ) (i c : ℕ) → leading_draws d x i c ≤ 2 ^ 64
leading-most d x i c =
    let e = pairs-of_draws d x i c in
    let most = count-most (λ w. get_or (update_by d i w x) i 0 == c) (2 ^ 64) in
    rw e most

turn-near : (r s a b : ℕ) (d : Dynamics) (t : ℕ → ℕ) (i : ℕ) (x : List ℕ) → IsPairing t → IsLawfulSize d.size → i < volume d.size → AreThresholds r s a b d.thresholds
    → IsConfiguration (volume d.size) x
    → AreNear ((2 ^ 32 * s + 1431655766 * r) * (weight_of a b d x + weight_of a b d (turned t i x)))
    (s * (turning d t i x * weight_of a b d x)) (s * (turning d t i (turned t i x) * weight_of a b d (turned t i x)))
turn-near r s a b d t i x p lawful within thresholds ok =
    let c = get_or x i 0 in
    let e = 2 ^ 32 * s + 1431655766 * r in
    let long = ok.sized in
    let few = colour-at (volume d.size) x i ok within in
    let w = weight_of a b d x in
    let v = weight_of a b d (turned t i x) in
    let here : t (get_or (turned t i x) i 0) ≡ c = ap t (get_or-set_same x i (t c) 0 (omega arith)) ∙ p.back c few in
    let near = updates-balance r s a b d x i ((t c + 3 - c) % 4) lawful long within few (p.short c few) thresholds in
    let other = subst (λ n. AreNear (e * max w (weight_of a b d (changed x i n))) (s * (leading_draws d x i n * w)) (s * (leading_draws d (changed x i n) i c * weight_of a b d (changed x i n)))) (p.step c few) near in
    let wide = wider e (max w v) (w + v) _ _ (let z : max w v ≤ w + v = omega arith in z) other in
    subst (λ n. AreNear (e * (w + v)) (s * (turning d t i x * w)) (s * (leading_draws d (turned t i x) i n * v))) (sym here) wide

turn-reversible : (r s a b : ℕ) (d : Dynamics) (t : ℕ → ℕ) (i : ℕ) → IsPairing t → IsLawfulSize d.size → i < volume d.size → AreThresholds r s a b d.thresholds
    → IsReversible (IsConfiguration (volume d.size)) (over_configurations (volume d.size)) (2 ^ 64) (2 ^ 32 * s + 1431655766 * r) s (weight_of a b d) (turned t i)
    (turning d t i) (λ x. 2 ^ 64 - turning d t i x)
turn-reversible r s a b d t i p lawful within thresholds = record {
  keeps = place-keeps over_colour t 0 p.keeps (volume d.size) i within;
  back = λ x ok. let long = ok.sized in turned-back t i x p (omega arith) (colour-at (volume d.size) x i ok within);
  all = λ x ok. let most = leading-most d x i (t (get_or x i 0)) in omega arith;
  near = λ x ok. turn-near r s a b d t i x p lawful within thresholds ok;
}

-- ---- an update

either-small : (b : Bool) (c other : ℕ) → c < 4 → other < 4 → (if b then other else c) < 4
either-small true c other few less = less
either-small false c other few less = few

update-small : (d : Dynamics) (x : List ℕ) (i u v : ℕ) → i < length x → get_or x i 0 < 4 → get_or (updated_by d x i u v) i 0 < 4
update-small d x i u v within few =
    let c = get_or x i 0 in
    let near = around d.size d.bonds x i in
    let q = proposed c (step_of u) in
    rw (update-colour d x i u v within) (either-small (is_made d.thresholds (votes near c q) (votes near q c) v) c q few (omega arith))

-- what comes of a configuration by all pairs of draws, in four parts
record IsFourWays (d : Dynamics) (i : ℕ) (h : List ℕ → ℕ) (x : List ℕ) (kept : ℕ) : Type 0 where
  pub whole : kept + turning d first i x + turning d second i x + turning d third i x ≡ 2 ^ 64
  pub parts : sum_to (2 ^ 64) (λ w. h (update_by d i w x))
      ≡ kept * h x + turning d first i x * h (turned first i x) + turning d second i x * h (turned second i x) + turning d third i x * h (turned third i x)

counted : (d : Dynamics) (i : ℕ) (f : ℕ → ℕ) (x : List ℕ) → i < length x → get_or x i 0 < 4
    → sum_to (2 ^ 64) (λ w. f (get_or (update_by d i w x) i 0)) ≡ over_colour (λ c. leading_draws d x i c * f c)
counted d i f x within few =
    by-colour (λ w. get_or (update_by d i w x) i 0) f (λ w. update-small d x i (w / 2 ^ 32) (w % 2 ^ 32) within few) (2 ^ 64)
    ∙ ap over_colour (each-same _ _ (λ c. ap (λ n. n * f c) (sym (pairs-of_draws d x i c))))

four-ways : (d : Dynamics) (i : ℕ) (h : List ℕ → ℕ) (x : List ℕ) → i < length x → get_or x i 0 < 4 → IsFourWays d i h x (leading_draws d x i (get_or x i 0))
four-ways d i h x within few =
    let c = get_or x i 0 in
    let ones = sym (sum-ones (2 ^ 64)) ∙ counted d i (λ n. 1) x within few ∙ all-four (λ n. leading_draws d x i n * 1) c few in
    let ways = ap (sum_to (2 ^ 64)) (each-same _ _ (λ w. ap h (updates-keep d x i (w / 2 ^ 32) (w % 2 ^ 32) within)))
    ∙ counted d i (λ n. h (changed x i n)) x within few ∙ all-four (λ n. leading_draws d x i n * h (changed x i n)) c few in
    let same : leading_draws d x i c * h (changed x i c) ≡ leading_draws d x i c * h x = ap (λ y. leading_draws d x i c * h y) (set-get_or x i 0) in
    record { whole = omega arith; parts = omega arith }

three-turns : (w n n0 t1 t2 t3 h0 h1 h2 h3 u : ℕ) → n0 + t1 + t2 + t3 ≡ n → u ≡ n0 * h0 + t1 * h1 + t2 * h2 + t3 * h3
    → w * (t1 * h1 + (n - t1) * h0) + w * (t2 * h2 + (n - t2) * h0) + w * (t3 * h3 + (n - t3) * h0) ≡ w * u + 2 * (n * (w * h0))
three-turns w n n0 t1 t2 t3 h0 h1 h2 h3 u whole parts =
    let k1 = n - t1 in
    let k2 = n - t2 in
    let k3 = n - t3 in
    let kept : k1 + k2 + k3 ≡ 2 * n + n0 = omega arith in
    let scaled = ap (λ y. y * (w * h0)) kept in
    rw parts (omega arith)

-- the sum of three comparisons with one number
three-near : (e q n t1 t2 t3 u y : ℕ) → t1 + t2 + t3 ≡ u + 2 * (n * y) → AreNear e (q * t1) (q * (n * y)) → AreNear e (q * t2) (q * (n * y)) → AreNear e (q * t3) (q * (n * y))
    → AreNear (3 * e) (q * u) (q * (n * y))
three-near e q n t1 t2 t3 u y parts one two three =
    let scaled = ap (λ z. q * z) parts in
    let a = one.above in
    let b = one.below in
    let c = two.above in
    let f = two.below in
    let g = three.above in
    let h = three.below in
    record { above = omega arith; below = omega arith }

scaled-near : (e m z x y : ℕ) → AreNear (3 * (e * m * z)) x y → AreNear (3 * e * m * z) x y
scaled-near e m z x y near = let above = near.above in let below = near.below in record { above = omega arith; below = omega arith }

abbrev fair_for : ℕ → ℕ → ℕ → ℕ → Dynamics → ℕ → Type 0
fair_for r s a b d i = IsNearlyFair (over_configurations (volume d.size)) (2 ^ 64) (3 * (2 ^ 32 * s + 1431655766 * r)) s (weight_of a b d) (update_by d) i

update-near : (r s a b : ℕ) (d : Dynamics) (i : ℕ) → IsLawfulSize d.size → i < volume d.size → AreThresholds r s a b d.thresholds
    → (h : List ℕ → ℕ) (m : ℕ) → ((x : List ℕ) → h x ≤ m)
    → AreNear (3 * (2 ^ 32 * s + 1431655766 * r) * m * partition a b d)
    (s * over_configurations (volume d.size) (λ x. weight_of a b d x * sum_to (2 ^ 64) (λ w. h (update_by d i w x)))) (s * (2 ^ 64 * total a b d h))
update-near r s a b d i lawful within thresholds h m small =
    let e = 2 ^ 32 * s + 1431655766 * r in
    let v = volume d.size in
    let Ok = IsConfiguration v in
    let sum = over_configurations v in
    let is = configurations-are-sum v in
    let w = weight_of a b d in
    let by : (ℕ → ℕ) → List ℕ → ℕ = λ t x. w x * (turning d t i x * h (turned t i x) + (2 ^ 64 - turning d t i x) * h x) in
    let near : (t : ℕ → ℕ) → IsPairing t → AreNear (e * m * sum w) (s * sum (by t)) (s * (2 ^ 64 * sum (λ x. w x * h x))) =
    λ t p. one-step Ok sum (2 ^ 64) e s w (turned t i) (turning d t i) (λ x. 2 ^ 64 - turning d t i x) is (turn-reversible r s a b d t i p lawful within thresholds) h m small in
    let after : List ℕ → ℕ = λ x. w x * sum_to (2 ^ 64) (λ u. h (update_by d i u x)) in
    let before : List ℕ → ℕ = λ x. w x * h x in
    let parts : sum (by first) + sum (by second) + sum (by third) ≡ sum after + 2 * (2 ^ 64 * sum before) =
    ap (λ y. y + sum (by third)) (sym (is.adds (by first) (by second))) ∙ sym (is.adds (λ x. by first x + by second x) (by third))
    ∙ sum-same Ok sum _ (λ x. after x + 2 * (2 ^ 64 * before x)) is (λ x ok.
    let long = ok.sized in
    let ways = four-ways d i h x (omega arith) (colour-at v x i ok within) in
    three-turns (w x) (2 ^ 64) (leading_draws d x i (get_or x i 0)) (turning d first i x) (turning d second i x) (turning d third i x)
    (h x) (h (turned first i x)) (h (turned second i x)) (h (turned third i x)) (sum_to (2 ^ 64) (λ u. h (update_by d i u x))) ways.whole ways.parts)
    ∙ is.adds after (λ x. 2 * (2 ^ 64 * before x))
    ∙ ap (λ y. sum after + y) (is.scales 2 (λ x. 2 ^ 64 * before x) ∙ ap (λ y. 2 * y) (is.scales (2 ^ 64) before)) in
    scaled-near e m (sum w) _ _
    (three-near (e * m * sum w) s (2 ^ 64) (sum (by first)) (sum (by second)) (sum (by third)) (sum after) (sum before) parts
    (near first first-pairs) (near second second-pairs) (near third third-pairs))

-- ---- all of them

update-fair : (r s a b : ℕ) (d : Dynamics) (i : ℕ) → IsLawfulSize d.size → i < volume d.size → AreThresholds r s a b d.thresholds → fair_for r s a b d i
update-fair r s a b d i lawful within thresholds = record { near = λ h m small. update-near r s a b d i lawful within thresholds h m small }

pub updates-stay_near : (r s a b : ℕ) (d : Dynamics) (sites : List ℕ) (g : List ℕ → ℕ) (m : ℕ)
    → IsLawfulSize d.size → AreThresholds r s a b d.thresholds → All (λ i. i < volume d.size) sites → ((x : List ℕ) → g x ≤ m)
    → AreNear (length sites * (3 * (2 ^ 32 * s + 1431655766 * r)) * (2 ^ 64) ^ length sites * m * partition a b d)
    (s * (2 ^ 64 * total_after a b d sites g))
    (s * (2 ^ 64 * ((2 ^ 64) ^ length sites * total a b d g)))
updates-stay_near r s a b d sites g m lawful thresholds inside small =
    chain (over_configurations (volume d.size)) (2 ^ 64) (3 * (2 ^ 32 * s + 1431655766 * r)) s (weight_of a b d) (update_by d) sites
    (All-weaker (λ i. i < volume d.size) (fair_for r s a b d) (λ i within. update-fair r s a b d i lawful within thresholds) sites inside) g m small
