-- How many of the draws below a bound pass the tests of the spin rules.
use Rattle.std.proofs.Common.{inl, inr, ◌≡◌, ℕ, zero, suc, ◌+◌, ◌-◌, ◌<◌, ◌≤◌, Bool, true, false, not, ◌||◌, cond, List, length, get_or, set, refl, ap, ◌∙◌, arith}
use Rattle.std.specs.Prelude.{nat_lt}
use Rattle.std.proofs.lemmas.Bool.{cases_lt, lt-ltb, le-ltb, le-leb, lt-leb, eq-eqb}
use Rattle.std.proofs.lemmas.List.{get_or-set_same}
use Rattle.spin_model.specs.Words.{one_if}
use Rattle.spin_model.specs.Lattice.{colour}
use Rattle.spin_model.specs.SiteRule.{HeatBath, Metropolis, new_spin, is_flipped}
use Rattle.spin_model.specs.Steps.{count_below}
use Rattle.scalar_rule.specs.Neighbours.{spin, agree}
use Rattle.scalar_rule.specs.Sweep.{Dynamics, visit}
use Rattle.scalar_rule.proofs.HalfSweeps.{updated}
use Rattle.scalar_rule.proofs.BondCounts.{agree-true}
use Rattle.model_laws.specs.Balance.{updated_by}

-- ---- counts

pub count-same : (p q : ℕ → Bool) (n : ℕ) → ((u : ℕ) → p u ≡ q u) → count_below p n ≡ count_below q n
unfolding count_below
count-same p q zero same = refl
count-same p q (suc n) same =
    let before = count-same p q n same in
    let last = ap one_if (same n) in
    omega arith

-- the numbers below n that are below t
count-least : (t n : ℕ) → (t ≤ n → count_below (λ u. nat_lt u t) n ≡ t) × (n ≤ t → count_below (λ u. nat_lt u t) n ≡ n)
unfolding count_below
count-least t zero = ((λ few. omega arith), (λ many. refl))
count-least t (suc n) =
    let before = count-least t n in (
      λ few. elim (cases_lt n t) [
        | inl less ↦ let last = ap one_if (lt-ltb n t less) in let rest = before.1 (omega arith) in omega arith
        | inr past ↦ let last = ap one_if (le-ltb n t past) in let rest = before.0 past in omega arith
      ],
      λ many. let last = ap one_if (lt-ltb n t (omega arith)) in let rest = before.1 (omega arith) in omega arith,
    )

pub count-less : (t n : ℕ) → t ≤ n → count_below (λ u. nat_lt u t) n ≡ t
count-less t n few = (count-least t n).0 few

one-or-other : (b : Bool) → one_if (not b) + one_if b ≡ 1
one-or-other true = refl
one-or-other false = refl

-- the others
pub count-others : (p : ℕ → Bool) (n : ℕ) → count_below (λ u. not (p u)) n + count_below p n ≡ n
unfolding count_below
count-others p zero = refl
count-others p (suc n) =
    let before = count-others p n in
    let last = one-or-other (p n) in
    omega arith

pub count-all : (p : ℕ → Bool) (n : ℕ) → ((u : ℕ) → p u ≡ true) → count_below p n ≡ n
unfolding count_below
count-all p zero every = refl
count-all p (suc n) every =
    let before = count-all p n every in
    let last = ap one_if (every n) in
    omega arith

-- ---- the two rules

agree-false : (b : Bool) → agree b false ≡ not b
agree-false true = refl
agree-false false = refl

chosen-turned : (f s : Bool) → agree (cond f (not s) s) (not s) ≡ f
chosen-turned true true = refl
chosen-turned true false = refl
chosen-turned false true = refl
chosen-turned false false = refl

chosen-kept : (f s : Bool) → agree (cond f (not s) s) s ≡ not f
chosen-kept true true = refl
chosen-kept true false = refl
chosen-kept false true = refl
chosen-kept false false = refl

pub up-draws : (thresholds : List ℕ) (a k : ℕ) (old : Bool) (all : ℕ) → get_or thresholds a 0 ≤ all
    → count_below (λ u. agree (new_spin HeatBath thresholds a k u old) true) all ≡ get_or thresholds a 0
up-draws thresholds a k old all within =
    count-same (λ u. agree (new_spin HeatBath thresholds a k u old) true) (λ u. nat_lt u (get_or thresholds a 0)) all (λ u. agree-true (nat_lt u (get_or thresholds a 0)))
    ∙ count-less (get_or thresholds a 0) all within

pub down-draws : (thresholds : List ℕ) (a k : ℕ) (old : Bool) (all : ℕ) → get_or thresholds a 0 ≤ all
    → count_below (λ u. agree (new_spin HeatBath thresholds a k u old) false) all + get_or thresholds a 0 ≡ all
down-draws thresholds a k old all within =
    let below : ℕ → Bool = λ u. nat_lt u (get_or thresholds a 0) in
    let turned_round = count-same (λ u. agree (new_spin HeatBath thresholds a k u old) false) (λ u. not (below u)) all (λ u. agree-false (below u)) in
    let others = count-others below all in
    let few = count-less (get_or thresholds a 0) all within in
    omega arith

-- ---- whether Metropolis turns the spin

always-flipped : (thresholds : List ℕ) (k u : ℕ) → k ≤ 3 → is_flipped thresholds k u ≡ true
always-flipped thresholds k u few = ap (λ b. b || nat_lt u (get_or thresholds (k - 4) 0)) (le-leb k 3 few)

sometimes-flipped : (thresholds : List ℕ) (k u : ℕ) → 4 ≤ k → is_flipped thresholds k u ≡ nat_lt u (get_or thresholds (k - 4) 0)
sometimes-flipped thresholds k u many = let more : 3 < k = omega arith in ap (λ b. b || nat_lt u (get_or thresholds (k - 4) 0)) (lt-leb k 3 more)

pub flips-all : (thresholds : List ℕ) (k all : ℕ) → k ≤ 3 → count_below (is_flipped thresholds k) all ≡ all
flips-all thresholds k all few = count-all (is_flipped thresholds k) all (λ u. always-flipped thresholds k u few)

pub flips-some : (thresholds : List ℕ) (k all : ℕ) → 4 ≤ k → get_or thresholds (k - 4) 0 ≤ all → count_below (is_flipped thresholds k) all ≡ get_or thresholds (k - 4) 0
flips-some thresholds k all many within =
    count-same (is_flipped thresholds k) (λ u. nat_lt u (get_or thresholds (k - 4) 0)) all (λ u. sometimes-flipped thresholds k u many)
    ∙ count-less (get_or thresholds (k - 4) 0) all within

pub turned-draws : (thresholds : List ℕ) (a k : ℕ) (old : Bool) (all : ℕ)
    → count_below (λ u. agree (new_spin Metropolis thresholds a k u old) (not old)) all ≡ count_below (is_flipped thresholds k) all
turned-draws thresholds a k old all = count-same _ (is_flipped thresholds k) all (λ u. chosen-turned (is_flipped thresholds k u) old)

pub kept-draws : (thresholds : List ℕ) (a k : ℕ) (old : Bool) (all : ℕ)
    → count_below (λ u. agree (new_spin Metropolis thresholds a k u old) old) all + count_below (is_flipped thresholds k) all ≡ all
kept-draws thresholds a k old all =
    let same = count-same (λ u. agree (new_spin Metropolis thresholds a k u old) old) (λ u. not (is_flipped thresholds k u)) all (λ u. chosen-kept (is_flipped thresholds k u) old) in
    let others = count-others (is_flipped thresholds k) all in
    omega arith

-- ---- the update of a site

-- what an update writes
pub update-writes : (d : Dynamics) (spins : List Bool) (i u : ℕ) → updated_by d spins i u ≡ set spins i (updated d (λ _. u) spins i)
unfolding visit
update-writes d spins i u = ap (λ b. cond b (set spins i (updated d (λ _. u) spins i)) spins) (eq-eqb (colour d.size i) (colour d.size i) refl)

pub update-spin : (d : Dynamics) (spins : List Bool) (i u : ℕ) → i < length spins → spin (updated_by d spins i u) i ≡ updated d (λ _. u) spins i
update-spin d spins i u within = ap (λ xs. spin xs i) (update-writes d spins i u) ∙ get_or-set_same spins i _ false within
