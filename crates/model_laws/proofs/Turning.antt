-- What turning one spin does to the bonds: those of the site change, all others stay.
use Rattle.std.proofs.Common.{inl, inr, ◌⊎◌, ◌≡◌, ◌≢◌, ℕ, zero, suc, ◌+◌, ◌*◌, ◌/◌, ◌%◌, ◌<◌, Bool, true, false, not, cond, ◌==◌, List, length, refl, ap, sym, ◌∙◌, arith}
use Rattle.std.specs.Prelude.{pos, ◌+ℤ◌, ◌-ℤ◌}
use Rattle.std.proofs.lemmas.Bool.{cases_lt, cases_eq, eq-eqb}
use Rattle.std.proofs.lemmas.Bool.Decides.{nat_tests}
use Rattle.std.proofs.lemmas.Int.{ints}
use Rattle.std.proofs.lemmas.List.{get_or-set_same, get_or-set_other}
use Rattle.spin_model.specs.Words.{one_if}
use Rattle.spin_model.specs.Couplings.{Bonds}
use Rattle.spin_model.specs.Lattice.{IsLawfulSize, volume, bond_count, bond, colour, forward, backward}
use Rattle.spin_model.proofs.Colours.{colour-forward, colour-backward, differs}
use Rattle.scalar_rule.specs.Neighbours.{spin, coupled, agree, pull, ahead, behind, aligned, satisfied}
use Rattle.scalar_rule.specs.Sums.{is_unsatisfied, unsatisfied, energy}
use Rattle.scalar_rule.proofs.BondCounts.{satisfied-up, satisfied-down}
use Rattle.scalar_rule.specs.Positions.{sum_below}
use Rattle.scalar_rule.proofs.Extremes.{sum-same}
use Rattle.scalar_rule.proofs.FiniteSums.{count-sum, sum-thirds, ArePermutation}
use Rattle.scalar_rule.proofs.Shifts.{shift-x, shift-y, shift-z}
use Rattle.model_laws.specs.Energies.{turned}

-- ---- the spins

pub spin-turned : (spins : List Bool) (i : ℕ) → i < length spins → spin (turned spins i) i ≡ not (spin spins i)
spin-turned spins i within = get_or-set_same spins i _ false within

pub spin-kept : (spins : List Bool) (i k : ℕ) → k ≢ i → spin (turned spins i) k ≡ spin spins k
spin-kept spins i k other = get_or-set_other spins i k _ false other

-- a site is none of its own neighbours
pub forward-other : (l i d : ℕ) → IsLawfulSize l → i < volume l → forward l i d ≢ i
forward-other l i d lawful within same = differs _ _ (colour-forward l i d lawful within) (ap (colour l) same)

pub backward-other : (l i d : ℕ) → IsLawfulSize l → i < volume l → backward l i d ≢ i
backward-other l i d lawful within same = differs _ _ (colour-backward l i d lawful within) (ap (colour l) same)

-- ---- the counts at the site

pub aligned-turned : (l : ℕ) (bonds : Bonds) (spins : List Bool) (i : ℕ) → IsLawfulSize l → i < volume l → aligned l bonds (turned spins i) i ≡ aligned l bonds spins i
unfolding aligned
aligned-turned l bonds spins i lawful within =
    let e : (d : ℕ) → spin (turned spins i) (forward l i d) ≡ spin spins (forward l i d) = λ d. spin-kept spins i (forward l i d) (forward-other l i d lawful within) in
    let f : (d : ℕ) → spin (turned spins i) (backward l i d) ≡ spin spins (backward l i d) = λ d. spin-kept spins i (backward l i d) (backward-other l i d lawful within) in
    rw (e 0, e 1, e 2, f 0, f 1, f 2) refl

opposite : (s : Bool) → (s ≡ true) ⊎ (s ≡ false)
opposite true = inl refl
opposite false = inr refl

pub satisfied-turned : (l : ℕ) (bonds : Bonds) (spins : List Bool) (i : ℕ) → IsLawfulSize l → length spins ≡ volume l → i < volume l
    → satisfied l bonds (turned spins i) i + satisfied l bonds spins i ≡ 6
satisfied-turned l bonds spins i lawful sized within =
    let same = aligned-turned l bonds spins i lawful within in
    let other : spin (turned spins i) i ≡ not (spin spins i) = spin-turned spins i (omega arith) in
    elim (opposite (spin spins i)) [
      | inl up ↦
          let before = satisfied-up l bonds spins i up in
          let after = satisfied-down l bonds (turned spins i) i (other ∙ ap not up) in
          omega arith
      | inr down ↦
          let before = satisfied-down l bonds spins i down in
          let after = satisfied-up l bonds (turned spins i) i (other ∙ ap not down) in
          omega arith
    ]

-- ---- sums whose terms differ at one place, and at two

sum-one : (f g : ℕ → ℕ) (a n : ℕ) → a < n → ((j : ℕ) → j < n → j ≢ a → f j ≡ g j) → sum_below f n + g a ≡ sum_below g n + f a
unfolding sum_below
sum-one f g a zero within same = absurd (omega arith)
sum-one f g a (suc n) within same = elim (cases_lt a n) [
  | inl less ↦
      let before = sum-one f g a n less (λ j below other. same j (omega arith) other) in
      let last = same n (omega arith) (omega arith) in
      omega arith
  | inr not_less ↦
      let here : n ≡ a = omega arith in
      let before = sum-same f g n (λ j below. same j (omega arith) (omega arith)) in
      let f_here = ap f here in
      let g_here = ap g here in
      omega arith
]

sum-two : (f g : ℕ → ℕ) (a b n : ℕ) → a < n → b < n → a ≢ b → ((j : ℕ) → j < n → j ≢ a → j ≢ b → f j ≡ g j)
    → sum_below f n + (g a + g b) ≡ sum_below g n + (f a + f b)
sum-two f g a b n a_within b_within apart same =
    let h : ℕ → ℕ = λ j. cond (j == b) (g j) (f j) in
    let at_b : h b ≡ g b = ap (λ t. cond t (g b) (f b)) (eq-eqb b b refl) in
    let not_b : (j : ℕ) → j ≢ b → h j ≡ f j = λ j other. let t : (j == b) ≡ false = grind (arith, nat_tests) in ap (λ t. cond t (g j) (f j)) t in
    let at_a : h a ≡ f a = not_b a apart in
    let first = sum-one f h b n b_within (λ j below other. sym (not_b j other)) in
    let between : (j : ℕ) → j < n → j ≢ a → h j ≡ g j = λ j below other. elim (cases_eq j b) [
      | inl here ↦ ap h here ∙ at_b ∙ ap g (sym here)
      | inr elsewhere ↦ not_b j elsewhere ∙ same j below other elsewhere
    ] in
    let second = sum-one h g a n a_within between in
    omega arith

-- ---- the bonds of one direction

-- the bond from site j in direction d is unsatisfied
abbrev is_bad : ℕ → Bonds → List Bool → ℕ → ℕ → Bool
is_bad l bonds spins d j = not (agree (coupled (bonds (bond j d)) (spin spins (forward l j d))) (spin spins j))

-- how many are, in a direction
abbrev bad : ℕ → Bonds → List Bool → ℕ → ℕ
bad l bonds spins d = sum_below (λ j. one_if (is_bad l bonds spins d j)) (volume l)

unsatisfied-bad : (l : ℕ) (bonds : Bonds) (spins : List Bool) → unsatisfied l bonds spins ≡ bad l bonds spins 0 + bad l bonds spins 1 + bad l bonds spins 2
unsatisfied-bad l bonds spins =
    let v = volume l in
    let h = λ (n : ℕ). one_if (is_unsatisfied l bonds spins n) in
    let at : ℕ → ℕ → ℕ → Bool = λ n j d. not (agree (coupled (bonds n) (spin spins (forward l j d))) (spin spins j)) in
    let counted = count-sum (is_unsatisfied l bonds spins) (bond_count l) in
    let thirds = sum-thirds h v in
    let x : sum_below (λ j. h (3 * j)) v ≡ bad l bonds spins 0 = sum-same _ _ v (λ j below.
    let s : 3 * j / 3 ≡ j = omega arith in let d : 3 * j % 3 ≡ 0 = omega arith in let n : 3 * j ≡ 3 * j + 0 = omega arith in
    ap (λ k. one_if (at (3 * j) k (3 * j % 3))) s ∙ ap (λ k. one_if (at (3 * j) j k)) d ∙ ap (λ k. one_if (at k j 0)) n) in
    let y : sum_below (λ j. h (suc (3 * j))) v ≡ bad l bonds spins 1 = sum-same _ _ v (λ j below.
    let s : suc (3 * j) / 3 ≡ j = omega arith in let d : suc (3 * j) % 3 ≡ 1 = omega arith in let n : suc (3 * j) ≡ 3 * j + 1 = omega arith in
    ap (λ k. one_if (at (suc (3 * j)) k (suc (3 * j) % 3))) s ∙ ap (λ k. one_if (at (suc (3 * j)) j k)) d ∙ ap (λ k. one_if (at k j 1)) n) in
    let z : sum_below (λ j. h (suc (suc (3 * j)))) v ≡ bad l bonds spins 2 = sum-same _ _ v (λ j below.
    let s : suc (suc (3 * j)) / 3 ≡ j = omega arith in let d : suc (suc (3 * j)) % 3 ≡ 2 = omega arith in let n : suc (suc (3 * j)) ≡ 3 * j + 2 = omega arith in
    ap (λ k. one_if (at (suc (suc (3 * j))) k (suc (suc (3 * j)) % 3))) s ∙ ap (λ k. one_if (at (suc (suc (3 * j))) j k)) d ∙ ap (λ k. one_if (at k j 2)) n) in
    omega arith

-- a turned spin turns the bond, at either end of it
own-end : (j x y : Bool) → one_if (not (agree (coupled j x) (not y))) + one_if (not (agree (coupled j x) y)) ≡ 1
own-end true true true = refl
own-end true true false = refl
own-end true false true = refl
own-end true false false = refl
own-end false true true = refl
own-end false true false = refl
own-end false false true = refl
own-end false false false = refl

far-end : (j x y : Bool) → one_if (not (agree (coupled j (not x)) y)) + one_if (not (agree (coupled j x) y)) ≡ 1
far-end true true true = refl
far-end true true false = refl
far-end true false true = refl
far-end true false false = refl
far-end false true true = refl
far-end false true false = refl
far-end false false true = refl
far-end false false false = refl

-- a bond is satisfied or not, whichever of its ends is asked
whole : (b : Bool) → one_if (not b) + one_if b ≡ 1
whole true = refl
whole false = refl

either-end : (j x y : Bool) → one_if (not (agree (coupled j x) y)) + one_if (agree (coupled j y) x) ≡ 1
either-end true true true = refl
either-end true true false = refl
either-end true false true = refl
either-end true false false = refl
either-end false true true = refl
either-end false true false = refl
either-end false false true = refl
either-end false false false = refl

-- of the two bonds of a site in a direction, how many are satisfied
abbrev good : ℕ → Bonds → List Bool → ℕ → ℕ → ℕ
good l bonds spins i d = one_if (agree (pull bonds spins (ahead l i d)) (spin spins i)) + one_if (agree (pull bonds spins (behind l i d)) (spin spins i))

bad-turned : (l : ℕ) (bonds : Bonds) (spins : List Bool) (i d : ℕ) → IsLawfulSize l → length spins ≡ volume l → i < volume l
    → ArePermutation (λ j. forward l j d) (λ j. backward l j d) (volume l)
    → bad l bonds (turned spins i) d + 2 ≡ bad l bonds spins d + 2 * good l bonds spins i d
bad-turned l bonds spins i d lawful sized within p =
    let b = backward l i d in
    let t = turned spins i in
    let round : forward l b d ≡ i = p.redone i within in
    let here : spin t i ≡ not (spin spins i) = spin-turned spins i (omega arith) in
    let next_to : spin t (forward l i d) ≡ spin spins (forward l i d) = spin-kept spins i _ (forward-other l i d lawful within) in
    let back : spin t b ≡ spin spins b = spin-kept spins i _ (backward-other l i d lawful within) in
    let apart : i ≢ b = λ same. backward-other l i d lawful within (sym same) in
    let others : (j : ℕ) → j < volume l → j ≢ i → j ≢ b → one_if (is_bad l bonds t d j) ≡ one_if (is_bad l bonds spins d j) =
    λ j below not_i not_b.
    let end : spin t j ≡ spin spins j = spin-kept spins i j not_i in
    let far : spin t (forward l j d) ≡ spin spins (forward l j d) = spin-kept spins i _ (λ reaches. not_b (sym (p.undone j below) ∙ ap (λ k. backward l k d) reaches)) in
    rw (end, far) refl in
    let two = sum-two (λ j. one_if (is_bad l bonds t d j)) (λ j. one_if (is_bad l bonds spins d j)) i b (volume l) within (p.back i within) apart others in
    let at_i : one_if (is_bad l bonds t d i) + one_if (is_bad l bonds spins d i) ≡ 1 = rw (here, next_to) (own-end (bonds (bond i d)) (spin spins (forward l i d)) (spin spins i)) in
    let at_b : one_if (is_bad l bonds t d b) + one_if (is_bad l bonds spins d b) ≡ 1 = rw (back, round, here) (far-end (bonds (bond b d)) (spin spins i) (spin spins b)) in
    let i_good : one_if (is_bad l bonds spins d i) + one_if (agree (pull bonds spins (ahead l i d)) (spin spins i)) ≡ 1 = whole (agree (coupled (bonds (bond i d)) (spin spins (forward l i d))) (spin spins i)) in
    let b_good : one_if (is_bad l bonds spins d b) + one_if (agree (pull bonds spins (behind l i d)) (spin spins i)) ≡ 1 = rw round (either-end (bonds (bond b d)) (spin spins i) (spin spins b)) in
    omega arith

satisfied-good : (l : ℕ) (bonds : Bonds) (spins : List Bool) (i : ℕ) → satisfied l bonds spins i ≡ good l bonds spins i 0 + good l bonds spins i 1 + good l bonds spins i 2
unfolding satisfied
satisfied-good l bonds spins i = omega arith

-- ---- the whole lattice

pub unsatisfied-turned : (l : ℕ) (bonds : Bonds) (spins : List Bool) (i : ℕ) → IsLawfulSize l → length spins ≡ volume l → i < volume l
    → unsatisfied l bonds (turned spins i) + 6 ≡ unsatisfied l bonds spins + 2 * satisfied l bonds spins i
unsatisfied-turned l bonds spins i lawful sized within =
    let some : 0 < l = omega arith in
    let x = bad-turned l bonds spins i 0 lawful sized within (shift-x l some) in
    let y = bad-turned l bonds spins i 1 lawful sized within (shift-y l some) in
    let z = bad-turned l bonds spins i 2 lawful sized within (shift-z l some) in
    let before = unsatisfied-bad l bonds spins in
    let after = unsatisfied-bad l bonds (turned spins i) in
    let counted = satisfied-good l bonds spins i in
    omega arith

pub energy-turned : (l : ℕ) (bonds : Bonds) (spins : List Bool) (i : ℕ) → IsLawfulSize l → length spins ≡ volume l → i < volume l
    → energy l bonds (turned spins i) ≡ energy l bonds spins +ℤ (pos (4 * satisfied l bonds spins i) -ℤ pos 12)
energy-turned l bonds spins i lawful sized within = let change = unsatisfied-turned l bonds spins i lawful sized within in omega (arith, ints)
