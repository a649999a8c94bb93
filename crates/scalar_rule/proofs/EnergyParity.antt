-- All configurations of one disorder sample have the same parity of unsatisfied bonds: each spin stands in six bonds.
use Rattle.std.proofs.Common.{◌≡◌, ℕ, suc, ◌+◌, ◌*◌, ◌/◌, ◌%◌, ◌<◌, Bool, true, false, not, List, refl, ap, sym, ◌∙◌, arith}
use Rattle.spin_model.specs.Couplings.{Bonds}
use Rattle.spin_model.specs.Lattice.{volume, bond_count, forward, IsLawfulSize}
use Rattle.spin_model.specs.Words.{one_if}
use Rattle.scalar_rule.specs.Neighbours.{spin, coupled, agree}
use Rattle.scalar_rule.specs.Sums.{is_unsatisfied, unsatisfied}
use Rattle.scalar_rule.specs.Positions.{sum_below}
use Rattle.scalar_rule.proofs.Extremes.{sum-same}
use Rattle.scalar_rule.proofs.FiniteSums.{count-sum, sum-add, sum-permuted, sum-thirds, sum-even}
use Rattle.scalar_rule.proofs.Shifts.{shift-x, shift-y, shift-z}

-- of one bond: the unsatisfied one, the sign of J, and the two spins
bond-even : (j x y : Bool) → (one_if (not (agree (coupled j x) y)) + (one_if j + (one_if x + one_if y))) % 2 ≡ 0
bond-even true true true = refl
bond-even true true false = refl
bond-even true false true = refl
bond-even true false false = refl
bond-even false true true = refl
bond-even false true false = refl
bond-even false false true = refl
bond-even false false false = refl

-- the spins, over the sites
abbrev pub up : List Bool → ℕ → ℕ
up spins i = one_if (spin spins i)

ahead-sum : (l : ℕ) (spins : List Bool) → 0 < l → sum_below (λ n. up spins (forward l (n / 3) (n % 3))) (bond_count l) ≡ 3 * sum_below (up spins) (volume l)
ahead-sum l spins some =
    let h = λ (n : ℕ). up spins (forward l (n / 3) (n % 3)) in
    let v = volume l in
    let thirds = sum-thirds h v in
    let x : sum_below (λ i. h (3 * i)) v ≡ sum_below (up spins) v =
    sum-same _ (λ i. up spins (forward l i 0)) v (λ i below. let s : 3 * i / 3 ≡ i = omega arith in let d : 3 * i % 3 ≡ 0 = omega arith in ap (λ k. up spins (forward l k (3 * i % 3))) s ∙ ap (λ k. up spins (forward l i k)) d)
    ∙ sum-permuted (up spins) _ _ v (shift-x l some) in
    let y : sum_below (λ i. h (suc (3 * i))) v ≡ sum_below (up spins) v =
    sum-same _ (λ i. up spins (forward l i 1)) v (λ i below. let s : suc (3 * i) / 3 ≡ i = omega arith in let d : suc (3 * i) % 3 ≡ 1 = omega arith in ap (λ k. up spins (forward l k (suc (3 * i) % 3))) s ∙ ap (λ k. up spins (forward l i k)) d)
    ∙ sum-permuted (up spins) _ _ v (shift-y l some) in
    let z : sum_below (λ i. h (suc (suc (3 * i)))) v ≡ sum_below (up spins) v =
    sum-same _ (λ i. up spins (forward l i 2)) v (λ i below. let s : suc (suc (3 * i)) / 3 ≡ i = omega arith in let d : suc (suc (3 * i)) % 3 ≡ 2 = omega arith in ap (λ k. up spins (forward l k (suc (suc (3 * i)) % 3))) s ∙ ap (λ k. up spins (forward l i k)) d)
    ∙ sum-permuted (up spins) _ _ v (shift-z l some) in
    omega arith

own-sum : (l : ℕ) (spins : List Bool) → sum_below (λ n. up spins (n / 3)) (bond_count l) ≡ 3 * sum_below (up spins) (volume l)
own-sum l spins =
    let h = λ (n : ℕ). up spins (n / 3) in
    let v = volume l in
    let thirds = sum-thirds h v in
    let x : sum_below (λ i. h (3 * i)) v ≡ sum_below (up spins) v = sum-same _ _ v (λ i below. let s : 3 * i / 3 ≡ i = omega arith in ap (up spins) s) in
    let y : sum_below (λ i. h (suc (3 * i))) v ≡ sum_below (up spins) v = sum-same _ _ v (λ i below. let s : suc (3 * i) / 3 ≡ i = omega arith in ap (up spins) s) in
    let z : sum_below (λ i. h (suc (suc (3 * i)))) v ≡ sum_below (up spins) v = sum-same _ _ v (λ i below. let s : suc (suc (3 * i)) / 3 ≡ i = omega arith in ap (up spins) s) in
    omega arith

-- U has the parity of the number of bonds with J = -1
unsatisfied-parity : (l : ℕ) (bonds : Bonds) (spins : List Bool) → 0 < l → unsatisfied l bonds spins % 2 ≡ sum_below (λ n. one_if (bonds n)) (bond_count l) % 2
unsatisfied-parity l bonds spins some =
    let n = bond_count l in
    let u = λ (k : ℕ). one_if (is_unsatisfied l bonds spins k) in
    let j = λ (k : ℕ). one_if (bonds k) in
    let x = λ (k : ℕ). up spins (forward l (k / 3) (k % 3)) in
    let y = λ (k : ℕ). up spins (k / 3) in
    let counted = count-sum (is_unsatisfied l bonds spins) n in
    let even = sum-even (λ k. u k + (j k + (x k + y k))) n (λ k below. bond-even (bonds k) (spin spins (forward l (k / 3) (k % 3))) (spin spins (k / 3))) in
    let first = sum-add u (λ k. j k + (x k + y k)) n in
    let second = sum-add j (λ k. x k + y k) n in
    let third = sum-add x y n in
    let ahead = ahead-sum l spins some in
    let own = own-sum l spins in
    omega arith

pub unsatisfied-same : (l : ℕ) (bonds : Bonds) (s t : List Bool) → IsLawfulSize l → unsatisfied l bonds s % 2 ≡ unsatisfied l bonds t % 2
unsatisfied-same l bonds s t lawful = unsatisfied-parity l bonds s (omega arith) ∙ sym (unsatisfied-parity l bonds t (omega arith))
