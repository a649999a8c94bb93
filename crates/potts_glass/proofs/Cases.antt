-- Colours of two bits, and the thirteen gaps, on truth values.
use Rattle.std.proofs.Common.{◌≡◌, ℕ, zero, suc, ◌+◌, ◌*◌, ◌<◌, ◌==◌, ◌||◌, ◌&&◌, not, Bool, true, false, if◌then◌else◌, refl, arith}
use Rattle.multispin_word.specs.Planes.{one_if, differs}
use Rattle.potts_glass.specs.Potts as model

-- two colours are equal where neither bit differs
pub same-bits : (x y u v : Bool) → not (differs x u || differs y v) ≡ (one_if x + 2 * one_if y == one_if u + 2 * one_if v)
same-bits true true true true = refl
same-bits true true true false = refl
same-bits true true false true = refl
same-bits true true false false = refl
same-bits true false true true = refl
same-bits true false true false = refl
same-bits true false false true = refl
same-bits true false false false = refl
same-bits false true true true = refl
same-bits false true true false = refl
same-bits false true false true = refl
same-bits false true false false = refl
same-bits false false true true = refl
same-bits false false true false = refl
same-bits false false false true = refl
same-bits false false false false = refl

-- the colour that is 1, 2 or 3 on: p and q are the two bits of that number
pub advanced-bits : (x y p q : Bool) (step : ℕ) → 1 + step ≡ one_if p + 2 * one_if q → step < 3
    → one_if (differs x p) + 2 * one_if (differs y (differs q (x && p))) ≡ model.proposed (one_if x + 2 * one_if y) step
advanced-bits x y false false step e h = absurd (omega arith)
advanced-bits x y true false step e h = let s : step ≡ 0 = omega arith in rw s (one x y)
  where
    one : (x y : Bool) → one_if (differs x true) + 2 * one_if (differs y (differs false (x && true))) ≡ model.proposed (one_if x + 2 * one_if y) 0
    one true true = refl
    one true false = refl
    one false true = refl
    one false false = refl
advanced-bits x y false true step e h = let s : step ≡ 1 = omega arith in rw s (two x y)
  where
    two : (x y : Bool) → one_if (differs x false) + 2 * one_if (differs y (differs true (x && false))) ≡ model.proposed (one_if x + 2 * one_if y) 1
    two true true = refl
    two true false = refl
    two false true = refl
    two false false = refl
advanced-bits x y true true step e h = let s : step ≡ 2 = omega arith in rw s (three x y)
  where
    three : (x y : Bool) → one_if (differs x true) + 2 * one_if (differs y (differs true (x && true))) ≡ model.proposed (one_if x + 2 * one_if y) 2
    three true true = refl
    three true false = refl
    three false true = refl
    three false false = refl

-- one more than a step, in two bits
pub step-bits : (step : ℕ) → step < 3 → 1 + step ≡ one_if (not (step == 1)) + 2 * one_if (not (step == 0))
step-bits zero h = refl
step-bits (suc zero) h = refl
step-bits (suc (suc zero)) h = refl
step-bits (suc (suc (suc n))) h = absurd (omega arith)

-- the change to it is none to the same colour
pub moved-bits : (x p q : Bool) (step : ℕ) → 1 + step ≡ one_if p + 2 * one_if q → (p || differs q (x && p)) ≡ true
moved-bits x true q step e = refl
moved-bits true false true step e = refl
moved-bits false false true step e = refl
moved-bits x false false step e = absurd (omega arith)

-- a bit that differs from two bits in turn
pub differs-twice : (x y z : Bool) → differs x (differs y z) ≡ differs (differs x y) z
differs-twice true true z = not-twice z
  where
    not-twice : (z : Bool) → not (not z) ≡ z
    not-twice true = refl
    not-twice false = refl
differs-twice true false z = refl
differs-twice false y z = refl

-- a bit that is turned in a mask
pub turned-in : (x d m : Bool) → differs x (d && m) ≡ (if m then differs x d else x)
turned-in true true true = refl
turned-in true true false = refl
turned-in true false true = refl
turned-in true false false = refl
turned-in false true true = refl
turned-in false true false = refl
turned-in false false true = refl
turned-in false false false = refl

pub differs-true : (x : Bool) → differs x true ≡ not x
differs-true true = refl
differs-true false = refl
