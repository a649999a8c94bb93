-- Of thresholds in order the bits of draws below them lie within one another, so that a choice is two operations.
use Rattle.std.proofs.Common.{◌≡◌, ℕ, ◌+◌, ◌*◌, ◌-◌, ◌≤◌, ◌||◌, ◌&&◌, not, nat_le, nat_lt, Bool, true, false, if◌then◌else◌, List, slice_index, refl, sym, arith}
use Rattle.std.proofs.lemmas.Bool.{and_parts, leb-true, ltb-true, lt-ltb}
use Rattle.multispin_word.specs.Planes.{one_if, differs}
use Rattle.local_rule.specs.RowOrder.{is_rising, is_falling, raised, fallen}
use Rattle.local_rule.proofs.Cases.{differs-true, turn-if}

or-false : (b : Bool) → (b || false) ≡ b
or-false true = refl
or-false false = refl

-- the two choices of two operations
pub raise : (m a b : Bool) → (b || m && a) ≡ raised m a b
raise true a b = refl
raise false a b = or-false b

pub fall : (x y p q r : Bool) → (r || y && (q || differs x true && p)) ≡ fallen x y p q r
fall true true p q r = rw (or-false q) refl
fall false true p q r = refl
fall true false p q r = or-false r
fall false false p q r = or-false r

or-greater : (a b : Bool) → (a ≡ true → b ≡ true) → (a || b) ≡ b
or-greater true b h = sym (h refl)
or-greater false b h = refl

-- a draw below a threshold is below a higher one
up : (d u v : ℕ) → u ≤ v → (nat_lt d u || nat_lt d v) ≡ nat_lt d v
up d u v h = or-greater (nat_lt d u) (nat_lt d v) (λ e. lt-ltb d v (omega (arith, ltb-true d u e)))

-- seven thresholds that rise, and three that fall
pub record Rises (t : List ℕ) : Type 0 where
  pub one : slice_index t 0 ≤ slice_index t 1
  pub two : slice_index t 1 ≤ slice_index t 2
  pub three : slice_index t 2 ≤ slice_index t 3
  pub four : slice_index t 3 ≤ slice_index t 4
  pub five : slice_index t 4 ≤ slice_index t 5
  pub six : slice_index t 5 ≤ slice_index t 6

pub record Falls (t : List ℕ) : Type 0 where
  pub five : slice_index t 1 ≤ slice_index t 0
  pub six : slice_index t 2 ≤ slice_index t 1

pub rises : (t : List ℕ) → is_rising t ≡ true → Rises t
rises t e =
    let at : ℕ → ℕ = slice_index t in
    let le : ℕ → ℕ → Bool = λ i j. nat_le (slice_index t i) (slice_index t j) in
    let p5 = and_parts (le 0 1 && le 1 2 && le 2 3 && le 3 4 && le 4 5) (le 5 6) e in
    let p4 = and_parts (le 0 1 && le 1 2 && le 2 3 && le 3 4) (le 4 5) p5.0 in
    let p3 = and_parts (le 0 1 && le 1 2 && le 2 3) (le 3 4) p4.0 in
    let p2 = and_parts (le 0 1 && le 1 2) (le 2 3) p3.0 in
    let p1 = and_parts (le 0 1) (le 1 2) p2.0 in
    record {
      one = leb-true (at 0) (at 1) p1.0;
      two = leb-true (at 1) (at 2) p1.1;
      three = leb-true (at 2) (at 3) p2.1;
      four = leb-true (at 3) (at 4) p3.1;
      five = leb-true (at 4) (at 5) p4.1;
      six = leb-true (at 5) (at 6) p5.1;
    }

pub falls : (t : List ℕ) → is_falling t ≡ true → Falls t
falls t e =
    let at : ℕ → ℕ = slice_index t in
    let p = and_parts (nat_le (at 1) (at 0)) (nat_le (at 2) (at 1)) e in
    record {
      five = leb-true (at 1) (at 0) p.0;
      six = leb-true (at 2) (at 1) p.1;
    }

-- heat bath: one of seven cases, each raised from a lower one
pub seven-rising : (d : ℕ) (t : List ℕ) (x y z : Bool) (n : ℕ) → Rises t → n ≡ one_if x + 2 * one_if y + 4 * one_if z → n ≤ 6
    → raised z
    (raised y (nat_lt d (slice_index t 6)) (raised x (nat_lt d (slice_index t 5)) (nat_lt d (slice_index t 4))))
    (raised y (raised x (nat_lt d (slice_index t 3)) (nat_lt d (slice_index t 2))) (raised x (nat_lt d (slice_index t 1)) (nat_lt d (slice_index t 0))))
    ≡ nat_lt d (slice_index t n)
seven-rising d t false false false n o e h = rw e refl
seven-rising d t true false false n o e h = rw e (up d (slice_index t 0) (slice_index t 1) o.one)
seven-rising d t false true false n o e h =
    rw e (up d (slice_index t 0) (slice_index t 2) (omega (arith, o.one, o.two)))
seven-rising d t true true false n o e h =
    rw (e, up d (slice_index t 0) (slice_index t 1) o.one, up d (slice_index t 2) (slice_index t 3) o.three)
    (up d (slice_index t 1) (slice_index t 3) (omega (arith, o.two, o.three)))
seven-rising d t false false true n o e h =
    rw e (up d (slice_index t 0) (slice_index t 4) (omega (arith, o.one, o.two, o.three, o.four)))
seven-rising d t true false true n o e h =
    rw (e, up d (slice_index t 0) (slice_index t 1) o.one, up d (slice_index t 4) (slice_index t 5) o.five)
    (up d (slice_index t 1) (slice_index t 5) (omega (arith, o.two, o.three, o.four, o.five)))
seven-rising d t false true true n o e h =
    rw (e, up d (slice_index t 0) (slice_index t 2) (omega (arith, o.one, o.two)), up d (slice_index t 4) (slice_index t 6) (omega (arith, o.five, o.six)))
    (up d (slice_index t 2) (slice_index t 6) (omega (arith, o.three, o.four, o.five, o.six)))
seven-rising d t true true true n o e h = absurd (omega arith)

-- Metropolis by a count whose bits of 2 and 4 are turned over, as `turn`
pub turn-falling : (d : ℕ) (t : List ℕ) (x y z s : Bool) (n : ℕ) → Falls t → n ≡ one_if x + 2 * one_if (not y) + 4 * one_if (not z) → n ≤ 6
    → differs s (z || fallen x y (nat_lt d (slice_index t 0)) (nat_lt d (slice_index t 1)) (nat_lt d (slice_index t 2)))
    ≡ (if nat_le n 3 || nat_lt d (slice_index t (n - 4)) then not s else s)
turn-falling d t true true true s n o e h = rw e (differs-true s)
turn-falling d t true false true s n o e h = rw e (differs-true s)
turn-falling d t false true true s n o e h = rw e (differs-true s)
turn-falling d t false false true s n o e h = rw e (differs-true s)
turn-falling d t false true false s n o e h =
    rw (e, up d (slice_index t 1) (slice_index t 0) o.five, up d (slice_index t 2) (slice_index t 0) (omega (arith, o.five, o.six)))
    (turn-if s (nat_lt d (slice_index t 0)))
turn-falling d t true true false s n o e h =
    rw (e, up d (slice_index t 2) (slice_index t 1) o.six) (turn-if s (nat_lt d (slice_index t 1)))
turn-falling d t false false false s n o e h = rw e (turn-if s (nat_lt d (slice_index t 2)))
turn-falling d t true false false s n o e h = absurd (omega arith)
