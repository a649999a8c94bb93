-- Numbers as they are printed, and read again.
use Rattle.std.proofs.Common.{arith, ◌≡◌, ℕ, zero, suc, ◌+◌, ◌<◌, ◌≤◌, ◌^◌, ◌⊎◌, inl, inr, Bool, true, false, cond, not, ◌&&◌, ◌||◌, List, [], ◌∷◌, ◌++◌, length, take, drop, get_or, refl, sym, ap, subst, ◌∙◌, append_assoc, length-append}
use Rattle.std.specs.Prelude.{Some, None, nat_le, nat_lt, ◌==◌, slice_index, decimal}
use Rattle.std.specs.Char.{is_ascii_digit}
use Rattle.std.specs.List.{list_all, prefix_len}
use Rattle.std.proofs.lemmas.Bool.{le-leb, lt-ltb, eq-eqb, eqb-true, leb-true, ltb-true}
use Rattle.std.proofs.lemmas.Bool.Decides.{nat_tests}
use Rattle.std.proofs.lemmas.Fmt.{digits_decimal, digits_value-decimal, length-decimal-le, first_decimal, decimal_digit, decimal_nonempty, decimal-digits_value}
use Rattle.std.proofs.lemmas.List.{get_or_append_left, take_at, drop_at, get_or_at, get_or-take, length_push, take-append-drop, drop_more, length-take-le}
use Rattle.std.proofs.lemmas.Str.Parse.{digits_value_short}
use Rattle.glass_edges.specs.Decimal.{value_of}
use Rattle.glass_edges.proofs.Numerals.{numerals}
use Rattle.sample_average.specs.LineReading.{is_plain, digits_in, number_at}

-- what stands in front is what passes
passes-step : (p : ℕ → Bool) (x : ℕ) (xs : List ℕ) (b : Bool) → p x ≡ b → list_all p (take (prefix_len p xs) xs) ≡ true → list_all p (take (cond b (1 + prefix_len p xs) 0) (x ∷ xs)) ≡ true
passes-step p x xs true is rest = let e : 1 + prefix_len p xs ≡ suc (prefix_len p xs) = omega arith in rw (e, is) rest
passes-step p x xs false is rest = refl

pub passes-front : (p : ℕ → Bool) (xs : List ℕ) → list_all p (take (prefix_len p xs) xs) ≡ true
passes-front p [] = refl
passes-front p (x ∷ xs) = passes-step p x xs (p x) refl (passes-front p xs)

stops-step : (p : ℕ → Bool) (n m : ℕ) (b c : Bool) → (b && c) ≡ true → (c ≡ true → n ≡ m) → cond b (1 + n) 0 ≡ suc m
stops-step p n m true c all rest = let e : n ≡ m = rest all in omega (arith, e)
stops-step p n m false c all rest = absurd cc

-- it ends at the first that does not pass
pub prefix-stops : (p : ℕ → Bool) (xs : List ℕ) (y : ℕ) (ys : List ℕ) → list_all p xs ≡ true → p y ≡ false → prefix_len p (xs ++ y ∷ ys) ≡ length xs
prefix-stops p [] y ys all stop = rw stop refl
prefix-stops p (x ∷ xs) y ys all stop = stops-step p (prefix_len p (xs ++ y ∷ ys)) (length xs) (p x) (list_all p xs) all (λ rest. prefix-stops p xs y ys rest stop)

pub decimal-digits : (n : ℕ) → n < 2 ^ 64 → list_all is_ascii_digit (decimal n) ≡ true
decimal-digits n small = digits_decimal numerals n small

short-or-more : (n : ℕ) → n < 2 ^ 64 → (length (decimal n) ≡ 1) ⊎ (48 < get_or (decimal n) 0 0)
short-or-more zero small = inl (ap length (decimal_digit 0 (omega arith)))
short-or-more (suc n) small = inr (first_decimal (suc n) (omega arith) small)

plain-test : (count first : ℕ) → 1 ≤ count → count ≤ 10 → (count ≡ 1) ⊎ (48 < first) → (nat_le 1 count && nat_le count 10 && (count == 1 || not (first == 48))) ≡ true
plain-test count first some few (inl one) = grind (arith, nat_tests)
plain-test count first some few (inr more) = grind (arith, nat_tests)

plain-parts : (count first : ℕ) → (nat_le 1 count && nat_le count 10 && (count == 1 || not (first == 48))) ≡ true → (1 ≤ count) × (count ≤ 10) × (first ≡ 48 → count ≡ 1)
plain-parts count first test = (grind (arith, nat_tests), grind (arith, nat_tests), λ e. grind (arith, nat_tests))

pub plain-decimal : (n : ℕ) (rest : List ℕ) → n < 10 ^ 10 → is_plain (decimal n ++ rest) (length (decimal n)) ≡ true
plain-decimal n rest small =
    let big : n < 2 ^ 64 = omega arith in
    let some : 0 < length (decimal n) = decimal_nonempty n big in
    let first : get_or (decimal n ++ rest) 0 0 ≡ get_or (decimal n) 0 0 = get_or_append_left (decimal n) rest 0 0 some in
    plain-test (length (decimal n)) (get_or (decimal n ++ rest) 0 0) (omega (arith, some)) (length-decimal-le 10 n (omega arith) small big)
    (subst (λ (k : ℕ). (length (decimal n) ≡ 1) ⊎ (48 < k)) (sym first) (short-or-more n big))

all-four : {X : Type 0} (a b c d : Bool) (v w : X) → a ≡ true → b ≡ true → c ≡ true → d ≡ true → v ≡ w → cond (a && b && c && d) (Some v) None ≡ Some w
all-four a b c d v w p q r s e = rw (p, q, r, s, e) refl

four-parts : {X : Type 0} (a b c d : Bool) (v w : X) → cond (a && b && c && d) (Some v) None ≡ Some w → (a ≡ true) × (b ≡ true) × (c ≡ true) × (d ≡ true) × (v ≡ w)
four-parts true true true true v w is = (refl, refl, refl, refl, cc)
four-parts true true true false v w is = absurd cc
four-parts true true false d v w is = absurd cc
four-parts true false c d v w is = absurd cc
four-parts false b c d v w is = absurd cc

number-of-count : (most end count : ℕ) (bytes : List ℕ) → digits_in bytes ≡ count → number_at most end bytes
    ≡ cond (is_plain bytes count && nat_lt count (length bytes) && slice_index bytes count == end && nat_le (value_of (take count bytes)) most)
    (Some (value_of (take count bytes), drop (count + 1) bytes)) None
unfolding number_at
number-of-count most end count bytes e = ap (λ (k : ℕ). cond (is_plain bytes k && nat_lt k (length bytes) && slice_index bytes k == end && nat_le (value_of (take k bytes)) most)
    (Some (value_of (take k bytes), drop (k + 1) bytes)) None) e

pub number-again : (most end n : ℕ) (rest : List ℕ) → n ≤ most → n < 10 ^ 10 → is_ascii_digit end ≡ false → number_at most end (decimal n ++ end ∷ rest) ≡ Some (n, rest)
number-again most end n rest few small stop =
    let big : n < 2 ^ 64 = omega arith in
    let count = length (decimal n) in
    let front : take count (decimal n ++ end ∷ rest) ≡ decimal n = take_at (decimal n) (end ∷ rest) count refl in
    let value : value_of (take count (decimal n ++ end ∷ rest)) ≡ n = ap value_of front ∙ digits_value-decimal numerals n big in
    let long : count < length (decimal n ++ end ∷ rest) = omega (arith, length-append (decimal n) (end ∷ rest)) in
    let next : get_or (decimal n ++ end ∷ rest) count 0 ≡ end = get_or_at (decimal n) end rest 0 count refl in
    let behind : drop (count + 1) (decimal n ++ end ∷ rest) ≡ rest = ap (λ (xs : List ℕ). drop (count + 1) xs) (sym (append_assoc (decimal n) (end ∷ []) rest)) ∙ drop_at (decimal n ++ end ∷ []) rest (count + 1) (length_push (decimal n) end) in
    number-of-count most end count (decimal n ++ end ∷ rest) (prefix-stops is_ascii_digit (decimal n) end rest (decimal-digits n big) stop)
    ∙ all-four _ _ _ _ _ _ (plain-decimal n (end ∷ rest) small) (lt-ltb _ _ long) (eq-eqb _ _ next) (le-leb _ _ (rw value few))
    (ap (λ (k : ℕ). (k, drop (count + 1) (decimal n ++ end ∷ rest))) value ∙ ap (λ (xs : List ℕ). (n, xs)) behind)

pub number-takes : (most end : ℕ) (bytes : List ℕ) (x : ℕ × List ℕ) → number_at most end bytes ≡ Some x → (bytes ≡ decimal x.0 ++ end ∷ x.1) × (x.0 ≤ most)
number-takes most end bytes x is =
    let count = digits_in bytes in
    let digits = take count bytes in
    let p = four-parts (is_plain bytes count) (nat_lt count (length bytes)) (slice_index bytes count == end) (nat_le (value_of digits) most) (value_of digits, drop (count + 1) bytes) x (sym (number-of-count most end count bytes refl) ∙ is) in
    let plain = plain-parts count (get_or bytes 0 0) p.0 in
    let long : count < length bytes = ltb-true _ _ p.1 in
    let sized : length digits ≡ count = length-take-le count bytes (omega arith) in
    let all : list_all is_ascii_digit digits ≡ true = passes-front is_ascii_digit bytes in
    let small : value_of digits < 10 ^ 10 = digits_value_short numerals digits 10 all (omega (arith, sized)) in
    let first : get_or digits 0 0 ≡ get_or bytes 0 0 = get_or-take count bytes 0 0 (omega arith) in
    let printed : decimal (value_of digits) ≡ digits = decimal-digits_value numerals digits all (omega (arith, sized)) (λ e. sized ∙ plain.2 (sym first ∙ e)) (omega arith) in
    let cut : bytes ≡ digits ++ (get_or bytes count 0 ∷ drop (count + 1) bytes) = sym (take-append-drop count bytes) ∙ ap (λ (xs : List ℕ). digits ++ xs) (drop_more bytes count 0 long) in
    let read : bytes ≡ decimal (value_of digits) ++ end ∷ drop (count + 1) bytes =
    cut ∙ ap (λ (k : ℕ). digits ++ (k ∷ drop (count + 1) bytes)) (eqb-true _ _ p.2) ∙ ap (λ (xs : List ℕ). xs ++ end ∷ drop (count + 1) bytes) (sym printed) in
    (read ∙ ap (λ (y : ℕ × List ℕ). decimal y.0 ++ end ∷ y.1) p.4, rw (← p.4) (leb-true _ _ p.3))
