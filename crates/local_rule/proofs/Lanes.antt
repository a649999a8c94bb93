-- Operations on n words, lane by lane.
use Rattle.std.proofs.Common.{◌≡◌, ℕ, ◌-◌, ◌^◌, ◌<◌, ◌&&◌, ◌||◌, int_lt, pos, ℤ, to_z, of_z, Bool, true, false, cond, if◌then◌else◌, List, length, map, get_or, replicate, refl, sym, ap, ◌∙◌, arith, bit_xor, bit_and, bit_or, w64}
use mir.Val.{SFits}
use Rattle.std.proofs.lemmas.Int.{to_z_pos, to_z-of_z}
use Rattle.std.proofs.lemmas.List.{length-map, get_or-map}
use lib.Lanes.{zip2, sel_l, top}
use Rattle.std.proofs.lemmas.Simd.{tops_compared, length-zip2, length-sel_l, get_or-sel_l, get_or-zip2, length-replicate, get_or-replicate}
use Rattle.multispin_word.specs.Planes.{differs, is_set}
use Rattle.multispin_word.proofs.Bits.{is_set-and, is_set-or, is_set-xor, is_set-ones, is_set-zero, is_set-choose}

-- n words of ones, and of zeros
abbrev pub all : ℕ → List ℕ
all n = replicate n (2 ^ 64 - 1)

abbrev pub none : ℕ → List ℕ
none n = replicate n 0

pub all-long : (n : ℕ) → length (all n) ≡ n
all-long n = length-replicate {A = ℕ} n (2 ^ 64 - 1)

-- an operation on two vectors has as many lanes
pub long : {n : ℕ} (f : ℕ → ℕ → ℕ) (a b : List ℕ) → length a ≡ n → length b ≡ n → length (zip2 f a b) ≡ n
long f a b p q = length-zip2 f a b (p ∙ sym q) ∙ p

-- and in each lane it is the operation on that lane
pub at : {n : ℕ} (f : ℕ → ℕ → ℕ) (a b : List ℕ) (i : ℕ) → length a ≡ n → length b ≡ n → i < n
    → get_or (zip2 f a b) i 0 ≡ f (get_or a i 0) (get_or b i 0)
at f a b i p q h = get_or-zip2 f a b i 0 0 0 (omega arith) (omega arith)

-- the low bit of the sum of three
pub summed-long : {n : ℕ} (a b c : List ℕ) → length a ≡ n → length b ≡ n → length c ≡ n
    → length (zip2 bit_xor (zip2 bit_xor a b) c) ≡ n
summed-long a b c p q r = long bit_xor (zip2 bit_xor a b) c (long bit_xor a b p q) r

pub summed-at : {n : ℕ} (a b c : List ℕ) (i k : ℕ) → length a ≡ n → length b ≡ n → length c ≡ n → i < n
    → is_set (get_or (zip2 bit_xor (zip2 bit_xor a b) c) i 0) k
    ≡ differs (differs (is_set (get_or a i 0) k) (is_set (get_or b i 0) k)) (is_set (get_or c i 0) k)
summed-at a b c i k p q r h =
    let either = long bit_xor a b p q in
    rw (at bit_xor (zip2 bit_xor a b) c i either r h, at bit_xor a b i p q h, is_set-xor (bit_xor (get_or a i 0) (get_or b i 0)) (get_or c i 0) k, is_set-xor (get_or a i 0) (get_or b i 0) k)
    refl

-- and the high bit
abbrev pub carried : List ℕ → List ℕ → List ℕ → List ℕ
carried a b c = zip2 bit_or (zip2 bit_and a b) (zip2 bit_and (zip2 bit_xor a b) c)

pub carried-long : {n : ℕ} (a b c : List ℕ) → length a ≡ n → length b ≡ n → length c ≡ n → length (carried a b c) ≡ n
carried-long a b c p q r =
    let either = long bit_xor a b p q in
    let both = long bit_and a b p q in
    long bit_or (zip2 bit_and a b) (zip2 bit_and (zip2 bit_xor a b) c) both (long bit_and (zip2 bit_xor a b) c either r)

carried-word : (a b c k : ℕ)
    → is_set (bit_or (bit_and a b) (bit_and (bit_xor a b) c)) k
    ≡ (is_set a k && is_set b k || differs (is_set a k) (is_set b k) && is_set c k)
carried-word a b c k =
    rw (is_set-or (bit_and a b) (bit_and (bit_xor a b) c) k, is_set-and a b k, is_set-and (bit_xor a b) c k, is_set-xor a b k)
    refl

pub carried-at : {n : ℕ} (a b c : List ℕ) (i k : ℕ) → length a ≡ n → length b ≡ n → length c ≡ n → i < n
    → is_set (get_or (carried a b c) i 0) k
    ≡ (is_set (get_or a i 0) k && is_set (get_or b i 0) k || differs (is_set (get_or a i 0) k) (is_set (get_or b i 0) k) && is_set (get_or c i 0) k)
carried-at a b c i k p q r h =
    let either = long bit_xor a b p q in
    let both = long bit_and a b p q in
    let rest = long bit_and (zip2 bit_xor a b) c either r in
    rw (at bit_or (zip2 bit_and a b) (zip2 bit_and (zip2 bit_xor a b) c) i both rest h, at bit_and a b i p q h, at bit_and (zip2 bit_xor a b) c i either r h, at bit_xor a b i p q h)
    (carried-word (get_or a i 0) (get_or b i 0) (get_or c i 0) k)

-- x in the mask m and y outside it
abbrev pub chosen : List ℕ → List ℕ → List ℕ → List ℕ
chosen m x y = zip2 bit_xor y (zip2 bit_and m (zip2 bit_xor x y))

pub chosen-long : {n : ℕ} (m x y : List ℕ) → length m ≡ n → length x ≡ n → length y ≡ n → length (chosen m x y) ≡ n
chosen-long m x y p q r =
    long bit_xor y (zip2 bit_and m (zip2 bit_xor x y)) r (long bit_and m (zip2 bit_xor x y) p (long bit_xor x y q r))

pub chosen-at : {n : ℕ} (m x y : List ℕ) (i k : ℕ) → length m ≡ n → length x ≡ n → length y ≡ n → i < n
    → is_set (get_or (chosen m x y) i 0) k
    ≡ (if is_set (get_or m i 0) k then is_set (get_or x i 0) k else is_set (get_or y i 0) k)
chosen-at m x y i k p q r h =
    let differ = long bit_xor x y q r in
    let masked = long bit_and m (zip2 bit_xor x y) p differ in
    rw (at bit_xor y (zip2 bit_and m (zip2 bit_xor x y)) i r masked h, at bit_and m (zip2 bit_xor x y) i p differ h, at bit_xor x y i q r h)
    (is_set-choose (get_or m i 0) (get_or x i 0) (get_or y i 0) k)

-- ones where the test of a draw and y holds, and zeros elsewhere
abbrev pub tested : (ℕ → ℕ → Bool) → ℕ → List ℕ → ℕ → List ℕ
tested t n d y =
    sel_l (map (top 63) (zip2 (λ a b. cond (t a b) (2 ^ 64 - 1) 0) (map (λ a. a) d) (replicate n y))) (all n) (none n)

wide-long : (n : ℕ) (d : List ℕ) → length d ≡ n → length (map (λ (a : ℕ). a) d) ≡ n
wide-long n d p = length-map d (λ (a : ℕ). a) ∙ p

tests-long : (t : ℕ → ℕ → Bool) (n : ℕ) (d : List ℕ) (y : ℕ) → length d ≡ n → length (zip2 t (map (λ (a : ℕ). a) d) (replicate n y)) ≡ n
tests-long t n d y p =
    let e = wide-long n d p in
    length-zip2 t (map (λ (a : ℕ). a) d) (replicate n y) (e ∙ sym (length-replicate {A = ℕ} n y)) ∙ e

pub tested-long : (t : ℕ → ℕ → Bool) (n : ℕ) (d : List ℕ) (y : ℕ) → length d ≡ n → length (tested t n d y) ≡ n
tested-long t n d y p =
    let ys : List ℕ = replicate n y in
    let ds : List ℕ = map (λ (a : ℕ). a) d in
    let e = tests-long t n d y p in
    ap (λ ms. length (sel_l ms (all n) (none n))) (tops_compared w64 t ds ys)
    ∙ length-sel_l (zip2 t ds ys) (all n) (none n) (e ∙ sym (all-long n)) (e ∙ sym (length-replicate {A = ℕ} n 0)) ∙ e

ones-if : (t : Bool) (k : ℕ) → k < 64 → is_set (cond t (2 ^ 64 - 1) 0) k ≡ t
ones-if true k h = is_set-ones k h
ones-if false k h = is_set-zero k

pub tested-at : (t : ℕ → ℕ → Bool) (n : ℕ) (d : List ℕ) (y i k : ℕ) → length d ≡ n → i < n → k < 64
    → is_set (get_or (tested t n d y) i 0) k ≡ t (get_or d i 0) y
tested-at t n d y i k p h l =
    let ys : List ℕ = replicate n y in
    let ds : List ℕ = map (λ (a : ℕ). a) d in
    let e = tests-long t n d y p in
    let same : get_or ds i 0 ≡ get_or d i 0 = get_or-map (λ (a : ℕ). a) d i 0 0 (omega arith) in
    let test : get_or (zip2 t ds ys) i false ≡ t (get_or ds i 0) y = get_or-zip2 t ds ys i 0 0 false (omega (arith, wide-long n d p)) (omega (arith, length-replicate {A = ℕ} n y)) ∙ ap (t (get_or ds i 0)) (get_or-replicate {A = ℕ} n i y 0 h) in
    let on : get_or (all n) i 0 ≡ 2 ^ 64 - 1 = get_or-replicate {A = ℕ} n i (2 ^ 64 - 1) 0 h in
    let off : get_or (none n) i 0 ≡ 0 = get_or-replicate {A = ℕ} n i 0 0 h in
    ap (λ ms. is_set (get_or (sel_l ms (all n) (none n)) i 0) k) (tops_compared w64 t ds ys)
    ∙ ap (λ x. is_set x k) (get_or-sel_l (zip2 t ds ys) (all n) (none n) i 0 (omega arith) (omega (arith, all-long n)) (omega (arith, length-replicate {A = ℕ} n 0)))
    ∙ rw (test, on, off) (ones-if (t (get_or ds i 0) y) k l)
    ∙ ap (λ a. t a y) same

-- comparison of two words as numbers with a sign
abbrev pub below : ℕ → ℕ → Bool
below a b = int_lt (to_z w64 a) (to_z w64 b)

-- a number below 2 ^ 32 is that number with a sign
below-signed : (a : ℕ) (z : ℤ) → a < 2 ^ 32 → SFits w64 z → below a (of_z w64 z) ≡ int_lt (pos a) z
below-signed a z h f = rw (to_z_pos w64 a (omega arith), to_z-of_z w64 z f) refl

pub below-at : (n : ℕ) (d : List ℕ) (z : ℤ) (i k : ℕ) → length d ≡ n → SFits w64 z → i < n → k < 64 → get_or d i 0 < 2 ^ 32
    → is_set (get_or (tested below n d (of_z w64 z)) i 0) k ≡ int_lt (pos (get_or d i 0)) z
below-at n d z i k p f h l few = tested-at below n d (of_z w64 z) i k p h l ∙ below-signed (get_or d i 0) z few f
