-- The sums of a bin: none at first, and none too great after an epoch more.
use Rattle.std.proofs.Common.{inl, inr, ◌≡◌, ℕ, zero, suc, ◌+◌, ◌*◌, ◌^◌, ◌<◌, ◌≤◌, Bool, nat_le, add-one, sym, List, [], ◌∷◌, length, ℤ, pos, nat_abs, ◌+ℤ◌, ◌*ℤ◌, get_or, set, replicate, refl, ap, ◌∙◌, arith}
use Rattle.std.proofs.lemmas.Bool.{cases_lt}
use Rattle.std.proofs.lemmas.List.{get_or-set_same, get_or-set_other, get_or-replicate, get_or_past, length-replicate}
use Rattle.std.proofs.lemmas.Nat.{mul-le}
use Rattle.std.proofs.Math.Nat.{pow-suc}
use Rattle.spin_model.specs.Words.{one_if}
use Rattle.spin_model.specs.Steps.{count_below}
use Rattle.spin_model.proofs.Tables.{count_below-more}
use Rattle.measured_sums.specs.MeasuredSums.{Quantity, Number, Energies, EnergySquares, EnergyProducts, Links, LinkSquares, Overlaps, Magnitudes, OverlapSquares, OverlapFourths, EnergyOverlapSquares, EnergyOverlapFourths, InClass, Axes, Faces, square}
use Rattle.measured_sums.proofs.BoundedSums.{abs-product, abs-sum}
use Rattle.plane_sums.specs.declared.epoch_bins.BinSums.{BinSums}
use Rattle.plane_sums.specs.declared.measured.Measured.{Measured}
use Rattle.plane_sums.specs.Bins.{moment_in, most_moment, sum_in}
use Rattle.plane_sums.specs.Correlations.{signed_at}
use Rattle.plane_sums.specs.Measured.{moment_terms, terms_of, AreSmall}
use Rattle.plane_sums.proofs.Powers.{square_few, fourth_few}

-- rows of one number
one-value : {A : Type 0} → (n i : ℕ) (z : A) → get_or (replicate n z) i z ≡ z
one-value {A} n i z = elim (cases_lt i n) [
  | inl below ↦ get_or-replicate {A = A} n i z z below
  | inr past ↦
      let long : length (replicate {A = A} n z) ≡ n = length-replicate {A = A} n z in
      get_or_past (replicate {A = A} n z) i z (omega (arith, long))
]

pub one-value-rows : {A : Type 0} → (n m i k : ℕ) (z : A) → get_or (get_or (replicate n (replicate m z)) i []) k z ≡ z
one-value-rows {A} n m i k z = elim (cases_lt i n) [
  | inl below ↦ ap (λ row. get_or row k z) (get_or-replicate {A = List A} n i (replicate m z) [] below) ∙ one-value {A = A} m k z
  | inr past ↦
      let long : length (replicate {A = List A} n (replicate m z)) ≡ n = length-replicate {A = List A} n (replicate m z) in
      ap (λ row. get_or row k z) (get_or_past (replicate {A = List A} n (replicate m z)) i [] (omega (arith, long)))
]

-- numbers that are 0 are sums that are 0
pub no-sums : (s : BinSums) → s.epochs ≡ 0 → ((b k : ℕ) → moment_in s b k ≡ pos 0) → ((b c : ℕ) → get_or (get_or s.classes b []) c 0 ≡ 0)
    → ((r b : ℕ) → signed_at (get_or s.axis r []) b ≡ pos 0) → ((r b : ℕ) → signed_at (get_or s.face r []) b ≡ pos 0)
    → (b : ℕ) (quantity : Quantity) → sum_in s b quantity ≡ pos 0
no-sums s none moments classes axis face b Number = ap pos none
no-sums s none moments classes axis face b Energies = moments b 0
no-sums s none moments classes axis face b EnergySquares = moments b 1
no-sums s none moments classes axis face b EnergyProducts = moments b 2
no-sums s none moments classes axis face b Links = moments b 3
no-sums s none moments classes axis face b LinkSquares = moments b 4
no-sums s none moments classes axis face b Overlaps = moments b 5
no-sums s none moments classes axis face b Magnitudes = moments b 6
no-sums s none moments classes axis face b OverlapSquares = moments b 7
no-sums s none moments classes axis face b OverlapFourths = moments b 8
no-sums s none moments classes axis face b EnergyOverlapSquares = moments b 9
no-sums s none moments classes axis face b EnergyOverlapFourths = moments b 10
no-sums s none moments classes axis face b (InClass c) = ap pos (classes b c)
no-sums s none moments classes axis face b (Axes r) = axis r b
no-sums s none moments classes axis face b (Faces r) = face r b

-- a row more is written
pub rows-more : (now : List (List ℤ)) (at : ℕ) (row : List ℤ) (value : ℕ → ℕ → ℤ) (n : ℕ) → at < length now
    → ((b k : ℕ) → b < at → k < n → signed_at (get_or now b []) k ≡ value b k) → ((k : ℕ) → k < n → signed_at row k ≡ value at k)
    → (b k : ℕ) → b < at + 1 → k < n → signed_at (get_or (set now at row) b []) k ≡ value b k
rows-more now at row value n within before own b k below few = elim (cases_lt b at) [
  | inl less ↦ ap (λ (xs : List ℤ). signed_at xs k) (get_or-set_other now at b row [] (λ e. omega (arith, e, less))) ∙ before b k less few
  | inr not ↦
      let here : b ≡ at = omega arith in
      rw here (ap (λ (xs : List ℤ). signed_at xs k) (get_or-set_same now at row [] within) ∙ own k few)
]

-- ---- bounds

next-small : (x : ℤ) (xs : List ℤ) (m : ℕ) → nat_abs x ≤ m → ((k : ℕ) → nat_abs (signed_at xs k) ≤ m) → (k : ℕ) → nat_abs (signed_at (x ∷ xs) k) ≤ m
next-small x xs m here later zero = here
next-small x xs m here later (suc k) = later k

none-small : (m k : ℕ) → nat_abs (signed_at [] k) ≤ m
none-small m k = omega arith

product-most : (x y : ℤ) (m n : ℕ) → nat_abs x ≤ m → nat_abs y ≤ n → nat_abs (x *ℤ y) ≤ m * n
product-most x y m n first second = rw (abs-product x y) (mul-le (nat_abs x) (nat_abs y) m n first second)

terms-small : (e f a q : ℤ) → nat_abs e ≤ 786432 → nat_abs f ≤ 786432 → nat_abs a ≤ 786432 → nat_abs q ≤ 262144
    → (k : ℕ) → nat_abs (signed_at (moment_terms e f a q) k) ≤ most_moment
terms-small e f a q first second links overlap =
    let m = most_moment in
    let both = abs-sum e f in
    let energies : nat_abs (e +ℤ f) ≤ 1572864 = omega (arith, both) in
    let ee = product-most e e 786432 786432 first first in
    let ff = product-most f f 786432 786432 second second in
    let squares = abs-sum (e *ℤ e) (f *ℤ f) in
    let ef = product-most e f 786432 786432 first second in
    let aa = product-most a a 786432 786432 links links in
    let two = square_few q overlap in
    let four = fourth_few (square q) two in
    let by-two = product-most (e +ℤ f) (square q) 1572864 68719476736 energies two in
    let by-four = product-most (e +ℤ f) (square (square q)) 1572864 4722366482869645213696 energies four in
    let h0 : nat_abs (e +ℤ f) ≤ m = omega (arith, energies) in
    let h1 : nat_abs (square e +ℤ square f) ≤ m = omega (arith, ee, ff, squares) in
    let h2 : nat_abs (e *ℤ f) ≤ m = omega (arith, ef) in
    let h3 : nat_abs a ≤ m = omega (arith, links) in
    let h4 : nat_abs (square a) ≤ m = omega (arith, aa) in
    let h5 : nat_abs q ≤ m = omega (arith, overlap) in
    let h6 : nat_abs (pos (nat_abs q)) ≤ m = omega (arith, overlap) in
    let h7 : nat_abs (square q) ≤ m = omega (arith, two) in
    let h8 : nat_abs (square (square q)) ≤ m = omega (arith, four) in
    let h9 : nat_abs ((e +ℤ f) *ℤ square q) ≤ m = omega (arith, by-two) in
    let h10 : nat_abs ((e +ℤ f) *ℤ square (square q)) ≤ m = omega (arith, by-four) in
    let t10 = next-small ((e +ℤ f) *ℤ square (square q)) [] m h10 (none-small m) in
    let from10 : List ℤ = ((e +ℤ f) *ℤ square (square q)) ∷ [] in
    let t9 = next-small ((e +ℤ f) *ℤ square q) from10 m h9 t10 in
    let from9 : List ℤ = ((e +ℤ f) *ℤ square q) ∷ from10 in
    let t8 = next-small (square (square q)) from9 m h8 t9 in
    let from8 : List ℤ = (square (square q)) ∷ from9 in
    let t7 = next-small (square q) from8 m h7 t8 in
    let from7 : List ℤ = (square q) ∷ from8 in
    let t6 = next-small (pos (nat_abs q)) from7 m h6 t7 in
    let from6 : List ℤ = (pos (nat_abs q)) ∷ from7 in
    let t5 = next-small q from6 m h5 t6 in
    let from5 : List ℤ = q ∷ from6 in
    let t4 = next-small (square a) from5 m h4 t5 in
    let from4 : List ℤ = (square a) ∷ from5 in
    let t3 = next-small a from4 m h3 t4 in
    let from3 : List ℤ = a ∷ from4 in
    let t2 = next-small (e *ℤ f) from3 m h2 t3 in
    let from2 : List ℤ = (e *ℤ f) ∷ from3 in
    let t1 = next-small (square e +ℤ square f) from2 m h1 t2 in
    let from1 : List ℤ = (square e +ℤ square f) ∷ from2 in
    next-small (e +ℤ f) from1 m h0 t1

pub sample-small : (seen : Measured) (b k : ℕ) → AreSmall seen → b < 64 → nat_abs (signed_at (terms_of seen b) k) ≤ most_moment
sample-small seen b k small h =
    terms-small (signed_at seen.first_energies b) (signed_at seen.second_energies b) (signed_at seen.field.links b) (signed_at seen.field.overlaps b)
    (small.first b h) (small.second b h) (small.links b h) (small.overlaps b h) k

-- a sum with a term more
pub grown : (old term : ℤ) (n g : ℕ) → nat_abs old ≤ n * g → nat_abs term ≤ g → nat_abs (old +ℤ term) ≤ (n + 1) * g
grown old term n g before less =
    let both = abs-sum old term in
    let more : (n + 1) * g ≡ n * g + g = omega arith in
    omega (arith, both, more)

pub kept : (old : ℤ) (n g : ℕ) → nat_abs old ≤ n * g → nat_abs old ≤ (n + 1) * g
kept old n g before = let more : (n + 1) * g ≡ n * g + g = omega arith in omega (arith, more)

-- ---- bins of epochs

pub no-digit : (test : ℕ → Bool) → 0 ≡ count_below test 0
unfolding count_below
no-digit test = refl

pub digit-more : (epoch k power bin one : ℕ) → power ≡ 2 ^ k → bin ≡ count_below (λ j. nat_le (2 ^ j) epoch) k → one ≡ one_if (nat_le power epoch)
    → bin + one ≡ count_below (λ j. nat_le (2 ^ j) epoch) (k + 1)
digit-more epoch k power bin one same counted is = rw (counted, is, same) (sym (count_below-more (λ j. nat_le (2 ^ j) epoch) k))

pub power-more : (k power : ℕ) → power ≡ 2 ^ k → power * 2 ≡ 2 ^ (k + 1)
power-more k power same = rw (same, add-one) (sym (pow-suc 2 k))
