-- Four words side by side: lane by lane, and written into a list.
use Rattle.std.proofs.Common.{◌≡◌, ℕ, ◌+◌, ◌-◌, ◌*◌, ◌%◌, ◌<◌, ◌≤◌, bit_xor, List, [], ◌++◌, length, take, drop, get_or, sym, ap, ◌∙◌, arith}
use Rattle.std.proofs.lemmas.List.{get_or-take, get_or-drop, get_or-map, length-append, length-take-le, length-drop}
use Rattle.std.proofs.lemmas.Nat.{mod-mul-add}
use Rattle.std.proofs.lemmas.Simd.{get_or-chunk}
use Rattle.std.proofs.lemmas.Slice.{take-put_mid_below, drop-put_mid, between-put_mid}
use Rattle.std.proofs.Math.Nat.{mod-eq_of_lt, mod_self}
use borrow.Rule.Slice.PartMut.{put_mid}
use lib.Lanes.{chunk}
use Rattle.local_rule.specs.SiteBits.{lane_words}
use Rattle.spin_model.proofs.Tables.{get_or-table}
use Rattle.spin_model.specs.Lattice.{next, previous}
use Rattle.spin_model.specs.Steps.{table}

-- a spin and a bond at equal places
pub pulled : (xs js : List ℕ) (a b m n : ℕ) → a ≡ m → b ≡ n → bit_xor (get_or xs a 0) (get_or js b 0) ≡ bit_xor (get_or xs m 0) (get_or js n 0)
pulled xs js a b m n p q = ap (λ t. bit_xor (get_or xs t 0) (get_or js b 0)) p ∙ ap (λ t. bit_xor (get_or xs m 0) (get_or js t 0)) q

-- one step on and one step back around a boundary of n places
pub next-inside : (n x : ℕ) → x + 1 < n → next n x ≡ x + 1
next-inside n x less = mod-eq_of_lt less

pub next-around : (n x : ℕ) → x + 1 ≡ n → next n x ≡ 0
next-around n x full = ap (λ m. m % n) full ∙ mod_self n

pub previous-inside : (n x : ℕ) → 0 < x → x ≤ n → previous n x ≡ x - 1
previous-inside n x some below =
    let place : x + n - 1 ≡ 1 * n + (x - 1) = omega arith in
    ap (λ m. m % n) place ∙ mod-mul-add 1 n (x - 1) (omega arith)

pub previous-around : (n : ℕ) → 0 < n → previous n 0 ≡ n - 1
previous-around n some =
    let place : 0 + n - 1 ≡ n - 1 = omega arith in
    ap (λ m. m % n) place ∙ mod-eq_of_lt (omega arith)

-- four words from place a of two lists behind each other
pub shuffled : (xs ys : List ℕ) (a i : ℕ) → i < 4 → get_or (table (λ k. get_or (xs ++ ys) (a + k) 0) 4) i 0 ≡ get_or (xs ++ ys) (a + i) 0
shuffled xs ys a i lane = get_or-table (λ k. get_or (xs ++ ys) (a + k) 0) 4 i 0 lane

-- n words of a list
pub chunk-at : (n : ℕ) (words : List ℕ) (a m i : ℕ) → m ≡ n → i < n → get_or (chunk 0 n (take m (drop a words))) i 0 ≡ get_or words (a + i) 0
chunk-at n words a m i sized lane =
    let place : 0 + i ≡ i = omega arith in
    get_or-chunk 0 n (take m (drop a words)) i 0 lane ∙ ap (λ j. get_or (take m (drop a words)) j 0) place ∙ get_or-take m (drop a words) i 0 (omega arith) ∙ get_or-drop a words i 0

-- a lane of several rows
pub lane-at : (rows : List (List ℕ)) (i n : ℕ) → n < length rows → get_or (lane_words rows i) n 0 ≡ get_or (get_or rows n []) i 0
lane-at rows i n below = get_or-map (λ words. get_or words i 0) rows n [] 0 below

-- a list with k of its items written over from place a on
module _ (a k : ℕ) (xs ys : List ℕ) where
  pub mid-below : (j : ℕ) → j < a → a ≤ length xs → get_or (put_mid a k xs ys) j 0 ≡ get_or xs j 0
  mid-below j low within = sym (get_or-take a (put_mid a k xs ys) j 0 low) ∙ ap (λ l. get_or l j 0) (take-put_mid_below a k xs ys a (omega arith) within) ∙ get_or-take a xs j 0 low

  pub mid-at : (i : ℕ) → i < k → a ≤ length xs → length ys ≡ k → get_or (put_mid a k xs ys) (a + i) 0 ≡ get_or ys i 0
  mid-at i lane within sized =
      let room : a + k - a ≡ k = omega arith in
      sym (get_or-drop a (put_mid a k xs ys) i 0) ∙ sym (get_or-take (a + k - a) (drop a (put_mid a k xs ys)) i 0 (omega arith)) ∙ ap (λ l. get_or l i 0) (between-put_mid a k xs ys (a + k) within (omega arith))

  pub mid-above : (j : ℕ) → a + k ≤ j → a ≤ length xs → length ys ≡ k → get_or (put_mid a k xs ys) j 0 ≡ get_or xs j 0
  mid-above j high within sized =
      let place : a + k + (j - (a + k)) ≡ j = omega arith in
      ap (λ n. get_or (put_mid a k xs ys) n 0) (sym place) ∙ sym (get_or-drop (a + k) (put_mid a k xs ys) (j - (a + k)) 0) ∙ ap (λ l. get_or l (j - (a + k)) 0) (drop-put_mid a k xs ys (a + k) (omega arith) within sized)
      ∙ get_or-drop (a + k) xs (j - (a + k)) 0 ∙ ap (λ n. get_or xs n 0) place

  pub mid-sized : a + k ≤ length xs → length ys ≡ k → length (put_mid a k xs ys) ≡ length xs
  mid-sized within sized = omega (arith, length-append (take a xs) (ys ++ drop k (drop a xs)), length-append ys (drop k (drop a xs)), length-take-le a xs (omega arith), length-drop k (drop a xs), length-drop a xs)
