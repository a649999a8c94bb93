-- How many of six bits are set: as a number in three planes, and lane by lane.
use Rattle.std.proofs.Common.{◌≡◌, ℕ, ◌+◌, ◌-◌, ◌*◌, ◌^◌, ◌<◌, ◌≤◌, not, List, [], ◌∷◌, length, get_or, slice_index, slice_index_or, refl, sym, ap, ◌∙◌, arith}
use Rattle.std.specs.Prelude.{count_by}
use Rattle.std.proofs.lemmas.List.{length-map}
use Rattle.std.proofs.lemmas.List.Sums.{count_by-le-length}
use Rattle.std.proofs.lemmas.Nat.Bits.{bit_at-lt, same_from_bits_below}
use Rattle.multispin_word.specs.Planes.{differs, is_set, one_if, first, number}
use Rattle.multispin_word.proofs.Bits.{is_set-ones, one_if-is_set, same-bit}
use Rattle.bit_compare.specs.Counting.{count_of}
use Rattle.local_rule.specs.SiteBits.{equal_count, set_count, site_bits, lane_words}
use Rattle.local_rule.specs.TurnedCounts.{turned_number}
use Rattle.local_rule.proofs.Cases.{same-true}

-- the bits of six words, counted by their number
pub set_count-six : (six : List ℕ) (b : ℕ) → length six ≡ 6 → set_count six b ≡ count_of six b
set_count-six (u ∷ v ∷ w ∷ x ∷ y ∷ z ∷ []) b e =
    rw (one_if-is_set u b, one_if-is_set v b, one_if-is_set w b, one_if-is_set x b, one_if-is_set y b, one_if-is_set z b)
    (omega arith)
set_count-six [] b e = absurd (omega (arith, e))
set_count-six (u ∷ []) b e = absurd (omega (arith, e))
set_count-six (u ∷ v ∷ []) b e = absurd (omega (arith, e))
set_count-six (u ∷ v ∷ w ∷ []) b e = absurd (omega (arith, e))
set_count-six (u ∷ v ∷ w ∷ x ∷ []) b e = absurd (omega (arith, e))
set_count-six (u ∷ v ∷ w ∷ x ∷ y ∷ []) b e = absurd (omega (arith, e))
set_count-six (u ∷ v ∷ w ∷ x ∷ y ∷ z ∷ t ∷ ts) b e = absurd (omega (arith, e))

-- there are at most six
pub count_of-most : (six : List ℕ) (b : ℕ) → count_of six b ≤ 6
count_of-most six b =
    omega (arith, bit_at-lt (slice_index six 0) b, bit_at-lt (slice_index six 1) b, bit_at-lt (slice_index six 2) b, bit_at-lt (slice_index six 3) b, bit_at-lt (slice_index six 4) b, bit_at-lt (slice_index six 5) b)

pub set_count-most : (six : List ℕ) (b : ℕ) → length six ≡ 6 → set_count six b ≤ 6
set_count-most six b e = rw (set_count-six six b e) (count_of-most six b)

-- a number in three planes by its three bits
pub number-three : (ws : List ℕ) (b : ℕ) → length ws ≡ 3
    → number ws b
    ≡ one_if (is_set (get_or ws 0 0) b) + 2 * one_if (is_set (get_or ws 1 0) b) + 4 * one_if (is_set (get_or ws 2 0) b)
unfolding first
number-three ws b e =
    rw (one_if-is_set (get_or ws 0 0) b, one_if-is_set (get_or ws 1 0) b, one_if-is_set (get_or ws 2 0) b, e)
    (omega arith)

-- a lane of six rows has six words
pub lane-six : (rows : List (List ℕ)) (i : ℕ) → length rows ≡ 6 → length (lane_words rows i) ≡ 6
lane-six rows i e = rw length-map e

-- and these are the rows' words
pub lane-list : (rows : List (List ℕ)) (i : ℕ) → length rows ≡ 6
    → lane_words rows i
    ≡ slice_index (slice_index_or rows 0 []) i ∷ slice_index (slice_index_or rows 1 []) i
    ∷ slice_index (slice_index_or rows 2 []) i ∷ slice_index (slice_index_or rows 3 []) i
    ∷ slice_index (slice_index_or rows 4 []) i ∷ slice_index (slice_index_or rows 5 []) i ∷ []
lane-list (u ∷ v ∷ w ∷ x ∷ y ∷ z ∷ []) i e = refl
lane-list [] i e = absurd (omega (arith, e))
lane-list (u ∷ []) i e = absurd (omega (arith, e))
lane-list (u ∷ v ∷ []) i e = absurd (omega (arith, e))
lane-list (u ∷ v ∷ w ∷ []) i e = absurd (omega (arith, e))
lane-list (u ∷ v ∷ w ∷ x ∷ []) i e = absurd (omega (arith, e))
lane-list (u ∷ v ∷ w ∷ x ∷ y ∷ []) i e = absurd (omega (arith, e))
lane-list (u ∷ v ∷ w ∷ x ∷ y ∷ z ∷ t ∷ ts) i e = absurd (omega (arith, e))

-- so the bits of a lane are those of the rows' words
pub lane-set : (rows : List (List ℕ)) (i b : ℕ) → length rows ≡ 6
    → set_count (lane_words rows i) b
    ≡ one_if (is_set (slice_index (slice_index_or rows 0 []) i) b) + one_if (is_set (slice_index (slice_index_or rows 1 []) i) b) + one_if (is_set (slice_index (slice_index_or rows 2 []) i) b)
    + one_if (is_set (slice_index (slice_index_or rows 3 []) i) b) + one_if (is_set (slice_index (slice_index_or rows 4 []) i) b) + one_if (is_set (slice_index (slice_index_or rows 5 []) i) b)
lane-set rows i b e = rw (lane-list rows i e) (omega arith)

-- and so are those that are equal to another
pub lane-equal : (rows : List (List ℕ)) (i w b : ℕ) → length rows ≡ 6
    → equal_count (lane_words rows i) w b
    ≡ one_if (not (differs (is_set (slice_index (slice_index_or rows 0 []) i) b) (is_set w b))) + one_if (not (differs (is_set (slice_index (slice_index_or rows 1 []) i) b) (is_set w b)))
    + one_if (not (differs (is_set (slice_index (slice_index_or rows 2 []) i) b) (is_set w b))) + one_if (not (differs (is_set (slice_index (slice_index_or rows 3 []) i) b) (is_set w b)))
    + one_if (not (differs (is_set (slice_index (slice_index_or rows 4 []) i) b) (is_set w b))) + one_if (not (differs (is_set (slice_index (slice_index_or rows 5 []) i) b) (is_set w b)))
lane-equal rows i w b e = rw (lane-list rows i e) (omega arith)

-- there are at most six
pub equal-most : (rows : List (List ℕ)) (i w b : ℕ) → length rows ≡ 6 → equal_count (lane_words rows i) w b ≤ 6
equal-most rows i w b e =
    let most = count_by-le-length (λ bit. not (differs bit (is_set w b))) (site_bits (lane_words rows i) b) in
    let bits = length-map (lane_words rows i) (λ word. is_set word b) in
    omega (arith, most, bits, lane-six rows i e)

-- a lane's count in three rows by its three bits
pub lane-digits : (planes : List (List ℕ)) (i b n : ℕ) → length planes ≡ 3 → number (lane_words planes i) b ≡ n
    → n
    ≡ one_if (is_set (slice_index (slice_index_or planes 0 []) i) b) + 2 * one_if (is_set (slice_index (slice_index_or planes 1 []) i) b)
    + 4 * one_if (is_set (slice_index (slice_index_or planes 2 []) i) b)
lane-digits (x ∷ y ∷ z ∷ []) i b n e same = sym same ∙ number-three (slice_index x i ∷ slice_index y i ∷ slice_index z i ∷ []) b refl
lane-digits [] i b n e same = absurd (omega (arith, e))
lane-digits (x ∷ []) i b n e same = absurd (omega (arith, e))
lane-digits (x ∷ y ∷ []) i b n e same = absurd (omega (arith, e))
lane-digits (x ∷ y ∷ z ∷ t ∷ ts) i b n e same = absurd (omega (arith, e))

-- the same with the bits of 2 and 4 turned over
pub lane-turned : (planes : List (List ℕ)) (i b : ℕ) → length planes ≡ 3
    → turned_number (lane_words planes i) b
    ≡ one_if (is_set (slice_index (slice_index_or planes 0 []) i) b) + 2 * one_if (not (is_set (slice_index (slice_index_or planes 1 []) i) b))
    + 4 * one_if (not (is_set (slice_index (slice_index_or planes 2 []) i) b))
lane-turned (x ∷ y ∷ z ∷ []) i b e = refl
lane-turned [] i b e = absurd (omega (arith, e))
lane-turned (x ∷ []) i b e = absurd (omega (arith, e))
lane-turned (x ∷ y ∷ []) i b e = absurd (omega (arith, e))
lane-turned (x ∷ y ∷ z ∷ t ∷ ts) i b e = absurd (omega (arith, e))

-- those are equal to a set bit that are set
pub equal-ones : (six : List ℕ) (b : ℕ) → b < 64 → equal_count six (2 ^ 64 - 1) b ≡ set_count six b
equal-ones six b h =
    ap (λ o. count_by (λ bit. not (differs bit o)) (site_bits six b)) (is_set-ones b h)
    ∙ (λ i. count_by (λ bit. same-true bit i) (site_bits six b))

-- a word is known by its 64 bits
pub same-word : (v w : ℕ) → v < 2 ^ 64 → w < 2 ^ 64 → ((b : ℕ) → b < 64 → is_set v b ≡ is_set w b) → v ≡ w
same-word v w p q same = same_from_bits_below 64 v w p q (λ b h. same-bit v b w b (same b h))
