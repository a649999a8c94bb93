-- The unsatisfied bonds of the sites of a row, from words: site by site, and four sites side by side.
use Rattle.std.proofs.Common.{◌≡◌, ℕ, zero, suc, ◌+◌, ◌*◌, ◌<◌, ◌≤◌, Bool, true, false, List, [], ◌∷◌, length, get_or, bit_xor, refl, sym, ap, ◌∙◌, arith, add-one}
use Rattle.std.specs.Int.{bit_at}
use Rattle.std.proofs.lemmas.List.{length-map}
use Rattle.std.proofs.lemmas.List.Sums.{count_by-le-length}
use Rattle.spin_model.specs.Words.{one_if}
use Rattle.scalar_rule.specs.Positions.{sum_below}
use Rattle.multispin_word.specs.Planes.{differs, is_set}
use Rattle.multispin_word.proofs.Bits.{is_set-xor, one_if-is_set}
use Rattle.local_rule.specs.SiteBits.{lane_words, site_bits}
use Rattle.local_rule.proofs.Counts.{lane-list}
use Rattle.plane_sweep.specs.PlaneSweep.{pulls_lent}
use Rattle.plane_sweep.specs.declared.rows.Row.{Row}
use Rattle.plane_sweep.specs.declared.surroundings.Surroundings.{Surroundings}
use Rattle.bit_totals.specs.RowBonds.{against_count, four_count, row_count}
use Rattle.bit_totals.specs.Tallies.{set_lanes}
use Rattle.bit_totals.proofs.Tallying.{over_lanes, set_lanes-is}

pub row-none : (own : List ℕ) (s : Surroundings) (row : Row) (b : ℕ) → row_count own s row b 0 ≡ 0
unfolding row_count sum_below
row-none own s row b = refl

pub row-more : (own : List ℕ) (s : Surroundings) (row : Row) (b n : ℕ)
    → row_count own s row b (n + 1) ≡ row_count own s row b n + against_count (pulls_lent s row n) (get_or own (row.here + n) 0) b
unfolding row_count sum_below
row-more own s row b n = rw add-one refl

-- a site has six bonds
pub against-le : (six : List ℕ) (w b : ℕ) → length six ≡ 6 → against_count six w b ≤ 6
against-le six w b sized =
    let most = count_by-le-length (λ bit. differs bit (is_set w b)) (site_bits six b) in
    let bits = length-map six (λ word. is_set word b) in
    omega (arith, most, bits, sized)

pulls-six : (s : Surroundings) (row : Row) (k : ℕ) → length (pulls_lent s row k) ≡ 6
unfolding pulls_lent
pulls-six s row k = refl

pub row-le : (own : List ℕ) (s : Surroundings) (row : Row) (b n : ℕ) → row_count own s row b n ≤ 6 * n
row-le own s row b zero = omega (arith, row-none own s row b)
row-le own s row b (suc n) =
    let place : suc n ≡ n + 1 = omega arith in
    let more = row-more own s row b n in
    let before = row-le own s row b n in
    let site = against-le (pulls_lent s row n) (get_or own (row.here + n) 0) b (pulls-six s row n) in
    rw place (omega arith)

-- six words, and one that each is compared with
pub six-against : (six : List ℕ) (w b : ℕ) → length six ≡ 6
    → bit_at (bit_xor (get_or six 0 0) w) b + bit_at (bit_xor (get_or six 1 0) w) b + bit_at (bit_xor (get_or six 2 0) w) b
    + bit_at (bit_xor (get_or six 3 0) w) b + bit_at (bit_xor (get_or six 4 0) w) b + bit_at (bit_xor (get_or six 5 0) w) b
    ≡ against_count six w b
six-against (p ∷ q ∷ r ∷ s ∷ t ∷ u ∷ []) w b e =
    rw (
      ← is_set-xor p w b,
      ← is_set-xor q w b,
      ← is_set-xor r w b,
      ← is_set-xor s w b,
      ← is_set-xor t w b,
      ← is_set-xor u w b,
      one_if-is_set (bit_xor p w) b,
      one_if-is_set (bit_xor q w) b,
      one_if-is_set (bit_xor r w) b,
      one_if-is_set (bit_xor s w) b,
      one_if-is_set (bit_xor t w) b,
      one_if-is_set (bit_xor u w) b,
    )
    (omega arith)
six-against [] w b e = absurd (omega (arith, e))
six-against (p ∷ []) w b e = absurd (omega (arith, e))
six-against (p ∷ q ∷ []) w b e = absurd (omega (arith, e))
six-against (p ∷ q ∷ r ∷ []) w b e = absurd (omega (arith, e))
six-against (p ∷ q ∷ r ∷ s ∷ []) w b e = absurd (omega (arith, e))
six-against (p ∷ q ∷ r ∷ s ∷ t ∷ []) w b e = absurd (omega (arith, e))
six-against (p ∷ q ∷ r ∷ s ∷ t ∷ u ∷ v ∷ vs) w b e = absurd (omega (arith, e))

-- in a lane of six rows
lane-against : (rows : List (List ℕ)) (i w b : ℕ) → length rows ≡ 6
    → against_count (lane_words rows i) w b
    ≡ one_if (differs (is_set (get_or (get_or rows 0 []) i 0) b) (is_set w b)) + one_if (differs (is_set (get_or (get_or rows 1 []) i 0) b) (is_set w b))
    + one_if (differs (is_set (get_or (get_or rows 2 []) i 0) b) (is_set w b)) + one_if (differs (is_set (get_or (get_or rows 3 []) i 0) b) (is_set w b))
    + one_if (differs (is_set (get_or (get_or rows 4 []) i 0) b) (is_set w b)) + one_if (differs (is_set (get_or (get_or rows 5 []) i 0) b) (is_set w b))
lane-against rows i w b e = rw (lane-list rows i e) (omega arith)

-- whether a bit is set, as a number
set-bit : (x b : ℕ) (t : Bool) → is_set x b ≡ t → bit_at x b ≡ one_if t
set-bit x b t e = sym (one_if-is_set x b) ∙ ap one_if e

-- a bit that is compared with one that is set is turned, and else it is kept
turned : (x : Bool) → one_if (differs x true) + one_if x ≡ 1
turned true = refl
turned false = refl

kept : (x : Bool) → one_if (differs x false) ≡ one_if x
kept true = refl
kept false = refl

-- three bits that are compared with a spin have the compared sum and the compared carry
compared : (low high p q r w : Bool) → one_if low + 2 * one_if high ≡ one_if p + one_if q + one_if r
    → one_if (differs low w) + 2 * one_if (differs high w) ≡ one_if (differs p w) + one_if (differs q w) + one_if (differs r w)
compared low high p q r true e = omega (arith, e, turned low, turned high, turned p, turned q, turned r)
compared low high p q r false e = omega (arith, e, kept low, kept high, kept p, kept q, kept r)

three-compared : (low high p q r w b : ℕ) → bit_at low b + 2 * bit_at high b ≡ bit_at p b + bit_at q b + bit_at r b
    → one_if (differs (is_set low b) (is_set w b)) + 2 * one_if (differs (is_set high b) (is_set w b))
    ≡ one_if (differs (is_set p b) (is_set w b)) + one_if (differs (is_set q b) (is_set w b)) + one_if (differs (is_set r b) (is_set w b))
three-compared low high p q r w b e =
    compared (is_set low b) (is_set high b) (is_set p b) (is_set q b) (is_set r b) (is_set w b)
    (omega (arith, e, one_if-is_set low b, one_if-is_set high b, one_if-is_set p b, one_if-is_set q b, one_if-is_set r b))

-- in a lane of six rows, whose sums and carries are compared with a word
pub lane-compared : (rows : List (List ℕ)) (i w b low high more most x₀ x₁ x₂ x₃ : ℕ) → length rows ≡ 6
    → bit_at low b + 2 * bit_at high b ≡ bit_at (get_or (get_or rows 0 []) i 0) b + bit_at (get_or (get_or rows 1 []) i 0) b + bit_at (get_or (get_or rows 2 []) i 0) b
    → bit_at more b + 2 * bit_at most b ≡ bit_at (get_or (get_or rows 3 []) i 0) b + bit_at (get_or (get_or rows 4 []) i 0) b + bit_at (get_or (get_or rows 5 []) i 0) b
    → is_set x₀ b ≡ differs (is_set low b) (is_set w b)
    → is_set x₁ b ≡ differs (is_set more b) (is_set w b)
    → is_set x₂ b ≡ differs (is_set high b) (is_set w b)
    → is_set x₃ b ≡ differs (is_set most b) (is_set w b)
    → bit_at x₀ b + bit_at x₁ b + 2 * (bit_at x₂ b + bit_at x₃ b) ≡ against_count (lane_words rows i) w b
lane-compared rows i w b low high more most x₀ x₁ x₂ x₃ sized front back e₀ e₁ e₂ e₃ =
    let one = three-compared low high (get_or (get_or rows 0 []) i 0) (get_or (get_or rows 1 []) i 0) (get_or (get_or rows 2 []) i 0) w b front in
    let two = three-compared more most (get_or (get_or rows 3 []) i 0) (get_or (get_or rows 4 []) i 0) (get_or (get_or rows 5 []) i 0) w b back in
    omega (arith, one, two, set-bit x₀ b _ e₀, set-bit x₁ b _ e₁, set-bit x₂ b _ e₂, set-bit x₃ b _ e₃, lane-against rows i w b sized)

-- four sites side by side, of which each has so many
four-counted : (own : List ℕ) (s : Surroundings) (row : Row) (k b : ℕ) (n : ℕ → ℕ)
    → ((i : ℕ) → i < 4 → n i ≡ against_count (pulls_lent s row (k + i)) (get_or own (row.here + (k + i)) 0) b)
    → row_count own s row b k + over_lanes n ≡ row_count own s row b (k + 4)
four-counted own s row k b n each =
    let none : k + 0 ≡ k = omega arith in
    let two : k + 1 + 1 ≡ k + 2 = omega arith in
    let three : k + 2 + 1 ≡ k + 3 = omega arith in
    let four : k + 3 + 1 ≡ k + 4 = omega arith in
    let e₀ = rw none at (each 0 (omega arith)) in
    let e₁ = each 1 (omega arith) in
    let e₂ = each 2 (omega arith) in
    let e₃ = each 3 (omega arith) in
    let m₀ = row-more own s row b k in
    let m₁ = rw two at (row-more own s row b (k + 1)) in
    let m₂ = rw three at (row-more own s row b (k + 2)) in
    let m₃ = rw four at (row-more own s row b (k + 3)) in
    omega arith

-- and which lanes are
pub four-seen : (own : List ℕ) (s : Surroundings) (row : Row) (k b : ℕ) (six : List (List ℕ)) (words : List ℕ)
    → ((i : ℕ) → i < 4 → lane_words six i ≡ pulls_lent s row (k + i))
    → ((i : ℕ) → i < 4 → get_or words i 0 ≡ get_or own (row.here + k + i) 0)
    → row_count own s row b k + four_count six words b ≡ row_count own s row b (k + 4)
four-seen own s row k b six words read same =
    four-counted own s row k b (λ i. against_count (lane_words six i) (get_or words i 0) b) (λ i h.
    let place : row.here + k + i ≡ row.here + (k + i) = omega arith in
    ap (λ xs. against_count xs (get_or words i 0) b) (read i h)
    ∙ ap (λ n. against_count (pulls_lent s row (k + i)) n b) (same i h ∙ ap (λ n. get_or own n 0) place))

-- some columns more have six bonds each
pub row-more-le : (own : List ℕ) (s : Surroundings) (row : Row) (b k n : ℕ) → row_count own s row b (k + n) ≤ row_count own s row b k + 6 * n
row-more-le own s row b k zero = let same : k + 0 ≡ k = omega arith in rw same (omega arith)
row-more-le own s row b k (suc n) =
    let before = row-more-le own s row b k n in
    let place : k + suc n ≡ k + n + 1 = omega arith in
    let more = row-more own s row b (k + n) in
    let site = against-le (pulls_lent s row (k + n)) (get_or own (row.here + (k + n)) 0) b (pulls-six s row (k + n)) in
    rw place (omega arith)

-- one column, whose twelve words stand in the lanes of three vectors
pub column-counted : (own : List ℕ) (s : Surroundings) (p q : Row) (k b : ℕ) (six other front middle back : List ℕ) → six ≡ pulls_lent s p k → other ≡ pulls_lent s q k
    → front ≡ bit_xor (get_or six 0 0) (get_or own (p.here + k) 0) ∷ bit_xor (get_or six 1 0) (get_or own (p.here + k) 0)
    ∷ bit_xor (get_or six 2 0) (get_or own (p.here + k) 0) ∷ bit_xor (get_or six 3 0) (get_or own (p.here + k) 0) ∷ []
    → middle ≡ bit_xor (get_or six 4 0) (get_or own (p.here + k) 0) ∷ bit_xor (get_or six 5 0) (get_or own (p.here + k) 0)
    ∷ bit_xor (get_or other 4 0) (get_or own (q.here + k) 0) ∷ bit_xor (get_or other 5 0) (get_or own (q.here + k) 0) ∷ []
    → back ≡ bit_xor (get_or other 0 0) (get_or own (q.here + k) 0) ∷ bit_xor (get_or other 1 0) (get_or own (q.here + k) 0)
    ∷ bit_xor (get_or other 2 0) (get_or own (q.here + k) 0) ∷ bit_xor (get_or other 3 0) (get_or own (q.here + k) 0) ∷ []
    → row_count own s p b k + row_count own s q b k + (set_lanes front b + set_lanes middle b + set_lanes back b) ≡ row_count own s p b (k + 1) + row_count own s q b (k + 1)
column-counted own s p q k b six other front middle back same alike e f g =
    let v = get_or own (p.here + k) 0 in
    let w = get_or own (q.here + k) 0 in
    let counted = six-against six v b (ap length same ∙ pulls-six s p k) ∙ ap (λ xs. against_count xs v b) same in
    let also = six-against other w b (ap length alike ∙ pulls-six s q k) ∙ ap (λ xs. against_count xs w b) alike in
    let more = row-more own s p b k in
    let behind = row-more own s q b k in
    let first = set_lanes-is front b in
    let second = set_lanes-is middle b in
    let third = set_lanes-is back b in
    rw (e, f, g) (omega (arith, rw e at first, rw f at second, rw g at third))
