-- Six words of 64 samples: their agreement with a spin, and what they are of the borrowed words.
use Rattle.std.proofs.Common.{◌≡◌, ℕ, ◌+◌, ◌-◌, ◌*◌, ◌/◌, ◌%◌, ◌<◌, ◌≤◌, ◌==◌, Bool, true, false, not, cond, bit_xor, List, length, get_or, refl, sym, ap, ◌∙◌, arith}
use Rattle.std.proofs.lemmas.Nat.{mul-le, mod_below, row_fits}
use Rattle.std.specs.Prelude.{count_by}
use Rattle.coupling_set.specs.CouplingWords.{CouplingsView, bond_word}
use Rattle.local_rule.specs.SiteBits.{equal_count, site_bits}
use Rattle.multispin_word.specs.Planes.{differs}
use Rattle.scalar_rule.specs.Neighbours.{agree}
use Rattle.spin_model.specs.Lattice.{IsLawfulSize, half_plane, next, previous}
use Rattle.spin_model.specs.Words.{is_set}
use Rattle.spin_model.proofs.CompactOrder.{in_plane}
use Rattle.plane_sweep.specs.Beginnings.{site_of}
use Rattle.plane_sweep.specs.Neighbourhood.{pulls, Surrounds, IsLent, right_place, left_place}
use Rattle.plane_sweep.specs.PlaneSweep.{IsRow, HasRows, pulls_lent}
use Rattle.plane_sweep.specs.declared.replica.Plane.{Plane}
use Rattle.plane_sweep.specs.declared.rows.Row.{Row}
use Rattle.plane_sweep.specs.declared.surroundings.Surroundings.{Surroundings}

not-differs : (x y : Bool) → not (differs x y) ≡ agree x y
not-differs true true = refl
not-differs true false = refl
not-differs false true = refl
not-differs false false = refl

-- the bits that are equal to the spin agree with it
pub equal-agreeing : (six : List ℕ) (w b : ℕ) → equal_count six w b ≡ count_by (λ bit. agree bit (is_set w b)) (site_bits six b)
equal-agreeing six w b = λ i. count_by (λ bit. not-differs bit (is_set w b) i) (site_bits six b)

pub row-whole : (l y : ℕ) → y < l → y * (l / 2) + l / 2 ≤ half_plane l
row-whole l y row = row_fits y (l / 2) l (l / 2) row (omega arith)

pub half_plane-few : (l : ℕ) → l ≤ 64 → half_plane l ≤ 2048
half_plane-few l few = mul-le l (l / 2) 64 32 few (omega arith)

-- the rows of a plane lie in the borrowed words
pub rows-lent : (couplings : CouplingsView) (other : List Plane) (c z y : ℕ) (s : Surroundings) (row : Row) → IsLawfulSize couplings.size → y < couplings.size
    → Surrounds couplings other c z s → IsRow couplings.size c z y row → HasRows (length s.here.now) s row
rows-lent couplings other c z y s row lawful within around at =
    let l = couplings.size in
    let on : next l y < l = mod_below (y + 1) l (omega arith) in
    let back : previous l y < l = mod_below (y + l - 1) l (omega arith) in
    let middle = row-whole l y within in
    let up = row-whole l (next l y) on in
    let down = row-whole l (previous l y) back in
    let few = half_plane-few l (omega arith) in
    let sized = around.here_sized in
    let half = at.half in
    let here = at.here in
    let above = at.up in
    let below = at.down in
    record {
      few = omega arith;
      above = around.above_sized ∙ sym sized;
      below = around.below_sized ∙ sym sized;
      ahead_x = around.ahead_x.sized ∙ sym sized;
      ahead_y = around.ahead_y.sized ∙ sym sized;
      ahead_z = around.ahead_z.sized ∙ sym sized;
      here_x = around.here_x.sized ∙ sym sized;
      here_y = around.here_y.sized ∙ sym sized;
      below_z = around.below_z.sized ∙ sym sized;
      middle = omega arith;
      up = omega arith;
      down = omega arith;
    }

-- the columns beside a column, by whether the row's sites begin at x = 0
right-is : (half p y k : ℕ) (even : Bool) → even ≡ (p == 0) → y * half + cond even k (next half k) ≡ right_place half p y k
right-is half p y k even same = ap (λ t. y * half + cond t k (next half k)) same

left-is : (half p y k : ℕ) (even : Bool) → even ≡ (p == 0) → y * half + cond even (previous half k) k ≡ left_place half p y k
left-is half p y k even same = ap (λ t. y * half + cond t (previous half k) k) same

pub right-within : (l p y k : ℕ) → IsLawfulSize l → y < l → k < l / 2 → right_place (l / 2) p y k < half_plane l
right-within l p y k lawful row column = elim (p == 0) as (λ t. y * (l / 2) + cond t k (next (l / 2) k) < half_plane l) [
  | true ↦ in_plane l y k row column
  | false ↦ in_plane l y (next (l / 2) k) row (mod_below (k + 1) (l / 2) (omega arith))
]

pub left-within : (l p y k : ℕ) → IsLawfulSize l → y < l → k < l / 2 → left_place (l / 2) p y k < half_plane l
left-within l p y k lawful row column = elim (p == 0) as (λ t. y * (l / 2) + cond t (previous (l / 2) k) k < half_plane l) [
  | true ↦ in_plane l y (previous (l / 2) k) row (mod_below (k + l / 2 - 1) (l / 2) (omega arith))
  | false ↦ in_plane l y k row column
]

-- a borrowed word and a borrowed bond
both-lent : (couplings : CouplingsView) (c z d : ℕ) (words spins lent : List ℕ) (i j m n : ℕ) → spins ≡ words → IsLent couplings c z d lent → n < half_plane couplings.size → i ≡ m → j ≡ n
    → bit_xor (get_or spins i 0) (get_or lent j 0) ≡ bit_xor (get_or words m 0) (bond_word couplings (site_of couplings.size c z n) d)
both-lent couplings c z d words spins lent i j m n same bonds within at to =
    ap (λ xs. bit_xor (get_or xs i 0) (get_or lent j 0)) same
    ∙ ap (λ a. bit_xor (get_or words a 0) (get_or lent j 0)) at
    ∙ ap (λ a. bit_xor (get_or words m 0) (get_or lent a 0)) to
    ∙ ap (bit_xor (get_or words m 0)) (bonds.words n within)

pub pulls-lent : (couplings : CouplingsView) (other : List Plane) (c z y k : ℕ) (s : Surroundings) (row : Row) → IsLawfulSize couplings.size → y < couplings.size → k < couplings.size / 2
    → Surrounds couplings other c z s → IsRow couplings.size c z y row → pulls_lent s row k ≡ pulls couplings other c z y k
unfolding pulls pulls_lent
pulls-lent couplings other c z y k s row lawful within column around at =
    let l = couplings.size in
    let p = (c + y + z) % 2 in
    let on : next l y < l = mod_below (y + 1) l (omega arith) in
    let back : previous l y < l = mod_below (y + l - 1) l (omega arith) in
    let here : row.here + k ≡ y * (l / 2) + k = ap (λ n. n + k) at.here in
    let up : row.up + k ≡ next l y * (l / 2) + k = ap (λ n. n + k) at.up in
    let down : row.down + k ≡ previous l y * (l / 2) + k = ap (λ n. n + k) at.down in
    let right : row.here + cond row.even k (next row.half k) ≡ right_place (l / 2) p y k =
    ap (λ n. n + cond row.even k (next row.half k)) at.here ∙ ap (λ h. y * (l / 2) + cond row.even k (next h k)) at.half ∙ right-is (l / 2) p y k row.even at.even in
    let left : row.here + cond row.even (previous row.half k) k ≡ left_place (l / 2) p y k =
    ap (λ n. n + cond row.even (previous row.half k) k) at.here ∙ ap (λ h. y * (l / 2) + cond row.even (previous h k) k) at.half ∙ left-is (l / 2) p y k row.even at.even in
    let e₀ = both-lent couplings c z 0 _ s.here.now s.ahead_x.now _ _ _ _ around.here around.ahead_x (in_plane l y k within column) right here in
    let e₁ = both-lent couplings c z 1 _ s.here.now s.ahead_y.now _ _ _ _ around.here around.ahead_y (in_plane l y k within column) up here in
    let e₂ = both-lent couplings c z 2 _ s.above.now s.ahead_z.now _ _ _ _ around.above around.ahead_z (in_plane l y k within column) here here in
    let e₃ = both-lent couplings (1 - c) z 0 _ s.here.now s.here_x.now _ _ _ _ around.here around.here_x (left-within l p y k lawful within column) left left in
    let e₄ = both-lent couplings (1 - c) z 1 _ s.here.now s.here_y.now _ _ _ _ around.here around.here_y (in_plane l (previous l y) k back column) down down in
    let e₅ = both-lent couplings (1 - c) (previous l z) 2 _ s.below.now s.below_z.now _ _ _ _ around.below around.below_z (in_plane l y k within column) here here in
    cc
