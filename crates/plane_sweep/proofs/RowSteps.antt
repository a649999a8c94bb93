-- The rows of a plane one behind the other.
use Rattle.std.proofs.Common.{inl, inr, ◌≡◌, ℕ, ◌+◌, ◌-◌, ◌*◌, ◌/◌, ◌%◌, ◌<◌, ◌≤◌, ◌==◌, not, refl, sym, ap, ◌∙◌, arith}
use Rattle.std.proofs.lemmas.Bool.{cases_lt, cases_eq}
use Rattle.std.proofs.lemmas.Nat.{mod_below, mul-le}
use Rattle.std.proofs.Math.Nat.{add-mul, mod-add-mod}
use Rattle.spin_model.specs.Lattice.{IsLawfulSize, half_plane, next, previous}
use Rattle.plane_sweep.specs.PlaneSweep.{IsRow, IsBehind}
use Rattle.plane_sweep.specs.declared.rows.Row.{Row}
use Rattle.plane_sweep.proofs.FourLanes.{next-inside, next-around, previous-inside, previous-around}
use Rattle.plane_sweep.proofs.SixWords.{row-whole}

turned-parity : (n : ℕ) → not (n % 2 == 0) ≡ ((n + 1) % 2 == 0)
turned-parity n = elim (cases_eq (n % 2) 0) [
  | inl even ↦
      let odd : (n + 1) % 2 ≡ 1 = omega arith in
      rw (even, odd) refl
  | inr not ↦
      let odd : n % 2 ≡ 1 = omega arith in
      let even : (n + 1) % 2 ≡ 0 = omega arith in
      rw (odd, even) refl
]

pub row-first : (l c z : ℕ) → IsLawfulSize l → IsRow l c z 0 (record { half = l / 2; here = 0; up = l / 2; down = (l - 1) * (l / 2); even = (c + z) % 2 == 0 })
row-first l c z lawful =
    let none : c + z ≡ c + 0 + z = omega arith in
    let one : next l 0 ≡ 0 + 1 = next-inside l 0 (omega arith) in
    record {
      half = refl;
      here = omega arith;
      up = rw one (omega arith);
      down = ap (λ n. n * (l / 2)) (sym (previous-around l (omega arith)));
      even = ap (λ n. n % 2 == 0) none;
    }

-- the row ahead of the next row
up-inside : (l y up half words : ℕ) → IsLawfulSize l → half ≡ l / 2 → words ≡ half_plane l → up ≡ next l y * (l / 2) → up + half < words → up + half ≡ next l (y + 1) * (l / 2)
up-inside l y up half words lawful width whole here less =
    let u = next l y in
    let more = add-mul u 1 (l / 2) in
    let turn : next l (y + 1) ≡ next l u = sym (mod-add-mod (y + 1) l 1) in
    elim (cases_lt (u + 1) l) [
      | inl inside ↦ rw (turn, next-inside l u inside) (omega arith)
      | inr outside ↦
          let far = mul-le l (l / 2) (u + 1) (l / 2) outside (omega arith) in
          absurd (omega arith)
    ]

up-around : (l y up half words : ℕ) → IsLawfulSize l → half ≡ l / 2 → words ≡ half_plane l → up ≡ next l y * (l / 2) → words ≤ up + half → 0 ≡ next l (y + 1) * (l / 2)
up-around l y up half words lawful width whole here more =
    let u = next l y in
    let below : u < l = mod_below (y + 1) l (omega arith) in
    let turn : next l (y + 1) ≡ next l u = sym (mod-add-mod (y + 1) l 1) in
    let next_row = add-mul u 1 (l / 2) in
    elim (cases_lt (u + 1) l) [
      | inl inside ↦
          let near = mul-le (u + 1 + 1) (l / 2) l (l / 2) (omega arith) (omega arith) in
          let row_more = add-mul (u + 1) 1 (l / 2) in
          absurd (omega arith)
      | inr outside ↦ rw (turn, next-around l u (omega arith)) (omega arith)
    ]

row-step : (l c z y words up : ℕ) (row : Row) → IsLawfulSize l → y < l → IsRow l c z y row → up ≡ next l (y + 1) * (l / 2)
    → IsRow l c z (y + 1) (record { half = row.half; here = row.here + row.half; up = up; down = row.here; even = not row.even })
row-step l c z y words up row lawful below at ahead =
    let more = add-mul y 1 (l / 2) in
    let width = at.half in
    let start = at.here in
    let back : previous l (y + 1) ≡ y + 1 - 1 = previous-inside l (y + 1) (omega arith) (omega arith) in
    let behind : y + 1 - 1 ≡ y = omega arith in
    let sum : c + y + z + 1 ≡ c + (y + 1) + z = omega arith in
    record {
      half = at.half;
      here = omega arith;
      up = ahead;
      down = rw (back, behind) at.here;
      even = ap not at.even ∙ turned-parity (c + y + z) ∙ ap (λ n. n % 2 == 0) sum;
    }

pub row-inside : (l c z y words : ℕ) (row : Row) → IsLawfulSize l → y < l → words ≡ half_plane l → IsRow l c z y row → row.up + row.half < words
    → IsRow l c z (y + 1) (record { half = row.half; here = row.here + row.half; up = row.up + row.half; down = row.here; even = not row.even })
row-inside l c z y words row lawful below whole at less =
    row-step l c z y words (row.up + row.half) row lawful below at (up-inside l y row.up row.half words lawful at.half whole at.up less)

pub row-around : (l c z y words : ℕ) (row : Row) → IsLawfulSize l → y < l → words ≡ half_plane l → IsRow l c z y row → words ≤ row.up + row.half
    → IsRow l c z (y + 1) (record { half = row.half; here = row.here + row.half; up = 0; down = row.here; even = not row.even })
row-around l c z y words row lawful below whole at more =
    row-step l c z y words 0 row lawful below at (up-around l y row.up row.half words lawful at.half whole at.up more)

-- two rows one behind the other are one run
pub rows-joined : (l c z y : ℕ) (row behind : Row) → IsLawfulSize l → IsRow l c z y row → IsRow l c z (y + 1) behind → IsBehind row behind
rows-joined l c z y row behind lawful at next =
    let more = add-mul y 1 (l / 2) in
    let width = at.half in
    let start = at.here in
    record { half = next.half ∙ sym at.half; here = omega (arith, next.here); two = omega arith }

-- a row and the one ahead of it lie in the plane
pub here-within : (l c z y : ℕ) (row : Row) → y < l → IsRow l c z y row → row.here + row.half ≤ half_plane l
here-within l c z y row below at =
    let whole = row-whole l y below in
    let start = at.here in
    let width = at.half in
    omega arith

pub up-within : (l c z y : ℕ) (row : Row) → IsLawfulSize l → IsRow l c z y row → row.up + row.half ≤ half_plane l
up-within l c z y row lawful at =
    let whole = row-whole l (next l y) (mod_below (y + 1) l (omega arith)) in
    let start = at.up in
    let width = at.half in
    omega arith
