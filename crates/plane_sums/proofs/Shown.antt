-- What rows of words show: the agreement of two replicas at the sites of a plane.
use Rattle.std.proofs.Common.{inl, inr, ◌≡◌, ℕ, ◌+◌, ◌*◌, ◌/◌, ◌%◌, ◌<◌, ◌≤◌, Bool, false, List, [], length, get_or, set, ap, ap₂, sym, ◌∙◌, arith}
use Rattle.std.proofs.lemmas.Bool.{cases_lt}
use Rattle.std.proofs.lemmas.List.{get_or-set_same, get_or-set_other}
use Rattle.std.proofs.lemmas.Nat.{mul-le}
use Rattle.std.proofs.Math.Nat.{add-mul, mul-le-mul_right}
use Rattle.multispin_word.specs.Planes.{is_set}
use Rattle.spin_model.specs.Lattice.{IsLawfulSize, volume, site_at}
use Rattle.spin_model.proofs.Sites.{site_at-below}
use Rattle.spin_model.proofs.Colours.{colour-site_at}
use Rattle.spin_model.proofs.Tables.{get_or-table}
use Rattle.scalar_rule.specs.Neighbours.{spin, agree}
use Rattle.plane_sweep.specs.Packed.{plane_at, word_at, spins_of}
use Rattle.plane_sweep.specs.declared.replica.Plane.{Plane}
use Rattle.bit_totals.proofs.Places.{word-at}
use Rattle.plane_sums.specs.Lines.{agrees, word_in}

-- a row more
pub rows-more : (test : ℕ → ℕ → ℕ → Bool) (l y : ℕ) (rows : List (List ℕ)) (row : List ℕ) → y < length rows
    → ((j x b : ℕ) → j < y → x < l → b < 64 → is_set (word_in rows j x) b ≡ test b j x)
    → ((x b : ℕ) → x < l → b < 64 → is_set (get_or row x 0) b ≡ test b y x)
    → (j x b : ℕ) → j < y + 1 → x < l → b < 64 → is_set (word_in (set rows y row) j x) b ≡ test b j x
rows-more test l y rows row within before own j x b below column sample = elim (cases_lt j y) [
  | inl less ↦
      ap (λ ws. is_set (get_or ws x 0) b) (get_or-set_other rows y j row [] (λ e. omega (arith, e, less)))
      ∙ before j x b less column sample
  | inr not ↦
      let here : j ≡ y = omega arith in
      rw here (ap (λ ws. is_set (get_or ws x 0) b) (get_or-set_same rows y row [] within) ∙ own x b column sample)
]

-- the spin of a site by the words of its colour in its plane
spin-at : (l : ℕ) (planes : List Plane) (c x y z b : ℕ) → x < l → y < l → z < l → (x + y + z) % 2 ≡ c
    → spin (spins_of l b planes) (site_at l x y z) ≡ is_set (get_or (plane_at planes (c * l + z)).words (y * (l / 2) + x / 2) 0) b
unfolding spins_of
spin-at l planes c x y z b x_within y_within z_within coloured =
    get_or-table (λ i. is_set (word_at l planes i) b) (volume l) (site_at l x y z) false (site_at-below l x y z x_within y_within z_within)
    ∙ ap (λ w. is_set w b) (word-at l planes c x y z x_within y_within (colour-site_at l x y z x_within y_within ∙ coloured))

pub agrees-at : (l : ℕ) (first second : List Plane) (c x y z b : ℕ) → x < l → y < l → z < l → (x + y + z) % 2 ≡ c
    → agrees l first second b (site_at l x y z)
    ≡ agree (is_set (get_or (plane_at first (c * l + z)).words (y * (l / 2) + x / 2) 0) b) (is_set (get_or (plane_at second (c * l + z)).words (y * (l / 2) + x / 2) 0) b)
agrees-at l first second c x y z b x_within y_within z_within coloured =
    ap₂ agree (spin-at l first c x y z b x_within y_within z_within coloured) (spin-at l second c x y z b x_within y_within z_within coloured)

-- a row's words lie in its plane
pub row-within : (l y : ℕ) → y < l → y * (l / 2) + l / 2 ≤ l * (l / 2)
row-within l y within =
    let more = add-mul y 1 (l / 2) in
    let bound = mul-le-mul_right (l / 2) within in
    omega arith

pub row-small : (l y : ℕ) → IsLawfulSize l → y < l → y * (l / 2) + l / 2 ≤ 2048
row-small l y lawful within =
    let most = mul-le l (l / 2) 64 32 (omega (arith, lawful.1)) (omega (arith, lawful.1)) in
    omega (arith, row-within l y within)

-- the row's word of a column by whether that is even
pub row-agrees : (l : ℕ) (first second : List Plane) (row e o f p : List ℕ) (y z : ℕ) → l % 2 ≡ 0 → y < l → z < l
    → ((k b : ℕ) → k < l / 2 → b < 64 → is_set (get_or row (2 * k) 0) b ≡ agree (is_set (get_or e k 0) b) (is_set (get_or o k 0) b))
    → ((k b : ℕ) → k < l / 2 → b < 64 → is_set (get_or row (2 * k + 1) 0) b ≡ agree (is_set (get_or f k 0) b) (is_set (get_or p k 0) b))
    → ((k : ℕ) → k < l / 2 → get_or e k 0 ≡ get_or (plane_at first ((y + z) % 2 * l + z)).words (y * (l / 2) + k) 0)
    → ((k : ℕ) → k < l / 2 → get_or o k 0 ≡ get_or (plane_at second ((y + z) % 2 * l + z)).words (y * (l / 2) + k) 0)
    → ((k : ℕ) → k < l / 2 → get_or f k 0 ≡ get_or (plane_at first ((y + z + 1) % 2 * l + z)).words (y * (l / 2) + k) 0)
    → ((k : ℕ) → k < l / 2 → get_or p k 0 ≡ get_or (plane_at second ((y + z + 1) % 2 * l + z)).words (y * (l / 2) + k) 0)
    → (x b : ℕ) → x < l → b < 64 → is_set (get_or row x 0) b ≡ agrees l first second b (site_at l x y z)
row-agrees l first second row e o f p y z even y_within z_within evens odds own other next behind x b x_within sample = elim (cases_lt (x % 2) 1) [
  | inl less ↦
      let k = x / 2 in
      let here : k < l / 2 = omega arith in
      let place : 2 * k ≡ x = omega arith in
      rw (agrees-at l first second ((y + z) % 2) x y z b x_within y_within z_within (omega arith))
      (ap (λ i. is_set (get_or row i 0) b) (sym place) ∙ evens k b here sample
      ∙ ap₂ (λ v w. agree (is_set v b) (is_set w b)) (own k here) (other k here))
  | inr not ↦
      let k = x / 2 in
      let here : k < l / 2 = omega arith in
      let place : 2 * k + 1 ≡ x = omega arith in
      rw (agrees-at l first second ((y + z + 1) % 2) x y z b x_within y_within z_within (omega arith))
      (ap (λ i. is_set (get_or row i 0) b) (sym place) ∙ odds k b here sample
      ∙ ap₂ (λ v w. agree (is_set v b) (is_set w b)) (next k here) (behind k here))
]
