-- The sites some steps on from those of a plane, and the words that they have in compact order.
use Rattle.std.proofs.Common.{inl, inr, ◌≡◌, ℕ, zero, suc, ◌+◌, ◌-◌, ◌*◌, ◌/◌, ◌%◌, ◌<◌, ◌≤◌, List, get_or, ap, refl, sym, ◌∙◌, arith}
use Rattle.std.proofs.Math.Nat.{add-mul, mul_comm, mod-eq_of_lt}
use Rattle.std.proofs.lemmas.Nat.{mul-add-lt, mod-mul-add, div-add-mod', mod_below}
use Rattle.std.proofs.lemmas.Bool.{cases_lt}
use Rattle.spin_model.specs.Lattice.{IsLawfulSize, site_at, next, forward, colour, half_plane, from_compact}
use Rattle.spin_model.proofs.Colours.{colour-site_at}
use Rattle.spin_model.proofs.Neighbours.{forward-x, forward-y, forward-z}
use Rattle.plane_sweep.specs.Packed.{plane_at, word_at}
use Rattle.plane_sweep.specs.declared.replica.Plane.{Plane}
use Rattle.bit_totals.proofs.Places.{Within, bounds, row_at, column_at, site-is, word-at}
use Rattle.overlap_lines.specs.Overlaps.{steps_on}
use Rattle.overlap_lines.specs.Counted.{plane_on, place_on}

-- a coordinate after one step more
next-more : (l x r : ℕ) → 0 < l → next l ((x + r) % l) ≡ (x + suc r) % l
next-more l x r some =
    let parts = div-add-mod' (x + r) l in
    let below = mod_below (x + r) l some in
    let q = (x + r) / l in
    let m = (x + r) % l in
    elim (cases_lt (m + 1) l) [
      | inl inner ↦
          let here : next l m ≡ m + 1 = mod-eq_of_lt inner in
          let place : q * l + (m + 1) ≡ x + suc r = omega arith in
          here ∙ sym (ap (λ n. n % l) (sym place) ∙ mod-mul-add q l (m + 1) inner)
      | inr edge ↦
          let full : m + 1 ≡ 1 * l + 0 = omega arith in
          let here : next l m ≡ 0 = ap (λ n. n % l) full ∙ mod-mul-add 1 l 0 some in
          let more = add-mul q 1 l in
          let place : (q + 1) * l + 0 ≡ x + suc r = omega arith in
          here ∙ sym (ap (λ n. n % l) (sym place) ∙ mod-mul-add (q + 1) l 0 some)
    ]

none-on : (l x : ℕ) → x < l → x ≡ (x + 0) % l
none-on l x within = let same : x + 0 ≡ x = omega arith in sym (ap (λ n. n % l) same ∙ mod-eq_of_lt within)

-- steps along an axis turn its coordinate
pub steps-x : (l x y z r : ℕ) → x < l → y < l → steps_on l (site_at l x y z) 0 r ≡ site_at l ((x + r) % l) y z
unfolding steps_on
steps-x l x y z zero h k = ap (λ v. site_at l v y z) (none-on l x h)
steps-x l x y z (suc r) h k =
    let below = mod_below (x + r) l (omega arith) in
    ap (λ i. forward l i 0) (steps-x l x y z r h k) ∙ forward-x l ((x + r) % l) y z below k ∙ ap (λ v. site_at l v y z) (next-more l x r (omega arith))

pub steps-y : (l x y z r : ℕ) → x < l → y < l → steps_on l (site_at l x y z) 1 r ≡ site_at l x ((y + r) % l) z
unfolding steps_on
steps-y l x y z zero h k = ap (λ v. site_at l x v z) (none-on l y k)
steps-y l x y z (suc r) h k =
    let below = mod_below (y + r) l (omega arith) in
    ap (λ i. forward l i 1) (steps-y l x y z r h k) ∙ forward-y l x ((y + r) % l) z h below ∙ ap (λ v. site_at l x v z) (next-more l y r (omega arith))

pub steps-z : (l x y z r : ℕ) → x < l → y < l → z < l → steps_on l (site_at l x y z) 2 r ≡ site_at l x y ((z + r) % l)
unfolding steps_on
steps-z l x y z zero h k m = ap (λ v. site_at l x y v) (none-on l z m)
steps-z l x y z (suc r) h k m =
    ap (λ i. forward l i 2) (steps-z l x y z r h k m) ∙ forward-z l x y ((z + r) % l) h k ∙ ap (λ v. site_at l x y v) (next-more l z r (omega arith))

-- around the boundary a coordinate keeps the parity of the steps
turned-parity : (l x r : ℕ) → l % 2 ≡ 0 → x < l → r ≤ l → (x + r) % l % 2 ≡ (x + r) % 2
turned-parity l x r even within far = elim (cases_lt (x + r) l) [
  | inl inner ↦ ap (λ n. n % 2) (mod-eq_of_lt inner)
  | inr edge ↦
      let m = x + r - l in
      let place : x + r ≡ 1 * l + m = omega arith in
      let here : (x + r) % l ≡ m = ap (λ n. n % l) place ∙ mod-mul-add 1 l m (omega arith) in
      omega arith
]

-- half of the turned column
half-steps : (l k p r : ℕ) → l % 2 ≡ 0 → k < l / 2 → p < 2 → r ≤ l / 2 → 4 ≤ l → (2 * k + p + r) % l / 2 ≡ (k + (r + p) / 2) % (l / 2)
half-steps l k p r even within small far least = elim (cases_lt (2 * k + p + r) l) [
  | inl inner ↦
      let whole : (2 * k + p + r) % l ≡ 2 * k + p + r = mod-eq_of_lt inner in
      let half : (k + (r + p) / 2) % (l / 2) ≡ k + (r + p) / 2 = mod-eq_of_lt (omega arith) in
      omega arith
  | inr edge ↦
      let m = 2 * k + p + r - l in
      let place : 2 * k + p + r ≡ 1 * l + m = omega arith in
      let whole : (2 * k + p + r) % l ≡ m = ap (λ n. n % l) place ∙ mod-mul-add 1 l m (omega arith) in
      let n = k + (r + p) / 2 - l / 2 in
      let halved : k + (r + p) / 2 ≡ 1 * (l / 2) + n = omega arith in
      let half : (k + (r + p) / 2) % (l / 2) ≡ n = ap (λ v. v % (l / 2)) halved ∙ mod-mul-add 1 (l / 2) n (omega arith) in
      omega arith
]

-- so many rows on
row-steps : (l y k r : ℕ) → l % 2 ≡ 0 → y < l → k < l / 2 → r ≤ l → (y + r) % l * (l / 2) + k ≡ (y * (l / 2) + k + r * (l / 2)) % half_plane l
row-steps l y k r even within below far =
    let sum = add-mul y r (l / 2) in
    let turned = mul_comm (l / 2) l in
    elim (cases_lt (y + r) l) [
      | inl inner ↦
          let up : (y + r) % l ≡ y + r = mod-eq_of_lt inner in
          let bound = mul-add-lt (y + r) (l / 2) k l inner below in
          let place : y * (l / 2) + k + r * (l / 2) ≡ (y + r) * (l / 2) + k = omega arith in
          ap (λ n. n * (l / 2) + k) up ∙ sym (ap (λ n. n % half_plane l) place ∙ mod-eq_of_lt (omega arith))
      | inr edge ↦
          let m = y + r - l in
          let full : y + r ≡ l + m = omega arith in
          let around : y + r ≡ 1 * l + m = omega arith in
          let up : (y + r) % l ≡ m = ap (λ n. n % l) around ∙ mod-mul-add 1 l m (omega arith) in
          let whole = ap (λ n. n * (l / 2)) full in
          let split = add-mul l m (l / 2) in
          let place : y * (l / 2) + k + r * (l / 2) ≡ 1 * half_plane l + (m * (l / 2) + k) = omega arith in
          let bound = mul-add-lt m (l / 2) k l (omega arith) below in
          ap (λ n. n * (l / 2) + k) up ∙ sym (ap (λ n. n % half_plane l) place ∙ mod-mul-add 1 (half_plane l) (m * (l / 2) + k) (omega arith))
    ]

-- the plane of the sites so many steps on is one of the planes
pub plane-on-below : (l q d r : ℕ) → IsLawfulSize l → q < 2 * l → plane_on l q d r < 2 * l
unfolding plane_on
plane-on-below l q zero r lawful below =
    let bound = mul-add-lt ((q / l + r) % 2) l (q % l) 2 (omega arith) (mod_below q l (omega (arith, lawful.0))) in omega arith
plane-on-below l q (suc zero) r lawful below =
    let bound = mul-add-lt ((q / l + r) % 2) l (q % l) 2 (omega arith) (mod_below q l (omega (arith, lawful.0))) in omega arith
plane-on-below l q (suc (suc d)) r lawful below =
    let bound = mul-add-lt ((q / l + r) % 2) l ((q % l + r) % l) 2 (omega arith) (mod_below (q % l + r) l (omega (arith, lawful.0))) in omega arith

-- the word of the site r steps on in x
word-x : (l q j r : ℕ) (planes : List Plane) → Within l q j → r ≤ l / 2
    → word_at l planes (steps_on l (from_compact l (q * half_plane l + j)) 0 r) ≡ get_or (plane_at planes (plane_on l q 0 r)).words (place_on l q 0 r j) 0
unfolding plane_on place_on
word-x l q j r planes w far =
    let b = bounds l q j w in
    let x = column_at l q j in
    let y = row_at l j in
    let z = q % l in
    let p = (q / l + y + z) % 2 in
    let k = j % (l / 2) in
    let parity : p ≡ (q / l + z + y) % 2 = omega arith in
    let column : x ≡ 2 * k + p = refl in
    let site = ap (λ i. steps_on l i 0 r) (site-is l q j w) ∙ steps-x l x y z r b.x b.y in
    let below = mod_below (x + r) l (omega (arith, b.z)) in
    let kept = turned-parity l x r b.even b.x (omega arith) in
    let coloured = colour-site_at l ((x + r) % l) y z below b.y in
    let within = b.colour in
    let is : colour l (site_at l ((x + r) % l) y z) ≡ (q / l + r) % 2 = coloured ∙ omega arith in
    let word = word-at l planes ((q / l + r) % 2) ((x + r) % l) y z below b.y is in
    let half = half-steps l k p r b.even b.k (omega arith) far w.lawful.0 in
    let same = ap (λ v. (k + (r + v) / 2) % (l / 2)) parity in
    ap (word_at l planes) site ∙ word ∙ ap (λ v. get_or (plane_at planes ((q / l + r) % 2 * l + z)).words (y * (l / 2) + v) 0) (half ∙ same)

-- in y
word-y : (l q j r : ℕ) (planes : List Plane) → Within l q j → r ≤ l / 2
    → word_at l planes (steps_on l (from_compact l (q * half_plane l + j)) 1 r) ≡ get_or (plane_at planes (plane_on l q 1 r)).words (place_on l q 1 r j) 0
unfolding plane_on place_on
word-y l q j r planes w far =
    let b = bounds l q j w in
    let x = column_at l q j in
    let y = row_at l j in
    let z = q % l in
    let site = ap (λ i. steps_on l i 1 r) (site-is l q j w) ∙ steps-y l x y z r b.x b.y in
    let below = mod_below (y + r) l (omega (arith, b.z)) in
    let kept = turned-parity l y r b.even b.y (omega arith) in
    let coloured = colour-site_at l x ((y + r) % l) z b.x below in
    let within = b.colour in
    let is : colour l (site_at l x ((y + r) % l) z) ≡ (q / l + r) % 2 = coloured ∙ omega arith in
    let word = word-at l planes ((q / l + r) % 2) x ((y + r) % l) z b.x below is in
    let column : x / 2 ≡ j % (l / 2) = omega arith in
    let step = row-steps l y (j % (l / 2)) r b.even b.y b.k (omega arith) in
    let place = ap (λ k. (y + r) % l * (l / 2) + k) column ∙ step ∙ ap (λ n. (n + r * (l / 2)) % half_plane l) (div-add-mod' j (l / 2)) in
    ap (word_at l planes) site ∙ word ∙ ap (λ k. get_or (plane_at planes ((q / l + r) % 2 * l + z)).words k 0) place

-- in z
word-z : (l q j r : ℕ) (planes : List Plane) → Within l q j → r ≤ l / 2
    → word_at l planes (steps_on l (from_compact l (q * half_plane l + j)) 2 r) ≡ get_or (plane_at planes (plane_on l q 2 r)).words (place_on l q 2 r j) 0
unfolding plane_on place_on
word-z l q j r planes w far =
    let b = bounds l q j w in
    let x = column_at l q j in
    let y = row_at l j in
    let z = q % l in
    let site = ap (λ i. steps_on l i 2 r) (site-is l q j w) ∙ steps-z l x y z r b.x b.y b.z in
    let kept = turned-parity l z r b.even b.z (omega arith) in
    let coloured = colour-site_at l x y ((z + r) % l) b.x b.y in
    let within = b.colour in
    let is : colour l (site_at l x y ((z + r) % l)) ≡ (q / l + r) % 2 = coloured ∙ omega arith in
    let word = word-at l planes ((q / l + r) % 2) x y ((z + r) % l) b.x b.y is in
    let column : x / 2 ≡ j % (l / 2) = omega arith in
    let place = ap (λ k. y * (l / 2) + k) column ∙ div-add-mod' j (l / 2) in
    ap (word_at l planes) site ∙ word ∙ ap (λ k. get_or (plane_at planes ((q / l + r) % 2 * l + (z + r) % l)).words k 0) place

-- in any direction
pub word-on : (l q j d r : ℕ) (planes : List Plane) → Within l q j → d < 3 → r ≤ l / 2
    → word_at l planes (steps_on l (from_compact l (q * half_plane l + j)) d r) ≡ get_or (plane_at planes (plane_on l q d r)).words (place_on l q d r j) 0
word-on l q j zero r planes w h far = word-x l q j r planes w far
word-on l q j (suc zero) r planes w h far = word-y l q j r planes w far
word-on l q j (suc (suc zero)) r planes w h far = word-z l q j r planes w far
word-on l q j (suc (suc (suc d))) r planes w h far = absurd (omega arith)

-- which is a place of that plane
pub place-on-below : (l q d r j : ℕ) → Within l q j → place_on l q d r j < half_plane l
unfolding place_on
place-on-below l q zero r j w =
    let b = bounds l q j w in
    let k = j % (l / 2) + (r + (q / l + q % l + j / (l / 2)) % 2) / 2 in
    let turned = mul_comm (l / 2) l in
    let bound = mul-add-lt (row_at l j) (l / 2) (k % (l / 2)) l b.y (mod_below k (l / 2) (omega (arith, b.k))) in
    omega arith
place-on-below l q (suc zero) r j w = mod_below (j + r * (l / 2)) (half_plane l) (omega (arith, w.place))
place-on-below l q (suc (suc d)) r j w = w.place

-- in z it is the same
pub place-in-z : (l q d r j : ℕ) → 2 ≤ d → place_on l q d r j ≡ j
unfolding place_on
place-in-z l q zero r j h = absurd (omega arith)
place-in-z l q (suc zero) r j h = absurd (omega arith)
place-in-z l q (suc (suc d)) r j h = refl

-- in x it is in the same row
pub place-in-x : (l q r j : ℕ) → place_on l q 0 r j ≡ j / (l / 2) * (l / 2) + (j % (l / 2) + (r + ((q / l + q % l) % 2 + j / (l / 2)) % 2) / 2) % (l / 2)
unfolding place_on
place-in-x l q r j =
    let parity : (q / l + q % l + j / (l / 2)) % 2 ≡ ((q / l + q % l) % 2 + j / (l / 2)) % 2 = omega arith in
    ap (λ p. j / (l / 2) * (l / 2) + (j % (l / 2) + (r + p) / 2) % (l / 2)) parity
