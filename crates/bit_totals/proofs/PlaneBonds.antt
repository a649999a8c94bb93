-- The words of a plane of one colour and of those around it count the bonds of its sites.
use Rattle.std.proofs.Common.{◌≡◌, ℕ, ◌+◌, ◌-◌, ◌*◌, ◌/◌, ◌%◌, ◌<◌, ◌≤◌, Bool, true, false, not, cond, List, [], ◌∷◌, All, length, take, drop, get_or, refl, ap, sym, subst, ◌∙◌, arith}
use Rattle.std.specs.Prelude.{count_by}
use Rattle.std.proofs.Math.Nat.{add-mul}
use Rattle.std.proofs.lemmas.List.{length-map, length-drop, length-take-le, get_or-take, get_or-drop}
use Rattle.std.proofs.lemmas.List.Sums.{sum_by-cons}
use Rattle.std.proofs.lemmas.Nat.{div-add-mod', div-mul-add, mod-mul-add, div_below, mod_below}
use Rattle.coupling_set.specs.CouplingWords.{CouplingsView, bonds_of}
use Rattle.local_rule.specs.SiteBits.{equal_count, site_bits}
use Rattle.multispin_word.specs.Planes.{differs, is_set}
use Rattle.spin_model.specs.Couplings.{Bonds}
use Rattle.spin_model.specs.Lattice.{IsLawfulSize, half_plane, half_volume, from_compact}
use Rattle.scalar_rule.specs.Neighbours.{spin, agree, pull, neighbours, satisfied}
use Rattle.scalar_rule.specs.Positions.{sum_below}
use Rattle.scalar_rule.proofs.Extremes.{sum-same, sum-most}
use Rattle.plane_sweep.specs.Beginnings.{site_of}
use Rattle.plane_sweep.specs.Neighbourhood.{pulls, Surrounds}
use Rattle.plane_sweep.specs.Packed.{plane_at, spins_of, FitsPlane}
use Rattle.plane_sweep.specs.PlaneSweep.{pulls_lent, IsRow}
use Rattle.plane_sweep.specs.declared.replica.Plane.{Plane}
use Rattle.plane_sweep.specs.declared.rows.Row.{Row}
use Rattle.plane_sweep.specs.declared.surroundings.Surroundings.{Surroundings}
use Rattle.plane_sweep.proofs.SamplePulls.{AreOthers, spin-place, has-counts}
use Rattle.plane_sweep.proofs.SixWords.{pulls-lent}
use Rattle.bit_totals.specs.Counted.{unsatisfied_at, unsatisfied_from}
use Rattle.bit_totals.specs.RowBonds.{against_count, plane_count, row_count}
use Rattle.bit_totals.proofs.ColourBonds.{sum-behind}
use Rattle.bit_totals.proofs.RowCounts.{against-le}

-- those that pass a test and those that don't are all
one-or-other : (t : Bool) → cond t 1 0 + cond (not t) 1 0 ≡ 1
one-or-other true = refl
one-or-other false = refl

count-rest : {X : Type 0} (p : X → Bool) (xs : List X) → count_by p xs + count_by (λ x. not (p x)) xs ≡ length xs
count-rest p [] = refl
count-rest {X} p (x ∷ xs) =
    let one = one-or-other (p x) in
    let first = sum_by-cons (λ y. cond (p y) 1 0) x xs in
    let second = sum_by-cons (λ y. cond (not (p y)) 1 0) x xs in
    let rest = count-rest p xs in
    omega arith

-- a bond is unsatisfied or not
against-rest : (six : List ℕ) (w b : ℕ) → against_count six w b + equal_count six w b ≡ length six
against-rest six w b =
    let rest = count-rest (λ bit. differs bit (is_set w b)) (site_bits six b) in
    let bits = length-map six (λ word. is_set word b) in
    omega (arith, rest, bits)

at-rest : (l : ℕ) (bonds : Bonds) (spins : List Bool) (i : ℕ) → satisfied l bonds spins i + unsatisfied_at l bonds spins i ≡ 6
unfolding satisfied unsatisfied_at
at-rest l bonds spins i = count-rest (λ n. agree (pull bonds spins n) (spin spins i)) (neighbours l i)

pulls-six : (couplings : CouplingsView) (other : List Plane) (c z y k : ℕ) → length (pulls couplings other c z y k) ≡ 6
unfolding pulls
pulls-six couplings other c z y k = refl

-- at one site
site-counted : (couplings : CouplingsView) (planes other : List Plane) (c z b j : ℕ) (own : List ℕ) → IsLawfulSize couplings.size → c < 2 → z < couplings.size → j < half_plane couplings.size
    → AreOthers couplings.size c planes other → own ≡ (plane_at planes (c * couplings.size + z)).words
    → against_count (pulls couplings other c z (j / (couplings.size / 2)) (j % (couplings.size / 2))) (get_or own j 0) b
    ≡ unsatisfied_at couplings.size (bonds_of couplings b) (spins_of couplings.size b planes) (from_compact couplings.size (c * half_volume couplings.size + (z * half_plane couplings.size + j)))
site-counted couplings planes other c z b j own lawful chosen plane within others same =
    let l = couplings.size in
    let y = j / (l / 2) in
    let k = j % (l / 2) in
    let row : y < l = div_below j (l / 2) l (omega (arith, lawful.0)) within in
    let column : k < l / 2 = mod_below j (l / 2) (omega (arith, lawful.0)) in
    let parts : y * (l / 2) + k ≡ j = div-add-mod' j (l / 2) in
    let bonds = bonds_of couplings b in
    let spins = spins_of l b planes in
    let w = get_or own j 0 in
    let place : c * half_volume l + z * half_plane l + j ≡ c * half_volume l + (z * half_plane l + j) = omega arith in
    let here : is_set w b ≡ spin spins (site_of l c z (y * (l / 2) + k)) =
    sym (ap (λ n. spin spins (site_of l c z n)) parts ∙ spin-place l b c z j planes lawful chosen plane within ∙ sym (ap (λ ws. is_set (get_or ws j 0) b) same)) in
    let counts = has-counts couplings planes other b c z y k w lawful chosen plane row column others here in
    let site : site_of l c z (y * (l / 2) + k) ≡ from_compact l (c * half_volume l + (z * half_plane l + j)) = ap (site_of l c z) parts ∙ ap (from_compact l) place in
    let read = counts.satisfied_count ∙ ap (satisfied l bonds spins) site in
    let rest = against-rest (pulls couplings other c z y k) w b ∙ pulls-six couplings other c z y k in
    let whole = at-rest l bonds spins (from_compact l (c * half_volume l + (z * half_plane l + j))) in
    omega (arith, read, rest, whole)

-- a plane more
pub plane-counted : (couplings : CouplingsView) (planes other : List Plane) (c z b : ℕ) (own : List ℕ) → IsLawfulSize couplings.size → c < 2 → z < couplings.size
    → AreOthers couplings.size c planes other → own ≡ (plane_at planes (c * couplings.size + z)).words
    → unsatisfied_from couplings.size (bonds_of couplings b) (spins_of couplings.size b planes) c ((z + 1) * half_plane couplings.size)
    ≡ unsatisfied_from couplings.size (bonds_of couplings b) (spins_of couplings.size b planes) c (z * half_plane couplings.size) + plane_count couplings other c z own b (half_plane couplings.size)
unfolding unsatisfied_from plane_count
plane-counted couplings planes other c z b own lawful chosen plane others same =
    let l = couplings.size in
    let h = half_plane l in
    let more = add-mul z 1 h in
    let place : (z + 1) * h ≡ z * h + h = omega arith in
    let at = λ (p : ℕ). unsatisfied_at l (bonds_of couplings b) (spins_of l b planes) (from_compact l (c * half_volume l + p)) in
    let each = sum-same (λ j. against_count (pulls couplings other c z (j / (l / 2)) (j % (l / 2))) (get_or own j 0) b) (λ j. at (z * h + j)) h
    (λ j within. site-counted couplings planes other c z b j own lawful chosen plane within others same) in
    ap (sum_below at) place ∙ sum-behind at (z * h) h ∙ ap (λ n. sum_below at (z * h) + n) (sym each)

-- the rows before, and one row more
pub row-counted : (couplings : CouplingsView) (other : List Plane) (c z y b : ℕ) (own : List ℕ) (s : Surroundings) (row : Row) → IsLawfulSize couplings.size → y < couplings.size
    → Surrounds couplings other c z s → IsRow couplings.size c z y row
    → plane_count couplings other c z own b ((y + 1) * (couplings.size / 2)) ≡ plane_count couplings other c z own b (y * (couplings.size / 2)) + row_count own s row b row.half
unfolding plane_count row_count
row-counted couplings other c z y b own s row lawful within around at =
    let half = couplings.size / 2 in
    let more = add-mul y 1 half in
    let place : (y + 1) * half ≡ y * half + half = omega arith in
    let term = λ (j : ℕ). against_count (pulls couplings other c z (j / half) (j % half)) (get_or own j 0) b in
    let each = sum-same (λ k. against_count (pulls_lent s row k) (get_or own (row.here + k) 0) b) (λ k. term (y * half + k)) half
    (λ k column.
    ap (λ six. against_count six (get_or own (row.here + k) 0) b)
    (pulls-lent couplings other c z y k s row lawful within column around at
    ∙ ap (λ a. pulls couplings other c z a k) (sym (div-mul-add y half k column))
    ∙ ap (pulls couplings other c z ((y * half + k) / half)) (sym (mod-mul-add y half k column)))
    ∙ ap (λ n. against_count (pulls couplings other c z ((y * half + k) / half) ((y * half + k) % half)) (get_or own (n + k) 0) b) at.here) in
    ap (sum_below term) place ∙ sum-behind term (y * half) half ∙ ap (λ n. sum_below term (y * half) + n) (sym each ∙ ap (sum_below (λ k. against_count (pulls_lent s row k) (get_or own (row.here + k) 0) b)) (sym at.half))

sum-zero : (f : ℕ → ℕ) → sum_below f 0 ≡ 0
unfolding sum_below
sum-zero f = refl

pub plane-none : (couplings : CouplingsView) (other : List Plane) (c z b : ℕ) (own : List ℕ) → plane_count couplings other c z own b (0 * (couplings.size / 2)) ≡ 0
unfolding plane_count
plane-none couplings other c z b own =
    let half = couplings.size / 2 in
    let none : 0 * half ≡ 0 = omega arith in
    let term = λ (j : ℕ). against_count (pulls couplings other c z (j / half) (j % half)) (get_or own j 0) b in
    ap (sum_below term) none ∙ sum-zero term

-- a site has six bonds
pub plane-le : (couplings : CouplingsView) (other : List Plane) (c z b : ℕ) (own : List ℕ) (n : ℕ) → plane_count couplings other c z own b n ≤ 6 * n
unfolding plane_count
plane-le couplings other c z b own n =
    let half = couplings.size / 2 in
    let most = sum-most (λ j. against_count (pulls couplings other c z (j / half) (j % half)) (get_or own j 0) b) n 6
    (λ j below. against-le (pulls couplings other c z (j / half) (j % half)) (get_or own j 0) b (pulls-six couplings other c z (j / half) (j % half))) in
    omega arith

-- the items from a place on
pub tail-at : {A : Type 0} (xs : List A) (i k : ℕ) (d : A) → k < length xs - i → get_or (take (length xs - i) (drop i xs)) k d ≡ get_or xs (i + k) d
tail-at xs i k d below = get_or-take (length xs - i) (drop i xs) k d below ∙ get_or-drop i xs k d

pub tail-long : {A : Type 0} (xs : List A) (i : ℕ) → length (take (length xs - i) (drop i xs)) ≡ length xs - i
tail-long xs i =
    let rest = length-drop i xs in
    length-take-le (length xs - i) (drop i xs) (omega arith)

-- the planes of colour 1 among all planes
pub second-others : (l : ℕ) (planes : List Plane) → length planes ≡ 2 * l → AreOthers l 0 planes (take (length planes - l) (drop l planes))
second-others l planes count = λ z below.
    let place : l + z ≡ (1 - 0) * l + z = omega arith in
    tail-at planes l z (record { words = []; wheel = [] }) (omega arith) ∙ ap (plane_at planes) place

pub second-fit : (l : ℕ) (planes : List Plane) → All (FitsPlane l) planes → All (FitsPlane l) (take (length planes - l) (drop l planes))
second-fit l planes fit = λ k d below.
    let long = tail-long planes l in
    subst (FitsPlane l) (sym (tail-at planes l k d (omega arith))) (fit (l + k) d (omega arith))
