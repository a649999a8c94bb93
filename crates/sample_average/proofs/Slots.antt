-- The sums of a slot, of a block, and outside it.
use Rattle.std.proofs.Common.{arith, ◌≡◌, ℕ, ◌+◌, ◌-◌, ◌*◌, ◌/◌, ◌<◌, ◌≤◌, Bool, true, false, cond, not, List, [], ◌∷◌, length, get_or, refl, sym, ap, subst, ◌∙◌}
use Rattle.std.specs.Prelude.{ℤ, pos, ◌+ℤ◌, ◌-ℤ◌, ◌==◌, ◌&&◌, filter, fold}
use Rattle.std.specs.List.{AllByRecursion}
use Rattle.std.proofs.Math.Nat.{mul-lt-mul_of_pos_right, mul_comm}
use Rattle.std.proofs.lemmas.Bool.{and_parts, and_from, eqb-true, eq-eqb}
use Rattle.std.proofs.lemmas.Int.{ints}
use Rattle.std.proofs.lemmas.List.Filters.{length-filter_both, sum_by-filter_both}
use Rattle.std.proofs.lemmas.Nat.{div-mul-add, div_below, mul-add-lt}
use Rattle.sample_average.specs.declared.row.Row.{Row}
use Rattle.sample_average.specs.declared.sums.Sums.{Sums}
use Rattle.sample_average.specs.Averages.{AveragesView, sums_of, energy_of, square_of, fourth_of, block_of, slot_rows, rows_without}
use Rattle.sample_average.specs.Tallies.{Tallies, IsRowOfReport, KeepsAverages, averages_view, cell_of, sums_without}
use Rattle.sample_average.specs.declared.averages.Averages.TheInside.{Inside}

same-tests : (a b : Bool) → (a ≡ true → b ≡ true) → (b ≡ true → a ≡ true) → a ≡ b
same-tests true b to from = sym (to refl)
same-tests false true to from = absurd (let e = from refl in cc)
same-tests false false to from = refl

filter-where : (P : Row → Type 0) (p q : Row → Bool) (rows : List Row) → ((r : Row) → P r → p r ≡ q r) → AllByRecursion P rows → filter p rows ≡ filter q rows
filter-where P p q [] same all = refl
filter-where P p q (r ∷ rows) same all = ap (λ (b : Bool). cond b (r ∷ filter p rows) (filter p rows)) (same r all.0) ∙ ap (λ (xs : List Row). cond (q r) (r ∷ xs) xs) (filter-where P p q rows same all.1)

both-by : (q : Row → Bool) (r : Row) (xs : List Row) (b : Bool) → filter q (cond b (r ∷ xs) xs) ≡ cond (b && q r) (r ∷ filter q xs) (filter q xs)
both-by q r xs true = refl
both-by q r xs false = refl

filter-both : (p q : Row → Bool) (rows : List Row) → filter q (filter p rows) ≡ filter (λ r. p r && q r) rows
filter-both p q [] = refl
filter-both p q (r ∷ rows) = both-by q r (filter p rows) (p r) ∙ ap (λ (xs : List Row). cond (p r && q r) (r ∷ xs) xs) (filter-both p q rows)

one-cell : (sample samples slot : ℕ) → sample < samples → slot * 1 + sample * 1 / samples ≡ slot
one-cell sample samples slot below =
    let none : sample * 1 / samples < 1 = div_below (sample * 1) samples 1 (omega (arith, below)) (omega (arith, below)) in
    omega (arith, none)

pub total-told : (a : AveragesView) (table : List Sums) (slot : ℕ) (d : Sums) → AllByRecursion (IsRowOfReport a.header) a.rows → slot < length table → Tallies a.header.samples 1 table a.rows → get_or table slot d ≡ sums_of (slot_rows a slot)
total-told a table slot d fit within t =
    t.told slot d within ∙ ap sums_of (filter-where (IsRowOfReport a.header) (λ r. cell_of a.header.samples 1 r == slot) (λ r. r.slot == slot) a.rows
    (λ (r : Row) (is : IsRowOfReport a.header r). ap (λ (k : ℕ). k == slot) (one-cell r.sample a.header.samples r.slot is.sample)) fit)

same-cell : (s t k j blocks : ℕ) → k < blocks → j < blocks → s * blocks + k ≡ t * blocks + j → (s ≡ t) × (k ≡ j)
same-cell s t k j blocks p q e =
    let same : s ≡ t = sym (div-mul-add s blocks k p) ∙ ap (λ (n : ℕ). n / blocks) e ∙ div-mul-add t blocks j q in
    let there : s * blocks + j ≡ t * blocks + j = ap (λ (n : ℕ). n * blocks + j) same in
    (same, omega (arith, e, there))

cell-test : (s t k j blocks : ℕ) → k < blocks → j < blocks → (s * blocks + k == t * blocks + j) ≡ (s == t && k == j)
cell-test s t k j blocks p q = same-tests _ _
    (λ (e : (s * blocks + k == t * blocks + j) ≡ true). let r = same-cell s t k j blocks p q (eqb-true _ _ e) in and_from _ _ (eq-eqb _ _ r.0) (eq-eqb _ _ r.1))
    (λ (e : (s == t && k == j) ≡ true). let r = and_parts _ _ e in eq-eqb _ _ (ap (λ (n : ℕ). n * blocks + k) (eqb-true _ _ r.0) ∙ ap (λ (n : ℕ). t * blocks + n) (eqb-true _ _ r.1)))

pub block-below : (samples blocks sample : ℕ) → 0 < blocks → sample < samples → block_of samples blocks sample < blocks
block-below samples blocks sample some below =
    let e : sample * blocks < samples * blocks = mul-lt-mul_of_pos_right {m = sample} {n = samples} {k = blocks} below some in
    div_below (sample * blocks) samples blocks (omega (arith, below)) (rw (mul_comm blocks samples) e)

pub part-told : (a : AveragesView) (table : List Sums) (slot block : ℕ) (d : Sums) → AllByRecursion (IsRowOfReport a.header) a.rows → block < a.blocks → slot * a.blocks + block < length table → Tallies a.header.samples a.blocks table a.rows
    → get_or table (slot * a.blocks + block) d ≡ sums_of (filter (λ r. block_of a.header.samples a.blocks r.sample == block) (slot_rows a slot))
part-told a table slot block d fit one within t =
    t.told (slot * a.blocks + block) d within
    ∙ ap sums_of (filter-where (IsRowOfReport a.header) (λ r. cell_of a.header.samples a.blocks r == slot * a.blocks + block) (λ r. r.slot == slot && block_of a.header.samples a.blocks r.sample == block) a.rows
    (λ (r : Row) (is : IsRowOfReport a.header r). cell-test r.slot slot (block_of a.header.samples a.blocks r.sample) block a.blocks (block-below a.header.samples a.blocks r.sample (omega (arith, one)) is.sample) one) fit
    ∙ sym (filter-both (λ r. r.slot == slot) (λ r. block_of a.header.samples a.blocks r.sample == block) a.rows))

-- ---- what is outside

energy_sum : List Row → ℤ
energy_sum rows = fold (λ e r. e +ℤ energy_of r) (pos 0) rows

energy-from : (a : ℤ) (rows : List Row) → fold (λ e r. e +ℤ energy_of r) a rows ≡ a +ℤ energy_sum rows
unfolding energy_sum
energy-from a [] = omega (arith, ints)
energy-from a (r ∷ rows) =
    let one = energy-from (a +ℤ energy_of r) rows in
    let two = energy-from (pos 0 +ℤ energy_of r) rows in
    omega (arith, ints, one, two)

energy-cons : (r : Row) (rows : List Row) → energy_sum (r ∷ rows) ≡ energy_of r +ℤ energy_sum rows
unfolding energy_sum
energy-cons r rows = let one = energy-from (pos 0 +ℤ energy_of r) rows in omega (arith, ints, one)

energy-split : (q : Row → Bool) (r : Row) (rows : List Row) (b : Bool) → q r ≡ b → energy_sum (filter q rows) +ℤ energy_sum (filter (λ r. not (q r)) rows) ≡ energy_sum rows
    → energy_sum (cond b (r ∷ filter q rows) (filter q rows)) +ℤ energy_sum (cond (not b) (r ∷ filter (λ r. not (q r)) rows) (filter (λ r. not (q r)) rows)) ≡ energy_sum (r ∷ rows)
energy-split q r rows true is rest = let one = energy-cons r (filter q rows) in let two = energy-cons r rows in omega (arith, ints, one, two, rest)
energy-split q r rows false is rest = let one = energy-cons r (filter (λ r. not (q r)) rows) in let two = energy-cons r rows in omega (arith, ints, one, two, rest)

energy-both : (q : Row → Bool) (rows : List Row) → energy_sum (filter q rows) +ℤ energy_sum (filter (λ r. not (q r)) rows) ≡ energy_sum rows
unfolding energy_sum
energy-both q [] = refl
energy-both q (r ∷ rows) = energy-split q r rows (q r) refl (energy-both q rows)

energy-less : (q : Row → Bool) (rows : List Row) → fold (λ e r. e +ℤ energy_of r) (pos 0) rows -ℤ fold (λ e r. e +ℤ energy_of r) (pos 0) (filter q rows) ≡ fold (λ e r. e +ℤ energy_of r) (pos 0) (filter (λ r. not (q r)) rows)
unfolding energy_sum
energy-less q rows = let both = energy-both q rows in omega (arith, ints, both)

-- a part of the rows has no more of each
pub record IsPart (s part : Sums) : Type 0 where
  pub rows : part.rows ≤ s.rows
  pub squares : part.squares ≤ s.squares
  pub fourths : part.fourths ≤ s.fourths

pub part-less : (q : Row → Bool) (rows : List Row) → IsPart (sums_of rows) (sums_of (filter q rows))
part-less q rows = record {
  rows = omega (arith, length-filter_both q (λ r. not (q r)) (λ _. refl) rows);
  squares = omega (arith, sum_by-filter_both q (λ r. not (q r)) (λ _. refl) square_of rows);
  fourths = omega (arith, sum_by-filter_both q (λ r. not (q r)) (λ _. refl) fourth_of rows);
}

less : (a b c : ℕ) → a + b ≡ c → c - a ≡ b
less a b c e = omega (arith, e)

pub without-told : (q : Row → Bool) (rows : List Row) → sums_without (sums_of rows) (sums_of (filter q rows)) ≡ sums_of (filter (λ r. not (q r)) rows)
without-told q rows = rw (
  less _ _ _ (length-filter_both q (λ r. not (q r)) (λ _. refl) rows),
  energy-less q rows,
  less _ _ _ (sum_by-filter_both q (λ r. not (q r)) (λ _. refl) square_of rows),
  less _ _ _ (sum_by-filter_both q (λ r. not (q r)) (λ _. refl) fourth_of rows),
) refl

-- the part of a block and the sums of its slot, as the tables have them
pub part-within : (slots blocks slot block : ℕ) → slot < slots → block < blocks → slot * blocks + block < slots * blocks
part-within slots blocks slot block p q = rw (mul_comm slots blocks) (mul-add-lt slot blocks block slots p q)

-- the sums of a slot and of one of its blocks, as they are read from the tables
pub record SlotSums (a : Inside) (slot block : ℕ) (total part : Sums) : Type 0 where
  pub less : IsPart total part
  pub told : sums_without total part ≡ sums_of (rows_without (averages_view a) slot block)

pub slot-sums : (a : Inside) (slot block : ℕ) (total part : Sums) → KeepsAverages a → slot < a.header.slots → block < a.blocks → total ≡ get_or a.totals slot total → part ≡ get_or a.parts (slot * a.blocks + block) part
    → SlotSums a slot block total part
slot-sums a slot block total part keeps below within first second =
    let view = averages_view a in
    let q = λ (r : Row). block_of a.header.samples a.blocks r.sample == block in
    let one : total ≡ sums_of (slot_rows view slot) = first ∙ total-told view a.totals slot total keeps.fit (omega (arith, keeps.slots, below)) keeps.totals_told in
    let two : part ≡ sums_of (filter q (slot_rows view slot)) = second ∙ part-told view a.parts slot block part keeps.fit within (rw keeps.cells (part-within a.header.slots a.blocks slot block below within)) keeps.parts_told in
    record {
      less = subst (λ (s : Sums). IsPart s part) (sym one) (subst (λ (s : Sums). IsPart (sums_of (slot_rows view slot)) s) (sym two) (part-less q (slot_rows view slot)));
      told = ap (λ (s : Sums). sums_without s part) one ∙ ap (λ (s : Sums). sums_without (sums_of (slot_rows view slot)) s) two ∙ without-told q (slot_rows view slot);
    }
