-- One row more in a table of sums.
use Rattle.std.proofs.Common.{arith, ◌≡◌, ℕ, zero, suc, ◌+◌, ◌*◌, ◌<◌, ◌≤◌, Bool, true, false, cond, List, [], ◌∷◌, ◌++◌, length, take, get_or, set, refl, sym, ap, subst, ◌∙◌, append-nil}
use Rattle.std.specs.Prelude.{ℤ, pos, ◌+ℤ◌, ◌==◌, filter, unsigned_abs}
use Rattle.std.specs.List.{AllByRecursion}
use Rattle.std.proofs.lemmas.Bool.{eqb-true, eqb-false}
use Rattle.std.proofs.lemmas.Int.{ints}
use Rattle.std.proofs.lemmas.List.{get_or-set_same, get_or-set_other, get_or_default, length_push, length-set, take_more}
use Rattle.std.proofs.lemmas.List.Elements.{filter-append}
use Rattle.std.proofs.lemmas.List.Sums.{fold_push, sum_by_push}
use Rattle.sample_average.specs.declared.header.Header.{Header}
use Rattle.sample_average.specs.declared.row.Row.{Row}
use Rattle.sample_average.specs.declared.sums.Sums.{Sums}
use Rattle.sample_average.specs.LawfulReport.{IsLawfulHeader, sites}
use Rattle.sample_average.specs.Averages.{sums_of, energy_of, square_of, fourth_of}
use Rattle.sample_average.specs.Tallies.{Tallies, AreSmall, IsRowOfReport, sums_after, cell_of}
use Rattle.sample_average.proofs.StepLaws.{sites-few}
use Rattle.sample_average.proofs.Powers.{square_few, fourth_few}

sums-push : (rows : List Row) (r : Row) → sums_of (rows ++ r ∷ []) ≡ sums_after (sums_of rows) r
sums-push rows r = rw (length_push rows r, fold_push (λ e r. e +ℤ energy_of r) (pos 0) rows r, sum_by_push square_of rows r, sum_by_push fourth_of rows r) refl

-- the numbers of a row that bound the sums
pub record IsModest (r : Row) : Type 0 where
  pub first : unsigned_abs r.first_energy ≤ 786432
  pub second : unsigned_abs r.second_energy ≤ 786432
  pub overlap : unsigned_abs r.overlap ≤ 262144

energy-few : (e f : ℤ) → unsigned_abs e ≤ 786432 → unsigned_abs f ≤ 786432 → unsigned_abs (e +ℤ f) ≤ 2097152
energy-few e f a b = omega (arith, ints, a, b)

energy-more : (e f : ℤ) (n : ℕ) → unsigned_abs e ≤ 2097152 * n → unsigned_abs f ≤ 2097152 → unsigned_abs (e +ℤ f) ≤ 2097152 * (n + 1)
energy-more e f n a b = omega (arith, ints, a, b)

small-after : (n : ℕ) (s : Sums) (r : Row) → IsModest r → AreSmall n s → AreSmall (n + 1) (sums_after s r)
small-after n s r modest small =
    let square : square_of r ≤ 68719476736 = square_few (unsigned_abs r.overlap) modest.overlap in
    let fourth : fourth_of r ≤ 4722366482869645213696 = fourth_few (square_of r) square in
    record {
      few = omega (arith, small.few);
      energy = energy-more s.energy (energy_of r) n small.energy (energy-few r.first_energy r.second_energy modest.first modest.second);
      squares = omega (arith, small.squares, square);
      fourths = omega (arith, small.fourths, fourth);
    }

small-later : (n : ℕ) (s : Sums) → AreSmall n s → AreSmall (n + 1) s
small-later n s small = record { few = omega (arith, small.few); energy = omega (arith, small.energy); squares = omega (arith, small.squares); fourths = omega (arith, small.fourths) }

-- a filter of one row more
filtered : (p : Row → Bool) (rows : List Row) (r : Row) (b : Bool) → p r ≡ b → sums_of (filter p (rows ++ r ∷ [])) ≡ cond b (sums_after (sums_of (filter p rows)) r) (sums_of (filter p rows))
filtered p rows r true is = ap sums_of (filter-append p rows (r ∷ []) ∙ ap (λ (b : Bool). filter p rows ++ cond b (r ∷ []) []) is) ∙ sums-push (filter p rows) r
filtered p rows r false is = ap sums_of (filter-append p rows (r ∷ []) ∙ ap (λ (b : Bool). filter p rows ++ cond b (r ∷ []) []) is ∙ append-nil (filter p rows))

told-by : (table : List Sums) (cell j : ℕ) (p : Row → Bool) (rows : List Row) (r : Row) (next d : Sums) (b : Bool) → p r ≡ b → (cell == j) ≡ b → cell < length table → next ≡ sums_after (get_or table cell d) r
    → get_or table j d ≡ sums_of (filter p rows) → get_or (set table cell next) j d ≡ sums_of (filter p (rows ++ r ∷ []))
told-by table cell j p rows r next d true is at within made told =
    let e : cell ≡ j = eqb-true cell j at in
    ap (λ (k : ℕ). get_or (set table cell next) k d) (sym e) ∙ get_or-set_same table cell next d within ∙ made
    ∙ ap (λ (s : Sums). sums_after s r) (ap (λ (k : ℕ). get_or table k d) e ∙ told) ∙ sym (filtered p rows r true is)
told-by table cell j p rows r next d false is at within made told =
    get_or-set_other table cell j next d (λ e. eqb-false cell j at (sym e)) ∙ told ∙ sym (filtered p rows r false is)

small-by : (table : List Sums) (cell j n : ℕ) (r : Row) (next d : Sums) (b : Bool) → (cell == j) ≡ b → cell < length table → next ≡ sums_after (get_or table cell d) r → IsModest r
    → AreSmall n (get_or table j d) → AreSmall (n + 1) (get_or (set table cell next) j d)
small-by table cell j n r next d true at within made modest small =
    let e : cell ≡ j = eqb-true cell j at in
    subst (AreSmall (n + 1)) (ap (λ (k : ℕ). sums_after (get_or table k d) r) (sym e) ∙ sym made ∙ sym (get_or-set_same table cell next d within) ∙ ap (λ (k : ℕ). get_or (set table cell next) k d) e)
    (small-after n (get_or table j d) r modest small)
small-by table cell j n r next d false at within made modest small =
    subst (AreSmall (n + 1)) (sym (get_or-set_other table cell j next d (λ e. eqb-false cell j at (sym e)))) (small-later n (get_or table j d) small)

pub tally-more : (samples blocks : ℕ) (table : List Sums) (rows all : List Row) (r : Row) (next : Sums) → cell_of samples blocks r < length table → ((d : Sums) → next ≡ sums_after (get_or table (cell_of samples blocks r) d) r) → IsModest r
    → all ≡ rows ++ r ∷ [] → Tallies samples blocks table rows → Tallies samples blocks (set table (cell_of samples blocks r) next) all
tally-more samples blocks table rows all r next within made modest is t =
    let cell = cell_of samples blocks r in
    subst (Tallies samples blocks (set table cell next)) (sym is) (record {
      told = λ (j : ℕ) (d : Sums) (below : j < length (set table cell next)).
          told-by table cell j (λ r. cell_of samples blocks r == j) rows r next d (cell == j) refl refl within (made d) (t.told j d (rw (length-set table cell next) at below));
      small = λ (j : ℕ) (d : Sums) (below : j < length (set table cell next)).
          subst (λ (n : ℕ). AreSmall n (get_or (set table cell next) j d)) (sym (length_push rows r))
          (small-by table cell j (length rows) r next d (cell == j) refl within (made d) modest (t.small j d (rw (length-set table cell next) at below)));
    })

-- ---- as the code reads

abbrev pub zero_row : Row
zero_row = record { epoch = 0; sample = 0; slot = 0; first_energy = pos 0; second_energy = pos 0; overlap = pos 0; first_replica = 0; second_replica = 0 }

abbrev pub zero_sums : Sums
zero_sums = record { rows = 0; energy = pos 0; squares = 0; fourths = 0 }

pub all-at : {X : Type 0} (P : X → Type 0) (xs : List X) (i : ℕ) (d : X) → AllByRecursion P xs → i < length xs → P (get_or xs i d)
all-at P [] i d all within = absurd (omega (arith, within))
all-at P (x ∷ xs) zero d all within = all.0
all-at P (x ∷ xs) (suc i) d all within = all-at P xs i d all.1 (omega (arith, within))

modest : (h : Header) (r : Row) → IsLawfulHeader h → IsRowOfReport h r → IsModest r
modest h r lawful is =
    let few : sites h ≤ 262144 = sites-few h lawful.most in
    record { first = omega (arith, few, is.range.first_energy); second = omega (arith, few, is.range.second_energy); overlap = omega (arith, few, is.range.overlap) }

pub tally-next : (h : Header) (blocks : ℕ) (rows : List Row) (i : ℕ) (table : List Sums) (cell : ℕ) (next : Sums) → IsLawfulHeader h → AllByRecursion (IsRowOfReport h) rows → i < length rows
    → cell ≡ cell_of h.samples blocks (get_or rows i zero_row) → cell < length table → next ≡ sums_after (get_or table cell zero_sums) (get_or rows i zero_row) → Tallies h.samples blocks table (take i rows)
    → Tallies h.samples blocks (set table cell next) (take (i + 1) rows)
tally-next h blocks rows i table cell next lawful all within at below made t =
    let r = get_or rows i zero_row in
    let made_at : (d : Sums) → next ≡ sums_after (get_or table (cell_of h.samples blocks r) d) r = λ (d : Sums).
    made ∙ ap (λ (s : Sums). sums_after s r) (get_or_default table cell zero_sums d below ∙ ap (λ (k : ℕ). get_or table k d) at) in
    subst (λ (k : ℕ). Tallies h.samples blocks (set table k next) (take (i + 1) rows)) (sym at)
    (tally-more h.samples blocks table (take i rows) (take (i + 1) rows) r next (subst (λ (k : ℕ). k < length table) at below) made_at (modest h r lawful (all-at (IsRowOfReport h) rows i zero_row all within)) (take_more rows i zero_row within) t)
