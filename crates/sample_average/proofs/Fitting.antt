-- Each row of a lawful report is of one of its samples and slots.
use Rattle.std.proofs.Common.{arith, ℕ, ◌+◌, ◌/◌, ◌%◌, ◌<◌, ◌≤◌, List, [], ◌∷◌, ◌++◌, length, subst}
use Rattle.std.specs.Prelude.{flat_map}
use Rattle.std.specs.List.{AllByRecursion}
use Rattle.std.proofs.Math.Nat.{mod-lt, div-lt_iff_lt-mul}
use Rattle.sample_average.specs.declared.header.Header.{Header}
use Rattle.sample_average.specs.declared.row.Row.{Row}
use Rattle.sample_average.specs.LawfulReport.{IsLawfulHeader, IsRowOf, AreRowsFrom, AreGroups, IsReading, pairs, rows_of}
use Rattle.sample_average.specs.Tallies.{IsRowOfReport}

row-fit : (h : Header) (e pair : ℕ) (r : Row) → IsLawfulHeader h → pair < pairs h → IsRowOf h e pair r → IsRowOfReport h r
row-fit h e pair r lawful within is =
    let below : pair / h.slots < h.samples = (div-lt_iff_lt-mul (omega (arith, lawful.some_slots))).1 within in
    let rest : pair % h.slots < h.slots = mod-lt pair (omega (arith, lawful.some_slots)) in
    record { sample = omega (arith, is.of_sample, below); slot = omega (arith, is.of_slot, rest); range = is.range }

group-fit : (h : Header) (e pair : ℕ) (rows : List Row) → IsLawfulHeader h → pair + length rows ≤ pairs h → AreRowsFrom h e pair rows → AllByRecursion (IsRowOfReport h) rows
group-fit h e pair [] lawful within order = tt
group-fit h e pair (r ∷ rows) lawful within order = (row-fit h e pair r lawful (omega (arith, within)) order.0, group-fit h e (pair + 1) rows lawful (omega (arith, within)) order.1)

pub all-append : {X : Type 0} (P : X → Type 0) (xs ys : List X) → AllByRecursion P xs → AllByRecursion P ys → AllByRecursion P (xs ++ ys)
all-append P [] ys p q = q
all-append P (x ∷ xs) ys p q = (p.0, all-append P xs ys p.1 q)

groups-fit : (h : Header) (least : ℕ) (groups : List (List Row)) → IsLawfulHeader h → AreGroups h least groups → AllByRecursion (IsRowOfReport h) (flat_map (λ rows. rows) groups)
groups-fit h least [] lawful are = tt
groups-fit h least (g ∷ gs) lawful are =
    all-append (IsRowOfReport h) g (flat_map (λ rows. rows) gs) (group-fit h are.0 0 g lawful (omega (arith, are.3.whole)) are.3.in_order) (groups-fit h (are.0 + 1) gs lawful are.4)

pub reading-fit : (bytes : List ℕ) (h : Header) (rows : List Row) → IsReading bytes h rows → AllByRecursion (IsRowOfReport h) rows
reading-fit bytes h rows r =
    let fit = groups-fit r.report.header r.report.header.from r.report.groups r.spelled.lawful.header r.spelled.lawful.groups in
    subst (λ (xs : List Row). AllByRecursion (IsRowOfReport h) xs) r.its_rows (subst (λ (g : Header). AllByRecursion (IsRowOfReport g) (rows_of r.report)) r.its_header fit)
