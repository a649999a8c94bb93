-- How far a report has been read.
use Rattle.std.proofs.Common.{arith, ◌≡◌, ℕ, ◌+◌, ◌<◌, ◌≤◌, List, [], ◌∷◌, ◌++◌, length, take, refl, sym, ap, subst, ◌∙◌, append_assoc, append-nil, length-append}
use Rattle.std.specs.Prelude.{Option, Some, None}
use Rattle.std.specs.List.{concat}
use Rattle.std.proofs.lemmas.List.{append_cancel_right}
use Rattle.sample_average.specs.declared.header.Header.{Header}
use Rattle.sample_average.specs.declared.row.Row.{Row}
use Rattle.sample_average.specs.declared.place.Place.{Place}
use Rattle.sample_average.specs.declared.place.Place.TheVariants as places
use Rattle.sample_average.specs.declared.place.Step.{Step}
use Rattle.sample_average.specs.LawfulReport.{Report, IsLawfulHeader, Spells, header_line, report_lines, rows_of, lines}
use Rattle.sample_average.specs.LineReading.{header_at}
use Rattle.sample_average.specs.Following.{FitsPlace, Follows, line_at, row_then}
use Rattle.sample_average.proofs.LineLaws.{header-again, header-takes}
use Rattle.sample_average.proofs.Lines.{IsLine, lines-line, header-line}
use Rattle.sample_average.proofs.StepLaws.{takes}
use Rattle.sample_average.proofs.Agains.{again}
use Rattle.sample_average.proofs.Completing.{parts}
use Rattle.std.proofs.lemmas.Option.{same_Some}

-- these lines are read, the rows among them are seen, and what may follow them is what may follow at this place
pub record Progress (h : Header) (bytes : List ℕ) (place : Place) (rest : List ℕ) (line : ℕ) (seen : List Row) : Type 0 where
  pub consumed : List (List ℕ)
  pub cut : lines bytes ≡ header_line h ∷ (consumed ++ lines rest)
  pub count : line ≡ length consumed + 1
  pub fits : FitsPlace h place
  pub to : (ls : List (List ℕ)) (rows : List Row) → Follows h place ls rows → Follows h (places.Between h.from) (consumed ++ ls) (seen ++ rows)
  pub from : (ls : List (List ℕ)) (rows : List Row) → Follows h (places.Between h.from) (consumed ++ ls) rows → (others : List Row) × (rows ≡ seen ++ others) × Follows h place ls others

pub progress-first : (h : Header) (bytes rest : List ℕ) → IsLawfulHeader h → header_at bytes ≡ Some (h, rest) → Progress h bytes (places.Between h.from) rest 1 []
progress-first h bytes rest lawful is =
    let t = header-takes bytes (h, rest) is in
    record {
      consumed = [];
      cut = ap lines t.0 ∙ lines-line (header_line h) rest (header-line h lawful);
      count = refl;
      fits = tt;
      to = λ (ls : List (List ℕ)) (rows : List Row) (f : Follows h (places.Between h.from) ls rows). f;
      from = λ (ls : List (List ℕ)) (rows : List Row) (f : Follows h (places.Between h.from) ls rows). (rows, refl, f);
    }

then-append : (seen rows : List Row) (row : Option Row) → (seen ++ row_then row []) ++ rows ≡ seen ++ row_then row rows
then-append seen rows None = ap (λ (xs : List Row). xs ++ rows) (append-nil seen)
then-append seen rows (Some r) = append_assoc seen (r ∷ []) rows

-- the step that was read is the step of the line
record Goes (h : Header) (step : Step) (ls : List (List ℕ)) (rows : List Row) : Type 0 where
  others : List Row
  all : rows ≡ row_then step.row others
  later : Follows h step.place ls others

goes : (h : Header) (place : Place) (bytes line : List ℕ) (x : Step × List ℕ) (ls : List (List ℕ)) (rows : List Row) → IsLawfulHeader h → FitsPlace h place → line_at h place bytes ≡ Some x → bytes ≡ line ++ x.1
    → Follows h place (line ∷ ls) rows → Goes h x.0 ls rows
goes h place bytes line x ls rows lawful fits is text f =
    let a = again h place line ls rows lawful fits f in
    let same : (a.step, x.1) ≡ x = same_Some (a.step, x.1) x (sym (a.read x.1) ∙ ap (line_at h place) (sym text) ∙ is) in
    subst (λ (y : Step × List ℕ). Goes h y.0 ls rows) same (record { others = a.others; all = a.all; later = a.later })

pub progress-more : (h : Header) (bytes : List ℕ) (place : Place) (rest : List ℕ) (line : ℕ) (seen : List Row) (x : Step × List ℕ) → IsLawfulHeader h → Progress h bytes place rest line seen → line_at h place rest ≡ Some x
    → Progress h bytes x.0.place x.1 (line + 1) (seen ++ row_then x.0.row [])
progress-more h bytes place rest line seen x lawful p is =
    let t = takes h place rest x lawful p.fits is in
    let joined : (ls : List (List ℕ)) → (p.consumed ++ t.line ∷ []) ++ ls ≡ p.consumed ++ (t.line ∷ ls) = λ (ls : List (List ℕ)). append_assoc p.consumed (t.line ∷ []) ls in
    record {
      consumed = p.consumed ++ t.line ∷ [];
      cut = p.cut ∙ ap (λ (xs : List (List ℕ)). header_line h ∷ (p.consumed ++ xs)) (ap lines t.text ∙ lines-line t.line x.1 t.whole) ∙ ap (λ (xs : List (List ℕ)). header_line h ∷ xs) (sym (joined (lines x.1)));
      count = omega (arith, p.count, length-append p.consumed (t.line ∷ []));
      fits = t.fits;
      to = λ (ls : List (List ℕ)) (rows : List Row) (f : Follows h x.0.place ls rows).
          subst (λ (xs : List (List ℕ)). Follows h (places.Between h.from) xs ((seen ++ row_then x.0.row []) ++ rows)) (sym (joined ls))
          (subst (λ (xs : List Row). Follows h (places.Between h.from) (p.consumed ++ (t.line ∷ ls)) xs) (sym (then-append seen rows x.0.row)) (p.to (t.line ∷ ls) (row_then x.0.row rows) (t.follows ls rows f)));
      from = λ (ls : List (List ℕ)) (rows : List Row) (f : Follows h (places.Between h.from) ((p.consumed ++ t.line ∷ []) ++ ls) rows).
          let q = p.from (t.line ∷ ls) rows (subst (λ (xs : List (List ℕ)). Follows h (places.Between h.from) xs rows) (joined ls) f) in
          let g = goes h place rest t.line x ls q.0 lawful p.fits is t.text q.2 in
          (g.others, q.1 ∙ ap (λ (xs : List Row). seen ++ xs) g.all ∙ sym (then-append seen g.others x.0.row), g.later);
    }

-- ---- the lines of a lawful report are its lines

lines-follow : (h : Header) (place : Place) (ls : List (List ℕ)) (rows : List Row) → IsLawfulHeader h → FitsPlace h place → Follows h place ls rows → lines (concat ls) ≡ ls
unfolding lines
lines-follow h place [] rows lawful fits f = refl
lines-follow h place (line ∷ ls) rows lawful fits f =
    let a = again h place line ls rows lawful fits f in
    let t = takes h place (line ++ concat ls) (a.step, concat ls) lawful fits (a.read (concat ls)) in
    let same : line ≡ t.line = append_cancel_right line t.line (concat ls) t.text in
    lines-line line (concat ls) (subst IsLine (sym same) t.whole) ∙ ap (λ (xs : List (List ℕ)). line ∷ xs) (lines-follow h a.step.place ls a.others lawful t.fits a.later)

pub lines-spelled : (bytes : List ℕ) (r : Report) → Spells bytes r → lines bytes ≡ report_lines r
lines-spelled bytes r s =
    ap lines s.text ∙ lines-line (header_line r.header) _ (header-line r.header s.lawful.header)
    ∙ ap (λ (xs : List (List ℕ)). header_line r.header ∷ xs) (lines-follow r.header (places.Between r.header.from) _ (rows_of r) s.lawful.header tt (parts r s.lawful))

-- two headers of one text are one
pub header-same : (g h : Header) → IsLawfulHeader g → IsLawfulHeader h → header_line g ≡ header_line h → g ≡ h
header-same g h one other same =
    let e : Some (g, []) ≡ Some (h, []) = sym (header-again g [] one) ∙ ap (λ (xs : List ℕ). header_at (xs ++ [])) same ∙ header-again h [] other in
    let p : (g, []) ≡ (h, []) = same_Some _ _ e in
    ap (λ (x : Header × List ℕ). x.0) p

-- the rows that were seen are kept in the list, as far as it has places
pub record Kept (h : Header) (bytes : List ℕ) (before : List Row) (place : Place) (rest : List ℕ) (line count : ℕ) (now : List Row) : Type 0 where
  pub seen : List Row
  pub read : Progress h bytes place rest line seen
  pub number : length seen ≡ count
  pub few : count < line
  pub left : line + length rest ≤ length bytes
  pub sized : length now ≡ length before
  pub kept : count ≤ length before → take count now ≡ seen

-- each line has a byte
pub shorter : (h : Header) (place : Place) (rest : List ℕ) (x : Step × List ℕ) → IsLawfulHeader h → FitsPlace h place → line_at h place rest ≡ Some x → length x.1 < length rest
shorter h place rest x lawful fits is =
    let t = takes h place rest x lawful fits is in
    omega (arith, ap length t.text, length-append t.line x.1, ap length t.whole.text, length-append t.whole.body (10 ∷ []))

one-row : (row : Option Row) → length (row_then row []) ≤ 1
one-row None = omega arith
one-row (Some r) = omega arith

pub kept-first : (h : Header) (bytes : List ℕ) (before : List Row) (rest : List ℕ) → IsLawfulHeader h → header_at bytes ≡ Some (h, rest) → 1 + length rest ≤ length bytes → Kept h bytes before (places.Between h.from) rest 1 0 before
kept-first h bytes before rest lawful is short = record {
  seen = [];
  read = progress-first h bytes rest lawful is;
  number = refl;
  few = omega arith;
  left = short;
  sized = refl;
  kept = λ (few : 0 ≤ length before). refl;
}

-- one line more
pub kept-more : (h : Header) (bytes : List ℕ) (before : List Row) (place : Place) (rest : List ℕ) (line count : ℕ) (now : List Row) (x : Step × List ℕ) (next : ℕ) (after : List Row) → IsLawfulHeader h
    → Kept h bytes before place rest line count now → line_at h place rest ≡ Some x → next ≡ count + length (row_then x.0.row []) → length after ≡ length now
    → ((seen : List Row) → length seen ≡ count → (count ≤ length now → take count now ≡ seen) → next ≤ length now → take next after ≡ seen ++ row_then x.0.row [])
    → Kept h bytes before x.0.place x.1 (line + 1) next after
kept-more h bytes before place rest line count now x next after lawful k is number sized kept = record {
  seen = k.seen ++ row_then x.0.row [];
  read = progress-more h bytes place rest line k.seen x lawful k.read is;
  number = omega (arith, length-append k.seen (row_then x.0.row []), k.number, number);
  few = omega (arith, number, one-row x.0.row, k.few);
  left = omega (arith, k.left, shorter h place rest x lawful k.read.fits is);
  sized = sized ∙ k.sized;
  kept = λ (few : next ≤ length before). kept k.seen k.number (λ (le : count ≤ length now). k.kept (rw (← k.sized) le)) (rw k.sized few);
}
