-- The first wrong line of a text, and a text that is a whole report.
use Rattle.std.proofs.Common.{arith, ◌≡◌, ℕ, ◌+◌, ◌<◌, ◌≤◌, true, false, List, [], ◌∷◌, ◌++◌, length, take, drop, refl, sym, ap, subst, ◌∙◌, append_assoc, append-nil, length-append}
use Rattle.std.specs.Prelude.{Some, None}
use Rattle.std.specs.List.{concat}
use Rattle.std.proofs.lemmas.List.{take_at, take-append-le, take-append-drop, length_push}
use Rattle.sample_average.specs.declared.header.Header.{Header}
use Rattle.sample_average.specs.declared.row.Row.{Row}
use Rattle.sample_average.specs.declared.place.Place.{Place}
use Rattle.sample_average.specs.declared.place.Place.TheVariants as places
use Rattle.sample_average.specs.LawfulReport.{Report, IsLawful, IsLawfulHeader, Spells, Begins, IsWrongAt, IsReading, header_line, report_lines, rows_of, lines}
use Rattle.sample_average.specs.LineReading.{header_at}
use Rattle.sample_average.specs.Following.{Follows, line_at, may_end, rest_lines, is_lawful}
use Rattle.sample_average.proofs.LineLaws.{header-again}
use Rattle.sample_average.proofs.Lines.{concat-lines}
use Rattle.sample_average.proofs.Agains.{again}
use Rattle.sample_average.proofs.Completing.{complete, ends, no-end, no-rows, whole, parts}
use Rattle.sample_average.proofs.HeaderTests.{passes}
use Rattle.sample_average.proofs.Progress.{Progress, header-same, lines-spelled}
use Rattle.std.proofs.lemmas.Option.{same_Some}
use Rattle.std.proofs.lemmas.Bool.{both_ways}

-- a lawful report that begins with the lines that were read goes on as may follow here
record Reaches (h : Header) (place : Place) (seen : List Row) (more : List (List ℕ)) (r : Report) : Type 0 where
  same : r.header ≡ h
  others : List Row
  all : rows_of r ≡ seen ++ others
  later : Follows h place more others

reaches : (h : Header) (bytes : List ℕ) (place : Place) (rest : List ℕ) (line : ℕ) (seen : List Row) (r : Report) (more : List (List ℕ)) → IsLawfulHeader h → (p : Progress h bytes place rest line seen) → IsLawful r
    → report_lines r ≡ header_line h ∷ (p.consumed ++ more) → Reaches h place seen more r
reaches h bytes place rest line seen r more lawful p whole text =
    let first : header_line r.header ≡ header_line h = cc in
    let behind : rest_lines r.header (rows_of r) r.spins ≡ p.consumed ++ more = cc in
    let same = header-same r.header h whole.header lawful first in
    let f = subst (λ (g : Header). Follows g (places.Between g.from) (rest_lines r.header (rows_of r) r.spins) (rows_of r)) same (parts r whole) in
    let q = p.from more (rows_of r) (subst (λ (xs : List (List ℕ)). Follows h (places.Between h.from) xs (rows_of r)) behind f) in
    record { same = same; others = q.0; all = q.1; later = q.2 }

none-some : {A : Type 0} (x : A) → None ≡ Some x → ⊥
none-some x is = absurd cc

-- the next line may not stand here
stuck : (h : Header) (place : Place) (rest l : List ℕ) (ls more : List (List ℕ)) (rows : List Row) (bytes : List ℕ) (line : ℕ) (seen : List Row) → IsLawfulHeader h → Progress h bytes place rest line seen
    → line_at h place rest ≡ None → lines rest ≡ l ∷ ls → Follows h place (l ∷ more) rows → ⊥
stuck h place rest l ls more rows bytes line seen lawful p none text f =
    let a = again h place l more rows lawful p.fits f in
    let cut : rest ≡ l ++ concat ls = sym (concat-lines rest) ∙ ap concat text in
    none-some (a.step, concat ls) (sym none ∙ ap (line_at h place) cut ∙ a.read (concat ls))

unlawful-by : (h : Header) (bytes : List ℕ) (place : Place) (rest : List ℕ) (line : ℕ) (seen : List Row) (others : List Row) (text : List (List ℕ)) → IsLawfulHeader h → Progress h bytes place rest line seen → line_at h place rest ≡ None
    → (rest ≡ [] → may_end h place ≡ false) → lines rest ≡ text → Follows h place text others → ⊥
unlawful-by h bytes place rest line seen others [] lawful p none shut is f = no-end h place others (shut (sym (concat-lines rest) ∙ ap concat is)) f
unlawful-by h bytes place rest line seen others (l ∷ ls) lawful p none shut is f = stuck h place rest l ls ls others bytes line seen lawful p none is f

unlawful : (h : Header) (bytes : List ℕ) (place : Place) (rest : List ℕ) (line : ℕ) (seen : List Row) → IsLawfulHeader h → Progress h bytes place rest line seen → line_at h place rest ≡ None
    → (rest ≡ [] → may_end h place ≡ false) → (r : Report) → Spells bytes r → ⊥
unlawful h bytes place rest line seen lawful p none shut r s =
    let q = reaches h bytes place rest line seen r (lines rest) lawful p s.lawful (sym (lines-spelled bytes r s) ∙ p.cut) in
    unlawful-by h bytes place rest line seen q.others (lines rest) lawful p none shut refl q.later

begins-shorter : (front : List (List ℕ)) (k : ℕ) → Begins front → Begins (take k front)
begins-shorter front k b =
    (b.0, b.1, drop k front ++ b.2, b.3 ∙ ap (λ (xs : List (List ℕ)). xs ++ b.2) (sym (take-append-drop k front)) ∙ append_assoc (take k front) (drop k front) b.2)

before : (h : Header) (bytes : List ℕ) (place : Place) (rest : List ℕ) (line : ℕ) (seen : List Row) (k : ℕ) → IsLawfulHeader h → Progress h bytes place rest line seen → k < line → Begins (take (k + 1) (lines bytes))
before h bytes place rest line seen k lawful p early =
    let c = complete h place lawful p.fits in
    let w = whole h (p.consumed ++ c.0) (seen ++ c.1) lawful (p.to c.0 c.1 c.2) in
    let short : k + 1 ≤ length (header_line h ∷ p.consumed) = omega (arith, p.count, early) in
    let cut : take (k + 1) (lines bytes) ≡ take (k + 1) (header_line h ∷ p.consumed) = ap (take (k + 1)) p.cut ∙ take-append-le (k + 1) (header_line h ∷ p.consumed) (lines rest) short in
    subst Begins (sym cut) (begins-shorter (header_line h ∷ p.consumed) (k + 1) (w.report, w.lawful, c.0, w.text))

wrong-by : (h : Header) (bytes : List ℕ) (place : Place) (rest : List ℕ) (line : ℕ) (seen : List Row) (text : List (List ℕ)) → IsLawfulHeader h → (p : Progress h bytes place rest line seen) → line_at h place rest ≡ None → lines rest ≡ text
    → line < length (header_line h ∷ (p.consumed ++ text)) → Begins (take (line + 1) (header_line h ∷ (p.consumed ++ text))) → ⊥
wrong-by h bytes place rest line seen [] lawful p none is more b = absurd (omega (arith, more, p.count, length-append p.consumed []))
wrong-by h bytes place rest line seen (l ∷ ls) lawful p none is more b =
    let front = header_line h ∷ p.consumed in
    let long : length (front ++ l ∷ []) ≡ line + 1 = omega (arith, p.count, length_push front l) in
    let cut : take (line + 1) (front ++ (l ∷ ls)) ≡ front ++ l ∷ [] = ap (take (line + 1)) (sym (append_assoc front (l ∷ []) ls)) ∙ take_at (front ++ l ∷ []) ls (line + 1) long in
    let text : report_lines b.0 ≡ front ++ (l ∷ b.2) = b.3 ∙ ap (λ (xs : List (List ℕ)). xs ++ b.2) cut ∙ append_assoc front (l ∷ []) b.2 in
    let q = reaches h bytes place rest line seen b.0 (l ∷ b.2) lawful p b.1 text in
    stuck h place rest l ls b.2 q.others bytes line seen lawful p none is q.later

-- no line may stand here, and the report may not end
pub stopped : (h : Header) (bytes : List ℕ) (place : Place) (rest : List ℕ) (line : ℕ) (seen : List Row) → IsLawfulHeader h → Progress h bytes place rest line seen → line_at h place rest ≡ None → (rest ≡ [] → may_end h place ≡ false)
    → IsWrongAt bytes line
stopped h bytes place rest line seen lawful p none shut = record {
  unlawful = λ (r : Report) (s : Spells bytes r). unlawful h bytes place rest line seen lawful p none shut r s;
  first = record {
    within = omega (arith, p.count, ap length p.cut, length-append p.consumed (lines rest));
    before = λ (k : ℕ) (early : k < line). before h bytes place rest line seen k lawful p early;
    wrong = λ (more : line < length (lines bytes)) (b : Begins (take (line + 1) (lines bytes))).
        wrong-by h bytes place rest line seen (lines rest) lawful p none refl (subst (λ (xs : List (List ℕ)). line < length xs) p.cut more) (subst (λ (xs : List (List ℕ)). Begins (take (line + 1) xs)) p.cut b);
  };
}

-- the report ends here
pub finished : (h : Header) (bytes : List ℕ) (place : Place) (rest : List ℕ) (line : ℕ) (seen : List Row) → IsLawfulHeader h → Progress h bytes place rest line seen → rest ≡ [] → may_end h place ≡ true → IsReading bytes h seen
unfolding lines
finished h bytes place rest line seen lawful p done may =
    let w = whole h (p.consumed ++ []) (seen ++ []) lawful (p.to [] [] (ends h place may)) in
    let cut : lines bytes ≡ header_line h ∷ (p.consumed ++ []) = p.cut ∙ ap (λ (xs : List ℕ). header_line h ∷ (p.consumed ++ lines xs)) done in
    record {
      report = w.report;
      spelled = record { lawful = w.lawful; text = sym (concat-lines bytes) ∙ ap concat (cut ∙ sym w.text) };
      its_header = w.its_header;
      its_rows = w.its_rows ∙ append-nil seen;
      only = λ (r : Report) (s : Spells bytes r).
          let q = reaches h bytes place rest line seen r [] lawful p s.lawful (sym (lines-spelled bytes r s) ∙ cut) in
          (q.same, q.all ∙ ap (λ (xs : List Row). seen ++ xs) (no-rows h place q.others q.later) ∙ append-nil seen);
    }

-- ---- a text that begins with no lawful header

headless-by : (bytes : List ℕ) (text : List (List ℕ)) → ((h : Header) (rest : List ℕ) → IsLawfulHeader h → bytes ≡ header_line h ++ rest → ⊥) → lines bytes ≡ text → 0 < length text → Begins (take 1 text) → ⊥
headless-by bytes [] none is some b = absurd (omega (arith, some))
headless-by bytes (l ∷ ls) none is some b =
    let first : header_line b.0.header ≡ l = cc in
    none b.0.header (concat ls) b.1.header (sym (concat-lines bytes) ∙ ap concat is ∙ ap (λ (xs : List ℕ). xs ++ concat ls) (sym first))

headless : (bytes : List ℕ) → ((h : Header) (rest : List ℕ) → IsLawfulHeader h → bytes ≡ header_line h ++ rest → ⊥) → IsWrongAt bytes 0
headless bytes none = record {
  unlawful = λ (r : Report) (s : Spells bytes r). none r.header _ s.lawful.header s.text;
  first = record {
    within = omega arith;
    before = λ (k : ℕ) (early : k < 0). absurd (omega (arith, early));
    wrong = λ (more : 0 < length (lines bytes)) (b : Begins (take 1 (lines bytes))). headless-by bytes (lines bytes) none refl more b;
  };
}

pub no-header : (bytes : List ℕ) → header_at bytes ≡ None → IsWrongAt bytes 0
no-header bytes none = headless bytes (λ (h : Header) (rest : List ℕ) (lawful : IsLawfulHeader h) (text : bytes ≡ header_line h ++ rest).
    none-some (h, rest) (sym none ∙ ap header_at text ∙ header-again h rest lawful))

pub bad-header : (bytes : List ℕ) (x : Header × List ℕ) → header_at bytes ≡ Some x → is_lawful x.0 ≡ false → IsWrongAt bytes 0
bad-header bytes x is bad = headless bytes (λ (h : Header) (rest : List ℕ) (lawful : IsLawfulHeader h) (text : bytes ≡ header_line h ++ rest).
    let same : (h, rest) ≡ x = same_Some (h, rest) x (sym (header-again h rest lawful) ∙ ap header_at (sym text) ∙ is) in
    both_ways (is_lawful x.0) bad (subst (λ (y : Header × List ℕ). is_lawful y.0 ≡ true) same (passes h lawful)))
