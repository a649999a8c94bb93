-- What the function of the bytes reads is the report of the definitions, and there is only one.
use Rattle.std.proofs.Common.{arith, ◌≡◌, ℕ, zero, suc, ◌+◌, ◌<◌, ◌≤◌, Bool, true, false, cond, List, [], ◌∷◌, ◌++◌, length, refl, sym, ap, ◌∙◌}
use Rattle.std.specs.Prelude.{Option, Some, None, Result, Ok, Err, IfOk, IfErr, nat_lt}
use Rattle.glass_edges.specs.Refusals.{Gives}
use Rattle.std.proofs.lemmas.Bool.{ltb-true, ltb-false}
use Rattle.sample_average.specs.declared.header.Header.{Header}
use Rattle.sample_average.specs.declared.row.Row.{Row}
use Rattle.sample_average.specs.declared.place.Place.{Place}
use Rattle.sample_average.specs.declared.place.Place.TheVariants as places
use Rattle.sample_average.specs.declared.place.Step.{Step}
use Rattle.sample_average.specs.declared.refused.ReportRefused.{ReportRefused}
use Rattle.sample_average.specs.declared.refused.ReportRefused.TheVariants as refused
use Rattle.sample_average.specs.LawfulReport.{IsLawfulHeader, IsFirstWrong, IsReading, IsWrongAt, lines}
use Rattle.sample_average.specs.LineReading.{header_at}
use Rattle.sample_average.specs.Following.{line_at, may_end, is_lawful, row_then}
use Rattle.sample_average.specs.Averages.{AveragesView, IsRefusal}
use Rattle.sample_average.specs.ReadReport.{line_or, rows_at_end, rows_from, rows_behind, with_header, report_behind, report_in, averaged, averages_in, IsOfReport}
use Rattle.sample_average.proofs.HeaderTests.{tested}
use Rattle.sample_average.proofs.Progress.{Progress, progress-first, progress-more, shorter}
use Rattle.sample_average.proofs.WrongLine.{stopped, finished, no-header, bad-header}

-- rows that are those of the report, or a line that is its first wrong one
abbrev AreRead : List ℕ → Header → Result (List Row) ℕ → Type 0
AreRead bytes h (Ok rows) = IsReading bytes h rows
AreRead bytes h (Err line) = IsWrongAt bytes line

-- the bytes end at a place where no line may stand
at-end : (h : Header) (bytes : List ℕ) (place : Place) (line : ℕ) (seen : List Row) (t : Bool) → IsLawfulHeader h → Progress h bytes place [] line seen → line_at h place [] ≡ None → may_end h place ≡ t
    → AreRead bytes h (cond t (Ok seen) (Err line))
at-end h bytes place line seen true lawful p none may = finished h bytes place [] line seen lawful p refl may
at-end h bytes place line seen false lawful p none may = stopped h bytes place [] line seen lawful p none (λ (e : [] ≡ []). may)

stops : (h : Header) (bytes : List ℕ) (place : Place) (rest : List ℕ) (line : ℕ) (seen : List Row) → IsLawfulHeader h → Progress h bytes place rest line seen → line_at h place rest ≡ None
    → AreRead bytes h (rows_at_end h place line seen rest)
stops h bytes place [] line seen lawful p none = at-end h bytes place line seen (may_end h place) lawful p none refl
stops h bytes place (b ∷ rest) line seen lawful p none = stopped h bytes place (b ∷ rest) line seen lawful p none (λ (e : b ∷ rest ≡ []). absurd cc)

-- one line, and those behind it
line-read : (most : ℕ) (h : Header) (bytes : List ℕ) (place : Place) (rest : List ℕ) (line : ℕ) (seen : List Row) (o : Option (Step × List ℕ)) → line_at h place rest ≡ o → IsLawfulHeader h → Progress h bytes place rest line seen
    → ((x : Step × List ℕ) → line_at h place rest ≡ Some x → AreRead bytes h (rows_from most h x.0.place (line + 1) (seen ++ row_then x.0.row []) x.1))
    → AreRead bytes h (line_or o (rows_at_end h place line seen rest) (λ x. rows_from most h x.0.place (line + 1) (seen ++ row_then x.0.row []) x.1))
line-read most h bytes place rest line seen None is lawful p later = stops h bytes place rest line seen lawful p is
line-read most h bytes place rest line seen (Some x) is lawful p later = later x is

lines-read : (most : ℕ) (h : Header) (bytes : List ℕ) (place : Place) (rest : List ℕ) (line : ℕ) (seen : List Row) → IsLawfulHeader h → Progress h bytes place rest line seen → length rest < most
    → AreRead bytes h (rows_from most h place line seen rest)
unfolding rows_from
lines-read zero h bytes place rest line seen lawful p few = absurd (omega (arith, few))
lines-read (suc most) h bytes place rest line seen lawful p few =
    line-read most h bytes place rest line seen (line_at h place rest) refl lawful p (λ (x : Step × List ℕ) (is : line_at h place rest ≡ Some x).
    let less : length x.1 < length rest = shorter h place rest x lawful p.fits is in
    lines-read most h bytes x.0.place x.1 (line + 1) (seen ++ row_then x.0.row []) lawful (progress-more h bytes place rest line seen x lawful p is) (omega (arith, few, less)))

-- ---- the whole report

abbrev IsRead : List ℕ → Result (Header × List Row) ℕ → Type 0
IsRead bytes (Ok x) = IsReading bytes x.0 x.1
IsRead bytes (Err line) = IsWrongAt bytes line

headed : (bytes : List ℕ) (h : Header) (r : Result (List Row) ℕ) → AreRead bytes h r → IsRead bytes (with_header h r)
headed bytes h (Ok rows) is = is
headed bytes h (Err line) is = is

behind-read : (bytes : List ℕ) (x : Header × List ℕ) (t : Bool) → is_lawful x.0 ≡ t → header_at bytes ≡ Some x → IsRead bytes (cond t (with_header x.0 (rows_behind x.0 x.1)) (Err 0))
behind-read bytes x true good is =
    let lawful = tested x.0 good in
    headed bytes x.0 (rows_behind x.0 x.1) (lines-read (length x.1 + 1) x.0 bytes (places.Between x.0.from) x.1 1 [] lawful (progress-first x.0 bytes x.1 lawful is) (omega arith))
behind-read bytes x false bad is = bad-header bytes x is bad

whole-read : (bytes : List ℕ) (o : Option (Header × List ℕ)) → header_at bytes ≡ o → IsRead bytes (report_behind o)
whole-read bytes None is = no-header bytes is
whole-read bytes (Some x) is = behind-read bytes x (is_lawful x.0) refl is

pub report-read : (bytes : List ℕ) → IsRead bytes (report_in bytes)
unfolding report_in
report-read bytes = whole-read bytes (header_at bytes) refl

-- ---- its averages

enough-read : (bytes : List ℕ) (blocks : ℕ) (x : Header × List Row) (t : Bool) → nat_lt x.0.samples blocks ≡ t → IsReading bytes x.0 x.1
    → IsOfReport bytes blocks (cond t (Err (refused.Blocks blocks x.0.samples)) (Ok (record { header = x.0; rows = x.1; blocks = blocks })))
enough-read bytes blocks x true few is = ((x.0, x.1, is, refl, refl, ltb-true _ _ few), λ (e : refused.Blocks blocks x.0.samples ≡ refused.NoMemory). absurd cc)
enough-read bytes blocks x false enough is = (is, refl, omega (arith, ltb-false _ _ enough))

averaged-read : (bytes : List ℕ) (blocks : ℕ) (r : Result (Header × List Row) ℕ) → IsRead bytes r → IsOfReport bytes blocks (averaged blocks r)
averaged-read bytes blocks (Ok x) is = enough-read bytes blocks x (nat_lt x.0.samples blocks) refl is
averaged-read bytes blocks (Err line) is = (is, λ (e : refused.Line line ≡ refused.NoMemory). absurd cc)

pub averages-read : (bytes : List ℕ) (blocks : ℕ) → IsOfReport bytes blocks (averages_in blocks bytes)
averages-read bytes blocks = averaged-read bytes blocks (report_in bytes) (report-read bytes)

-- ---- there is only one answer

-- two first wrong lines are one
one-wrong : (text : List (List ℕ)) (n m : ℕ) → IsFirstWrong text n → IsFirstWrong text m → n < m → ⊥
one-wrong text n m a b less = a.wrong (omega (arith, less, b.within)) (b.before n less)

wrong-same : (text : List (List ℕ)) (n m : ℕ) → IsFirstWrong text n → IsFirstWrong text m → n ≡ m
wrong-same text n m a b =
    let p : n < m → ⊥ = one-wrong text n m a b in
    let q : m < n → ⊥ = one-wrong text m n b a in
    omega (arith, p, q)

-- two reports of the same bytes have one header and the same rows
record Agree (h g : Header) (rows others : List Row) : Type 0 where
  same_header : h ≡ g
  same_rows : rows ≡ others

agree : (bytes : List ℕ) (h g : Header) (rows others : List Row) → IsReading bytes h rows → IsReading bytes g others → Agree h g rows others
agree bytes h g rows others a b =
    let same = b.only a.report a.spelled in
    record { same_header = sym a.its_header ∙ same.0; same_rows = sym a.its_rows ∙ same.1 }

-- bytes that are a report have no wrong line
not-both : (bytes : List ℕ) (h : Header) (rows : List Row) (line : ℕ) → IsReading bytes h rows → IsWrongAt bytes line → ⊥
not-both bytes h rows line is wrong = wrong.unlawful is.report is.spelled

found-by : (bytes : List ℕ) (blocks : ℕ) (a : AveragesView) (r : Result AveragesView ReportRefused) → IsReading bytes a.header a.rows → a.blocks ≡ blocks → blocks ≤ a.header.samples → IsOfReport bytes blocks r → r ≡ Ok a
found-by bytes blocks a (Ok b) is parts enough o =
    let same = agree bytes b.header a.header b.rows a.rows o.0 is in
    ap (λ (h : Header). Ok (record { header = h; rows = b.rows; blocks = b.blocks })) same.same_header
    ∙ ap (λ (rows : List Row). Ok (record { header = a.header; rows = rows; blocks = b.blocks })) same.same_rows
    ∙ ap (λ (n : ℕ). Ok (record { header = a.header; rows = a.rows; blocks = n })) (o.1 ∙ sym parts)
found-by bytes blocks a (Err (refused.Line line)) is parts enough o = absurd (not-both bytes a.header a.rows line is o.0)
found-by bytes blocks a (Err (refused.Blocks wanted samples)) is parts enough o =
    let same = agree bytes a.header o.0.0 a.rows o.0.1 is o.0.2 in
    absurd (omega (arith, enough, ap (λ (h : Header). h.samples) same.same_header, o.0.4, o.0.5))
found-by bytes blocks a (Err refused.NoMemory) is parts enough o = absurd (o.1 refl)

-- a reading is what the function gives
pub averages-found : (bytes : List ℕ) (blocks : ℕ) (a : AveragesView) → IsReading bytes a.header a.rows → a.blocks ≡ blocks → blocks ≤ a.header.samples → averages_in blocks bytes ≡ Ok a
averages-found bytes blocks a is parts enough = found-by bytes blocks a (averages_in blocks bytes) is parts enough (averages-read bytes blocks)

line-by : (bytes : List ℕ) (blocks line : ℕ) (r : Result AveragesView ReportRefused) → IsWrongAt bytes line → IsOfReport bytes blocks r → r ≡ Err (refused.Line line)
line-by bytes blocks line (Ok b) is o = absurd (not-both bytes b.header b.rows line o.0 is)
line-by bytes blocks line (Err (refused.Line other)) is o = ap (λ n. Err (refused.Line n)) (wrong-same (lines bytes) other line o.0.first is.first)
line-by bytes blocks line (Err (refused.Blocks wanted samples)) is o = absurd (not-both bytes o.0.0 o.0.1 line o.0.2 is)
line-by bytes blocks line (Err refused.NoMemory) is o = absurd (o.1 refl)

few-by : (bytes : List ℕ) (blocks wanted samples : ℕ) (r : Result AveragesView ReportRefused) → IsRefusal bytes blocks (refused.Blocks wanted samples) → IsOfReport bytes blocks r → r ≡ Err (refused.Blocks wanted samples)
few-by bytes blocks wanted samples (Ok b) is o =
    let same = agree bytes b.header is.0 b.rows is.1 o.0 is.2 in
    absurd (omega (arith, o.2, ap (λ (h : Header). h.samples) same.same_header, is.4, is.5))
few-by bytes blocks wanted samples (Err (refused.Line line)) is o = absurd (not-both bytes is.0 is.1 line is.2 o.0)
few-by bytes blocks wanted samples (Err (refused.Blocks others few)) is o =
    let same = agree bytes o.0.0 is.0 o.0.1 is.1 o.0.2 is.2 in
    let counts : few ≡ samples = o.0.4 ∙ ap (λ (h : Header). h.samples) same.same_header ∙ sym is.4 in
    let parts : others ≡ wanted = o.0.3 ∙ sym is.3 in
    ap (λ n. Err (refused.Blocks n few)) parts ∙ ap (λ n. Err (refused.Blocks wanted n)) counts
few-by bytes blocks wanted samples (Err refused.NoMemory) is o = absurd (o.1 refl)

-- a refusal that is due is what the function gives
pub averages-refused : (bytes : List ℕ) (blocks : ℕ) (e : ReportRefused) → IsRefusal bytes blocks e → ¬ (e ≡ refused.NoMemory) → averages_in blocks bytes ≡ Err e
averages-refused bytes blocks (refused.Line line) is refusal = line-by bytes blocks line (averages_in blocks bytes) is (averages-read bytes blocks)
averages-refused bytes blocks (refused.Blocks wanted samples) is refusal = few-by bytes blocks wanted samples (averages_in blocks bytes) is (averages-read bytes blocks)
averages-refused bytes blocks refused.NoMemory is refusal = absurd (refusal refl)

-- what a reader of reports promises, by the function
pub gives_averages : (bytes : List ℕ) (blocks : ℕ) (r : Result AveragesView ReportRefused) → IfOk r (λ a. IsReading bytes a.header a.rows) → IfOk r (λ a. a.blocks ≡ blocks) → IfOk r (λ a. blocks ≤ a.header.samples)
    → IfErr r (IsRefusal bytes blocks) → Gives refused.NoMemory (λ a. a) r (averages_in blocks bytes)
gives_averages bytes blocks (Ok a) is parts enough refusal = averages-found bytes blocks a is parts enough
gives_averages bytes blocks (Err e) is parts enough refusal = λ (some : ¬ (e ≡ refused.NoMemory)). averages-refused bytes blocks e refusal some
