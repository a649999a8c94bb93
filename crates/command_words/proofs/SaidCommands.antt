-- The commands whose words may come in any order: what they say, and the command that they are.
use Rattle.std.proofs.Common.{◌≡◌, ◌↔◌, ℕ, List, [], ◌∷◌, codes, Option, Some, None, true, refl, sym, ap, subst, ◌∙◌}
use Rattle.std.specs.Prelude.{option_map}
use Rattle.std.specs.Str.{bytes_eq}
use Rattle.std.proofs.lemmas.Option.{none-some, same_Some}
use Rattle.std.proofs.lemmas.Slice.Eq.{bytes_eq-Decides}
use Rattle.command_words.specs.Words.{given, word_at}
use Rattle.command_words.specs.RunWords.{RunOrder, SaysRun}
use Rattle.command_words.specs.RunReading.{said_by, run_order}
use Rattle.command_words.specs.PottsWords.{potts_order}
use Rattle.command_words.specs.CrossWords.{cross_order}
use Rattle.command_words.specs.MeasureWords.{MeasureOrder, SaysMeasure, run_to_measure, unless_stopped, measure_order}
use Rattle.command_words.specs.CommandLine.{Command, Plain, Check, Run, Average, Demo, Lines, Potts, Age, Measure, Cross, plain_order, check_name, average_order, demo_number, lines_order, age_order, command_of}
use Rattle.command_words.proofs.SaidOnce.{map-some, given-some, by-test}
use Rattle.command_words.proofs.SaidRuns.{run_order-said, said-run_order}

-- ---- the name of a command

-- the first word of a command
abbrev name_of : Command → List ℕ
name_of (Plain order) = codes "plain"
name_of (Check name) = codes "check"
name_of (Run order) = codes "run"
name_of (Average order) = codes "average"
name_of (Demo n) = codes "demo"
name_of (Lines order) = codes "lines"
name_of (Potts order) = codes "potts"
name_of (Age order) = codes "age"
name_of (Measure order) = codes "measure"
name_of (Cross order) = codes "cross"

-- a command that is made of words behind a text has that name
named : {A : Type 0} (make : A → Command) (asked : Option A) (word text : List ℕ) (found : Option Command) (command : Command)
    → ((x : A) → name_of (make x) ≡ text) → bytes_eq word text ≡ true → found ≡ option_map make asked → found ≡ Some command
    → word ≡ name_of command
named make None word text found command is test made h = absurd (none-some command (sym made ∙ h))
named make (Some x) word text found command is test made h =
    (bytes_eq-Decides word text).0 test ∙ sym (is x) ∙ ap name_of (same_Some (make x) command (sym made ∙ h))

command-name : (words : List (List ℕ)) (command : Command) → command_of words ≡ Some command → word_at words 0 ≡ name_of command
unfolding command_of
command-name words command h =
    let word = word_at words 0 in
    let all = command_of words in
    by-test (bytes_eq word (codes "plain")) (λ t. named Plain (plain_order words) word (codes "plain") all command (λ x. refl) t (rw t refl) h) (λ a.
    by-test (bytes_eq word (codes "check")) (λ t. named Check (check_name words) word (codes "check") all command (λ x. refl) t (rw (a, t) refl) h) (λ b.
    by-test (bytes_eq word (codes "run")) (λ t. named Run (run_order words) word (codes "run") all command (λ x. refl) t (rw (a, b, t) refl) h) (λ c.
    by-test (bytes_eq word (codes "average")) (λ t. named Average (average_order words) word (codes "average") all command (λ x. refl) t (rw (a, b, c, t) refl) h) (λ d.
    by-test (bytes_eq word (codes "demo")) (λ t. named Demo (demo_number words) word (codes "demo") all command (λ x. refl) t (rw (a, b, c, d, t) refl) h) (λ e.
    by-test (bytes_eq word (codes "lines")) (λ t. named Lines (lines_order words) word (codes "lines") all command (λ x. refl) t (rw (a, b, c, d, e, t) refl) h) (λ f.
    by-test (bytes_eq word (codes "potts")) (λ t. named Potts (potts_order words) word (codes "potts") all command (λ x. refl) t (rw (a, b, c, d, e, f, t) refl) h) (λ g.
    by-test (bytes_eq word (codes "age")) (λ t. named Age (age_order words) word (codes "age") all command (λ x. refl) t (rw (a, b, c, d, e, f, g, t) refl) h) (λ k.
    by-test (bytes_eq word (codes "measure")) (λ t. named Measure (measure_order words) word (codes "measure") all command (λ x. refl) t (rw (a, b, c, d, e, f, g, k, t) refl) h) (λ m.
    by-test (bytes_eq word (codes "cross")) (λ t. named Cross (cross_order words) word (codes "cross") all command (λ x. refl) t (rw (a, b, c, d, e, f, g, k, m, t) refl) h) (λ n.
    let none : all ≡ None = rw (a, b, c, d, e, f, g, k, m, n) refl in
    absurd (none-some command (sym none ∙ h))))))))))))

-- the orders of commands that have one
abbrev run_in : Command → RunOrder → RunOrder
run_in (Run order) other = order
run_in command other = other

abbrev measure_in : Command → MeasureOrder → MeasureOrder
measure_in (Measure order) other = order
measure_in command other = other

-- ---- `run`

run-command : (words : List (List ℕ)) (order : RunOrder) → command_of words ≡ Some (Run order) → (word_at words 0 ≡ codes "run") × (run_order words ≡ Some order)
unfolding command_of
run-command words order h =
    let first = command-name words (Run order) h in
    let is : command_of words ≡ option_map Run (run_order words) = rw first refl in
    let read = map-some Run (run_order words) (Run order) (sym is ∙ h) in
    (first, read.1 ∙ ap (λ c. Some (run_in c order)) read.2)

command-run : (words : List (List ℕ)) (order : RunOrder) → SaysRun words order → command_of words ≡ Some (Run order)
unfolding command_of
command-run words order says =
    ap command_of says.written ∙ ap (option_map Run) (sym (ap run_order says.written) ∙ said-run_order words order says)

-- the words are a run's exactly where they say it
pub command_of-run : (words : List (List ℕ)) (order : RunOrder) → (command_of words ≡ Some (Run order)) ↔ SaysRun words order
command_of-run words order =
    (λ h. let run = run-command words order h in run_order-said words order run.0 run.1, command-run words order)

-- ---- `measure`

-- a run that isn't to stop is the one over which the sums are
is-unstopped : (stop_after : Option ℕ) (run : RunOrder) (order : MeasureOrder) → run.stop_after ≡ stop_after
    → unless_stopped stop_after run ≡ Some order → run ≡ run_to_measure order
is-unstopped (Some takes) run order stops h = absurd (none-some order h)
is-unstopped None run order stops h =
    let same = same_Some {A = MeasureOrder} _ order h in
    λ i. record {
      run = (same i).run;
      workers = (same i).workers;
      pieces = (same i).pieces;
      until = (same i).until;
      from = (same i).from;
      save = (same i).save;
      stop_after = stops i;
    }

measure_order-said : (words : List (List ℕ)) (order : MeasureOrder) → word_at words 0 ≡ codes "measure" → measure_order words ≡ Some order
    → SaysMeasure words order
unfolding measure_order run_order said_by
measure_order-said [] order first h = absurd (none-some order h)
measure_order-said (word ∷ options) order first h =
    let read = given-some (run_order (codes "run" ∷ options)) (λ (r : RunOrder). unless_stopped r.stop_after r) order h in
    let is = is-unstopped read.0.stop_after read.0 order refl read.2 in
    record {
      options = options;
      written = ap (λ w. w ∷ options) first;
      run = run_order-said (codes "run" ∷ options) (run_to_measure order) refl (read.1 ∙ ap Some is);
    }

command-measure : (words : List (List ℕ)) (order : MeasureOrder) → SaysMeasure words order → command_of words ≡ Some (Measure order)
unfolding command_of measure_order run_order
command-measure words order says =
    let run = said-run_order (codes "run" ∷ says.options) (run_to_measure order) says.run in
    ap command_of says.written ∙ ap (λ (r : Option RunOrder). option_map Measure (given r (λ o. unless_stopped o.stop_after o))) run

measure-command : (words : List (List ℕ)) (order : MeasureOrder) → command_of words ≡ Some (Measure order)
    → (word_at words 0 ≡ codes "measure") × (measure_order words ≡ Some order)
unfolding command_of
measure-command words order h =
    let first = command-name words (Measure order) h in
    let is : command_of words ≡ option_map Measure (measure_order words) = rw first refl in
    let read = map-some Measure (measure_order words) (Measure order) (sym is ∙ h) in
    (first, read.1 ∙ ap (λ c. Some (measure_in c order)) read.2)

-- the words ask for sums over a run exactly where they say it
pub command_of-measure : (words : List (List ℕ)) (order : MeasureOrder) → (command_of words ≡ Some (Measure order)) ↔ SaysMeasure words order
command_of-measure words order =
    (λ h. let read = measure-command words order h in measure_order-said words order read.0 read.1, command-measure words order)
