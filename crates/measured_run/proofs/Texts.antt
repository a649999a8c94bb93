-- The text of what banks hold at their end is that of their samples' sums.
use Rattle.std.proofs.Common.{◌≡◌, ℕ, ◌+◌, ◌-◌, ◌*◌, ◌/◌, ◌%◌, ◌<◌, ◌≤◌, List, [], ◌∷◌, length, get_or, ap, ap₂, sym, subst, ◌∙◌, arith}
use Rattle.std.proofs.lemmas.List.{get_or-map}
use Rattle.std.proofs.lemmas.List.Elements.{All-get_or}
use Rattle.scalar_rule.specs.Plan.{Plan, slots_of}
use Rattle.scalar_rule.specs.declared.sample.Sample.{Sample}
use Rattle.measured_sums.specs.EpochBins.{bin_of}
use Rattle.measured_sums.specs.MeasuredSums.{sum_from}
use Rattle.measured_sums.specs.RunningSums.{sums_below}
use Rattle.measured_sums.specs.SumsText.{Heading, sums_text, run_sums}
use Rattle.plane_sums.specs.Bins.{SumsView}
use Rattle.plane_sums.specs.Slots.{HaveSums}
use Rattle.sums_report.specs.HeldSums.{held_sums, slot_in, AreHeld, HoldSums}
use Rattle.sums_report.proofs.HeldTexts.{text-same}
use Rattle.sums_report.proofs.RunBins.{runs-have-bins}
use Rattle.run_checkpoint.specs.BankEncoding.{BanksStand}
use Rattle.measured_run.specs.Banks.{BankView, start_of, plans_in, bases_in}
use Rattle.measured_run.specs.Ends.{HoldsSums, HoldBanks}
use Rattle.measured_run.specs.KeptRuns.{IsOnCourse, KeepBanks}
use Rattle.measured_run.specs.Text.{plan_in, start_in, heading_from, measure_text}
use Rattle.measured_run.specs.declared.course.Course.{Course}
use Rattle.measured_run.proofs.BankLists.{hold-long, hold-at, shape-at, stand-at}
use Rattle.measured_run.proofs.Epochs.{start-epoch}

module _ (course : Course) (banks : List BankView) (sums : List (List SumsView)) (keeps : KeepBanks course banks) (hold : HoldBanks banks sums) (d : BankView)
    (size slots samples : ℕ) (rule digest : List ℕ) (sized : size ≡ keeps.starts.size) (counted : slots ≡ keeps.starts.slots) where
  -- what the first line says
  abbrev head : Heading
  head = record { size = size; slots = slots; samples = samples; rule = rule; every = course.every; from = course.from; to = course.until; digest = digest }

  abbrev bank : ℕ → BankView
  bank g = get_or banks g d

  own-size : (g : ℕ) → g < length banks → (bank g).plan.size ≡ size
  own-size g within = (shape-at keeps.starts.size keeps.starts.slots banks g d within keeps.starts.shape).0 ∙ sym sized

  own-slots : (g : ℕ) → g < length banks → slots_of (bank g).plan ≡ slots
  own-slots g within = (shape-at keeps.starts.size keeps.starts.slots banks g d within keeps.starts.shape).1 ∙ sym counted

  own-course : (g : ℕ) → g < length banks → IsOnCourse course (bank g)
  own-course g within = All-get_or (IsOnCourse course) banks g d within keeps.each

  held : (g t : ℕ) → g < length banks → t < slots → HoldsSums (bank g) t (slot_in sums g t)
  held g t within below = (hold-at banks sums g d within hold).each t (omega (arith, below, own-slots g within))

  -- the sums of a slot, in the words of the first line
  have : (g t : ℕ) → g < length banks → t < slots
      → HaveSums size (λ b. sums_below (bank g).plan (start_of (bank g).plan (bank g).base b) course.every t course.until) (slot_in sums g t)
  have g t within below =
      let b = bank g in
      let way = own-course g within in
      let start = start_of b.plan b.base in
      subst (λ l. HaveSums l (λ i. sums_below b.plan (start i) course.every t course.until) (slot_in sums g t)) (own-size g within)
      (subst (λ n. HaveSums b.plan.size (λ i. sums_below b.plan (start i) n t course.until) (slot_in sums g t)) way.every
      (subst (λ e. HaveSums b.plan.size (λ i. sums_below b.plan (start i) b.every t e) (slot_in sums g t)) way.until (held g t within below).have))

  pub are-held : size ≤ 64 → samples ≤ 64 * length banks → AreHeld head sums
  are-held small few =
      let long = hold-long banks sums hold in
      record {
        size = small;
        samples = omega (arith, few, long);
        slots = λ g within. (hold-at banks sums g d (omega (arith, within, long)) hold).count ∙ own-slots g (omega (arith, within, long));
        bins = λ g t within below.
            let here : g < length banks = omega (arith, within, long) in
            let b = bank g in
            let way = own-course g here in
            let bins = (held g t here below).bins in
            runs-have-bins head (λ _. b.plan) (start_of b.plan b.base) t (slot_in sums g t) (start-epoch b.plan b.base 0 ∙ way.from)
            (bins.first ∙ ap bin_of way.from) (bins.bins ∙ ap₂ (λ (e c : ℕ). bin_of (e - 1) + 1 - bin_of c) way.until way.from) (have g t here below);
      }

-- the text, where there is a bank
first-text : (course : Course) (first : BankView) (rest : List BankView) (sums : List (List SumsView)) (start : ℕ → Sample) (more : List (ℕ → Sample)) (size slots samples : ℕ)
    (rule digest : List ℕ) (keeps : KeepBanks course (first ∷ rest)) → HoldBanks (first ∷ rest) sums → size ≡ keeps.starts.size → slots ≡ keeps.starts.slots
    → size ≤ 64 → samples ≤ 64 * length (first ∷ rest) → BanksStand (plans_in (first ∷ rest)) (start ∷ more) (bases_in (first ∷ rest))
    → sums_text (record { size = size; slots = slots; samples = samples; rule = rule; every = course.every; from = course.from; to = course.until; digest = digest }) (held_sums sums)
    ≡ measure_text (plans_in (first ∷ rest)) (start ∷ more) samples rule digest course.every course.until
unfolding measure_text
first-text course first rest sums start more size slots samples rule digest keeps hold sized counted small few stand =
    let banks = first ∷ rest in
    let starts = start ∷ more in
    let long = hold-long banks sums hold in
    let h : Heading = record { size = size; slots = slots; samples = samples; rule = rule; every = course.every; from = course.from; to = course.until; digest = digest } in
    let plan = plan_in first.plan (plans_in rest) in
    let from = start_in start more in
    let are = are-held course banks sums keeps hold first size slots samples rule digest sized counted small few in
    let holds : HoldSums h sums (run_sums plan from course.every course.until) =
    λ g t within below b k quantity less least most has.
    let here : g < length banks = omega (arith, within, long) in
    let bank = get_or banks g first in
    let place : (64 * g + b) / 64 ≡ g = omega (arith, less) in
    let bit : (64 * g + b) % 64 ≡ b = omega (arith, less) in
    let own : bank.plan ≡ plan (64 * g + b) =
    sym (get_or-map (λ (x : BankView). x.plan) banks g first first.plan here) ∙ ap (λ i. get_or (plans_in banks) i first.plan) (sym place) in
    let begin : start_of bank.plan bank.base b ≡ from (64 * g + b) =
    stand-at banks starts g first start here stand b less ∙ ap₂ (λ (i j : ℕ). get_or starts i start j) (sym place) (sym bit) in
    have course banks sums keeps hold first size slots samples rule digest sized counted g t here below b k quantity less least most has
    ∙ ap₂ (λ (p : Plan) (s : Sample). sum_from p s course.every course.until t k quantity) own begin in
    let shape = shape-at keeps.starts.size keeps.starts.slots banks 0 first (omega arith) keeps.starts.shape in
    let begins : course.from ≡ (start 0).epoch =
    sym (All-get_or (IsOnCourse course) banks 0 first (omega arith) keeps.each).from ∙ sym (start-epoch first.plan first.base 0)
    ∙ ap (λ (s : Sample). s.epoch) (stand-at banks starts 0 first start (omega arith) stand 0 (omega arith)) in
    let named : h ≡ heading_from first.plan samples rule course.every (start 0).epoch course.until digest =
    ap₂ (λ (l n : ℕ). let x : Heading = record { size = l; slots = n; samples = samples; rule = rule; every = course.every; from = course.from; to = course.until; digest = digest } in x)
    (sized ∙ sym shape.0) (counted ∙ sym shape.1)
    ∙ ap (λ c. heading_from first.plan samples rule course.every c course.until digest) begins in
    text-same h sums (run_sums plan from course.every course.until) are holds ∙ ap (λ x. sums_text x (run_sums plan from course.every course.until)) named

pub text-serial : (course : Course) (banks : List BankView) (sums : List (List SumsView)) (starts : List (ℕ → Sample)) (size slots samples : ℕ)
    (rule digest : List ℕ) (keeps : KeepBanks course banks) → HoldBanks banks sums → size ≡ keeps.starts.size → slots ≡ keeps.starts.slots
    → size ≤ 64 → samples ≤ 64 * length banks → BanksStand (plans_in banks) starts (bases_in banks)
    → sums_text (record { size = size; slots = slots; samples = samples; rule = rule; every = course.every; from = course.from; to = course.until; digest = digest }) (held_sums sums)
    ≡ measure_text (plans_in banks) starts samples rule digest course.every course.until
unfolding BanksStand
text-serial course [] sums starts size slots samples rule digest keeps hold sized counted small few stand = absurd (omega (arith, keeps.starts.some))
text-serial course (b ∷ bs) sums [] size slots samples rule digest keeps hold sized counted small few stand = absurd stand
text-serial course (b ∷ bs) sums (s ∷ ss) size slots samples rule digest keeps hold sized counted small few stand =
    first-text course b bs sums s ss size slots samples rule digest keeps hold sized counted small few stand
