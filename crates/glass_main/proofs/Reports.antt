-- How `average` ends where its report is not read.
use Rattle.std.proofs.Common.{rules, Global, ◌≡◌, ℕ, ◌≤◌, ◌<◌, List, length, Option, Some, None, option_map, IfSome, Result, Ok, Err, IfOk, IfErr, OnOk, refl, subst, arith}
use Rattle.std.specs.declared.vec.Vec.{Vec}
use Rattle.glass_edges.specs.Causes.{Rose}
use Rattle.glass_edges.specs.Contents.{Files, HoldsFile, LacksFile, HoldsAtLeast}
use Rattle.glass_edges.specs.declared.shelf.Fetched.{Fetched}
use Rattle.glass_edges.specs.declared.shelf.Fetched.TheVariants as answer
use Rattle.sample_average.specs.Averages.{AveragesView}
use Rattle.sample_average.specs.ReadReport.{averages_in, most_report_bytes}
use Rattle.sample_average.specs.declared.refused.ReportRefused.{ReportRefused}
use Rattle.command_words.specs.CommandLine.{AverageOrder, Average}
use Rattle.glass_main.specs.Endings.{IsOfAverages, TellsLength}
use Rattle.glass_main.specs.Gathers.{gathered}
use Rattle.glass_main.specs.Outside.{Output, Store}
use Rattle.glass_main.specs.Request.{AverageWork, and_then, told_as, bytes_at, averages_at, request_of}
use Rattle.glass_main.specs.Statuses.{Ends, IsRefusedBy}
use Rattle.glass_main.specs.declared.role.Role.TheVariants as roles
use Rattle.glass_main.specs.declared.refusal.Refusal.{Refusal}
use Rattle.glass_main.specs.declared.refusal.Refusal.TheVariants.{Absent, TooLong, Report}
use Rattle.glass_main.specs.declared.ending.Ending.{Ending}
use Rattle.glass_main.specs.declared.ending.Ending.TheVariants.{Refused, Unread, NoMemory}
use Rattle.glass_main.proofs.Fetching.{bytes-found, bytes-absent, bytes-too_many}

-- ---- what the bytes make of the request

refused-through : {A B C : Type 0} (bytes : Result A Refusal) (read : A → Result B Refusal) (go : B → Result C Refusal) (told : Refusal) → IsRefusedBy bytes told → IsRefusedBy (and_then (and_then bytes read) go) told
refused-through (Ok x) read go told is = absurd is
refused-through (Err due) read go told is = is

-- bytes that are not had refuse the request
bytes-refused : (order : AverageOrder) (held : Option Files) (told : Refusal) → IfSome (option_map (bytes_at roles.Report order.report) held) (λ a. IsRefusedBy a told)
    → IfSome (request_of (Average order) held) (λ asked. IsRefusedBy asked told)
unfolding averages_at
bytes-refused order None told is = tt
bytes-refused order (Some files) told is =
    refused-through (bytes_at roles.Report order.report files) (λ bytes. told_as Report (averages_in order.blocks bytes)) (λ averages. Ok (AverageWork averages)) told is

-- a report that is refused refuses the request
pub report-refused : (order : AverageOrder) (held : Option Files) (bytes : List ℕ) (e : ReportRefused) → IfSome (option_map (bytes_at roles.Report order.report) held) (λ a. a ≡ Ok bytes) → averages_in order.blocks bytes ≡ Err e
    → IfSome (request_of (Average order) held) (λ asked. IsRefusedBy asked (Report e))
unfolding averages_at
report-refused order None bytes e found is = tt
report-refused order (Some files) bytes e found is = rw (found, is) refl

-- one that is read gives the averages that are asked for
pub averages-found : (order : AverageOrder) (held : Option Files) (bytes : List ℕ) (a : AveragesView) → IfSome (option_map (bytes_at roles.Report order.report) held) (λ asked. asked ≡ Ok bytes) → averages_in order.blocks bytes ≡ Ok a
    → IfSome (option_map (averages_at order) held) (λ asked. asked ≡ Ok a)
unfolding averages_at
averages-found order None bytes a found is = tt
averages-found order (Some files) bytes a found is = rw (found, is) refl

free : {A : Type 0} (o : Option A) → IfSome o (λ a. Unit {0})
free None = tt
free (Some a) = tt

-- ---- endings

-- the call is refused, and leaves all as it was
pub ends-refused : (order : AverageOrder) (told : Refusal) (held holds : Store) (o : Output) → IsOfAverages order.blocks told → IfSome (request_of (Average order) held.holds) (λ asked. IsRefusedBy asked told)
    → TellsLength held.holds held.lengths told → holds.holds ≡ held.holds → holds.faults ≡ held.faults → Ends (Some (Average order)) (Refused told) held holds o o
ends-refused order told held holds o words cause length same passed = record {
  words = words;
  cause = cause;
  out = refl;
  files = (same, passed);
  wrote = tt;
  length = length;
  later = (omega (arith, passed), omega arith);
}

-- there was not enough memory
pub ends-without_memory : (order : AverageOrder) (held holds : Store) (o : Output) → holds.holds ≡ held.holds → holds.faults ≡ held.faults → Ends (Some (Average order)) NoMemory held holds o o
ends-without_memory order held holds o same passed = record {
  words = tt;
  cause = free (request_of (Average order) held.holds);
  out = refl;
  files = (same, passed);
  wrote = tt;
  length = tt;
  later = (omega (arith, passed), omega arith);
}

-- the store failed
ends-unread : (order : AverageOrder) (held holds : Store) (o : Output) → holds.holds ≡ held.holds → Rose held.faults holds.faults → held.faults ≤ holds.faults → Ends (Some (Average order)) (Unread roles.Report) held holds o o
ends-unread order held holds o same failed later = record {
  words = refl;
  cause = free (request_of (Average order) held.holds);
  out = refl;
  files = (same, failed);
  wrote = tt;
  length = tt;
  later = (later, omega arith);
}

-- ---- a fetch, and what is made of its answer

pub record FetchesReport (order : AverageOrder) (result : Result (List ℕ) Ending) (held holds : Store) : Type 0 where
  pub found : IfOk result (λ bytes. IfSome (option_map (bytes_at roles.Report order.report) held.holds) (λ asked. asked ≡ Ok bytes))
  pub limit : IfOk result (λ bytes. length bytes ≤ most_report_bytes)
  pub passed : OnOk result (holds.faults ≡ held.faults)
  pub stopped : IfErr result (λ ending. (o : Output) → Ends (Some (Average order)) ending held holds o o)

pub fetches-report : (order : AverageOrder) (held holds : Option Files) (before now : ℕ) (lengths later_lengths : List ℕ → ℕ → Option ℕ) (limit : ℕ) (fetched : Fetched) (result : Result (List ℕ) Ending)
    → result ≡ gathered roles.Report fetched → limit ≡ most_report_bytes
    → ((v : Vec ℕ Global) → fetched ≡ answer.Held v → HoldsFile held order.report v.items)
    → ((v : Vec ℕ Global) → fetched ≡ answer.Held v → length v.items ≤ limit)
    → (fetched ≡ answer.Absent → LacksFile held order.report)
    → ((n : ℕ) → fetched ≡ answer.TooLong n → limit < n)
    → ((n : ℕ) → fetched ≡ answer.TooLong n → HoldsAtLeast held order.report n)
    → ((n : ℕ) → fetched ≡ answer.TooLong n → IfSome (lengths order.report limit) (λ told. n ≡ told))
    → (fetched ≡ answer.Failed → Rose before now)
    → (¬ (fetched ≡ answer.Failed) → now ≡ before)
    → before ≤ now → holds ≡ held
    → FetchesReport order result (record { holds = held; faults = before; lengths = lengths }) (record { holds = holds; faults = now; lengths = later_lengths })
fetches-report order held holds before now lengths later_lengths limit (answer.Held v) result is most found within absent above long length_told failed quiet later same =
    let few : length v.items ≤ most_report_bytes = omega (arith, most, within v refl) in
    rw is (record {
      found = bytes-found roles.Report held order.report v.items (found v refl) few;
      limit = few;
      passed = quiet (λ e. search rules);
      stopped = tt;
    })
fetches-report order held holds before now lengths later_lengths limit answer.Absent result is most found within absent above long length_told failed quiet later same = rw is (record {
  found = tt;
  limit = tt;
  passed = tt;
  stopped = λ (o : Output). ends-refused order (Absent roles.Report) _ _ o refl (bytes-refused order held (Absent roles.Report) (bytes-absent roles.Report held order.report (absent refl))) tt same (quiet (λ e. search rules));
})
fetches-report order held holds before now lengths later_lengths limit (answer.TooLong n) result is most found within absent above long length_told failed quiet later same =
    let past : most_report_bytes < n = omega (arith, most, above n refl) in
    rw is (record {
      found = tt;
      limit = tt;
      passed = tt;
      stopped = λ (o : Output). ends-refused order (TooLong roles.Report n) _ _ o (refl, past) (bytes-refused order held (TooLong roles.Report n) (bytes-too_many roles.Report held order.report n past (long n refl))) (record { name = order.report; long = long n refl; told = subst (λ m. IfSome (lengths order.report m) (λ told. n ≡ told)) most (length_told n refl) }) same (quiet (λ e. search rules));
    })
fetches-report order held holds before now lengths later_lengths limit answer.Failed result is most found within absent above long length_told failed quiet later same = rw is (record {
  found = tt;
  limit = tt;
  passed = tt;
  stopped = λ (o : Output). ends-unread order _ _ o same (failed refl) later;
})
fetches-report order held holds before now lengths later_lengths limit answer.NoMemory result is most found within absent above long length_told failed quiet later same = rw is (record {
  found = tt;
  limit = tt;
  passed = tt;
  stopped = λ (o : Output). ends-without_memory order _ _ o same (quiet (λ e. search rules));
})
