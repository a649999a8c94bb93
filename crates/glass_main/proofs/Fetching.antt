-- What a fetch gives of the bytes that a step asks for.
use Rattle.std.proofs.Common.{rules, Global, ◌≡◌, ℕ, Bool, ◌<◌, ◌≤◌, List, length, Option, Some, None, option_map, IfSome, Result, Ok, Err, IfErr, if◌then◌else◌, refl, sym, ap, subst, ◌∙◌, arith}
use Rattle.std.specs.declared.vec.Vec.{Vec}
use Rattle.glass_edges.specs.Causes.{Rose}
use Rattle.glass_edges.specs.Contents.{Files, HoldsFile, LacksFile, HoldsAtLeast}
use Rattle.glass_edges.specs.declared.shelf.Fetched.{Fetched}
use Rattle.glass_edges.specs.declared.shelf.Fetched.TheVariants as answer
use Rattle.glass_main.specs.Endings.{IsOfFile, IsOfBanked, IsOfLevel, IsOfOneEpoch, IsOfStates}
use Rattle.glass_main.specs.declared.role.Role.{Role}
use Rattle.glass_main.specs.declared.role.Role.TheVariants as roles
use Rattle.glass_main.specs.declared.refusal.Refusal.{Refusal}
use Rattle.glass_main.specs.declared.refusal.Refusal.TheVariants.{Absent, TooLong}
use Rattle.glass_main.specs.declared.refusal.Refusal.TheVariants as refused
use Rattle.glass_main.specs.Gathers.{Gathers, Fetches, gathered}
use Rattle.glass_main.specs.declared.ending.Ending.{Ending}
use Rattle.glass_main.specs.Request.{limit_of, bytes_in, bytes_at}
use Rattle.glass_main.specs.Statuses.{IfRefused, IsRefusedBy}
use Rattle.std.proofs.lemmas.Bool.{le-leb, lt-leb}

pub bytes-found : (role : Role) (held : Option Files) (name bytes : List ℕ) → HoldsFile held name bytes → length bytes ≤ limit_of role
    → IfSome (option_map (bytes_at role name) held) (λ a. a ≡ Ok bytes)
bytes-found role None name bytes h small = tt
bytes-found role (Some files) name bytes h small =
    ap (bytes_in role) h ∙ ap (λ b. if b then Ok bytes else Err (TooLong role (length bytes))) (le-leb (length bytes) (limit_of role) small)

pub bytes-absent : (role : Role) (held : Option Files) (name : List ℕ) → LacksFile held name
    → IfSome (option_map (bytes_at role name) held) (λ a. IsRefusedBy a (Absent role))
bytes-absent role None name h = tt
bytes-absent role (Some files) name h = subst (λ a. IsRefusedBy {A = List ℕ} a (Absent role)) (sym (ap (bytes_in role) h)) refl

pub bytes-too_many : (role : Role) (held : Option Files) (name : List ℕ) (n : ℕ) → limit_of role < n → HoldsAtLeast held name n
    → IfSome (option_map (bytes_at role name) held) (λ a. IsRefusedBy a (TooLong role n))
bytes-too_many role None name n above h = tt
bytes-too_many role (Some files) name n above (bytes, is, least) =
    let past : limit_of role < length bytes = omega (arith, above, least) in
    let due = ap (bytes_in role) is ∙ ap (λ b. if b then Ok bytes else Err (TooLong role (length bytes))) (lt-leb (length bytes) (limit_of role) past) in
    subst (λ a. IsRefusedBy {A = List ℕ} a (TooLong role n)) (sym due) (n, refl, above, least)

-- a fetch, and what is made of its answer, are a step that reads one file
pub gathers_fetched : (role : Role) (name : List ℕ) (held holds : Option Files) (before now : ℕ) (lengths later_lengths : List ℕ → ℕ → Option ℕ) (limit : ℕ) (fetched : Fetched) (result : Result (List ℕ) Ending)
    → result ≡ gathered role fetched → limit ≡ limit_of role
    → ((v : Vec ℕ Global) → fetched ≡ answer.Held v → HoldsFile held name v.items)
    → ((v : Vec ℕ Global) → fetched ≡ answer.Held v → length v.items ≤ limit)
    → (fetched ≡ answer.Absent → LacksFile held name)
    → ((n : ℕ) → fetched ≡ answer.TooLong n → limit < n)
    → ((n : ℕ) → fetched ≡ answer.TooLong n → HoldsAtLeast held name n)
    → ((n : ℕ) → fetched ≡ answer.TooLong n → IfSome (lengths name limit) (λ told. n ≡ told))
    → (fetched ≡ answer.Failed → Rose before now)
    → (¬ (fetched ≡ answer.Failed) → now ≡ before)
    → before ≤ now → holds ≡ held → later_lengths ≡ lengths
    → Gathers (option_map (bytes_at role name) held) (Fetches role) result (record { holds = held; faults = before; lengths = lengths }) (record { holds = holds; faults = now; lengths = later_lengths })
gathers_fetched role name held holds before now lengths later_lengths limit (answer.Held v) result is most found within absent above long length_told failed quiet later same stay = rw is (record {
  found = bytes-found role held name v.items (found v refl) (subst (λ n. length v.items ≤ n) most (within v refl));
  passed = quiet (λ e. search rules);
  stopped = tt;
  same = same;
  lengths = stay;
  later = later;
})
gathers_fetched role name held holds before now lengths later_lengths limit answer.Absent result is most found within absent above long length_told failed quiet later same stay = rw is (record {
  found = tt;
  passed = tt;
  stopped = ((refl, bytes-absent role held name (absent refl)), quiet (λ e. search rules), tt);
  same = same;
  lengths = stay;
  later = later;
})
gathers_fetched role name held holds before now lengths later_lengths limit (answer.TooLong n) result is most found within absent above long length_told failed quiet later same stay =
    let past = subst (λ m. m < n) most (above n refl) in
    rw is (record {
      found = tt;
      passed = tt;
      stopped = (((refl, past), bytes-too_many role held name n past (long n refl)), quiet (λ e. search rules), record { name = name; long = long n refl; told = subst (λ m. IfSome (lengths name m) (λ told. n ≡ told)) most (length_told n refl) });
      same = same;
      lengths = stay;
      later = later;
    })
gathers_fetched role name held holds before now lengths later_lengths limit answer.Failed result is most found within absent above long length_told failed quiet later same stay = rw is (record {
  found = tt;
  passed = tt;
  stopped = (refl, failed refl);
  same = same;
  lengths = stay;
  later = later;
})
gathers_fetched role name held holds before now lengths later_lengths limit answer.NoMemory result is most found within absent above long length_told failed quiet later same stay = rw is (record {
  found = tt;
  passed = tt;
  stopped = quiet (λ e. search rules);
  same = same;
  lengths = stay;
  later = later;
})

-- a fetch is refused for no format
pub fetched-level : (role : Role) (fetched : Fetched) (result : Result (List ℕ) Ending) → result ≡ gathered role fetched → IfErr result (λ ending. IfRefused ending IsOfOneEpoch)
fetched-level role (answer.Held v) result is = rw is tt
fetched-level role answer.Absent result is = rw is tt
fetched-level role (answer.TooLong n) result is = rw is tt
fetched-level role answer.Failed result is = rw is tt
fetched-level role answer.NoMemory result is = rw is tt

pub fetched-levels : (role : Role) (fetched : Fetched) (result : Result (List ℕ) Ending) → result ≡ gathered role fetched → IfErr result (λ ending. IfRefused ending IsOfLevel)
fetched-levels role (answer.Held v) result is = rw is tt
fetched-levels role answer.Absent result is = rw is tt
fetched-levels role (answer.TooLong n) result is = rw is tt
fetched-levels role answer.Failed result is = rw is tt
fetched-levels role answer.NoMemory result is = rw is tt

pub fetched-states : (role : Role) (fetched : Fetched) (result : Result (List ℕ) Ending) → result ≡ gathered role fetched → IfErr result (λ ending. IfRefused ending IsOfStates)
fetched-states role (answer.Held v) result is = rw is tt
fetched-states role answer.Absent result is = rw is tt
fetched-states role (answer.TooLong n) result is = rw is tt
fetched-states role answer.Failed result is = rw is tt
fetched-states role answer.NoMemory result is = rw is tt

pub fetched-banks : (many : Bool) (role : Role) (fetched : Fetched) (result : Result (List ℕ) Ending) → result ≡ gathered role fetched → IfErr result (λ ending. IfRefused ending (IsOfBanked many))
fetched-banks many role (answer.Held v) result is = rw is tt
fetched-banks many role answer.Absent result is = rw is tt
fetched-banks many role (answer.TooLong n) result is = rw is tt
fetched-banks many role answer.Failed result is = rw is tt
fetched-banks many role answer.NoMemory result is = rw is tt

-- ---- steps that fetch no run file

-- they tell no need of fewer samples
pub of-file-banked : (many : Bool) (fetches : Role → Type 0) (told : Refusal) → (fetches roles.RunFile → ⊥) → IsOfFile fetches told → IsOfBanked many told
of-file-banked many fetches refused.Words not h = tt
of-file-banked many fetches (refused.Absent role) not h = tt
of-file-banked many fetches (refused.TooLong role n) not h = tt
of-file-banked many fetches (refused.Plan e) not h = absurd (not h.0)
of-file-banked many fetches (refused.Rules e) not h = tt
of-file-banked many fetches (refused.Swaps e) not h = tt
of-file-banked many fetches (refused.Couplings e) not h = tt
of-file-banked many fetches (refused.Checkpoint e) not h = tt
of-file-banked many fetches (refused.Report e) not h = tt
of-file-banked many fetches (refused.SecondCheckpoint e) not h = tt

-- and those that fetch no checkpoint refuse none
pub of-file-level : (fetches : Role → Type 0) (told : Refusal) → (fetches roles.Checkpoint → ⊥) → IsOfFile fetches told → IsOfLevel told
of-file-level fetches refused.Words not h = tt
of-file-level fetches (refused.Absent role) not h = tt
of-file-level fetches (refused.TooLong role n) not h = tt
of-file-level fetches (refused.Plan e) not h = tt
of-file-level fetches (refused.Rules e) not h = tt
of-file-level fetches (refused.Swaps e) not h = tt
of-file-level fetches (refused.Couplings e) not h = tt
of-file-level fetches (refused.Checkpoint e) not h = absurd (not h.0)
of-file-level fetches (refused.Report e) not h = tt
of-file-level fetches (refused.SecondCheckpoint e) not h = tt

-- ---- steps that fetch more

-- a refusal of a file that a step fetches is one of a file that a longer one fetches
pub of-file-wider : (fetches more : Role → Type 0) (told : Refusal) → ((role : Role) → fetches role → more role) → IsOfFile fetches told → IsOfFile more told
of-file-wider fetches more refused.Words wider h = h
of-file-wider fetches more (refused.Absent role) wider h = wider role h
of-file-wider fetches more (refused.TooLong role n) wider h = (wider role h.0, h.1)
of-file-wider fetches more (refused.Plan e) wider h = (wider roles.RunFile h.0, h.1)
of-file-wider fetches more (refused.Rules e) wider h = (wider roles.RuleTable h.0, h.1)
of-file-wider fetches more (refused.Swaps e) wider h = (wider roles.SwapTable h.0, h.1)
of-file-wider fetches more (refused.Couplings e) wider h = (wider roles.Couplings h.0, h.1)
of-file-wider fetches more (refused.Checkpoint e) wider h = (wider roles.Checkpoint h.0, h.1)
of-file-wider fetches more (refused.Report e) wider h = h
of-file-wider fetches more (refused.SecondCheckpoint e) wider h = (wider roles.SecondCheckpoint h.0, h.1)
