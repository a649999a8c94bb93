-- How a run that is measured ends: by the steps that read what its files say and what it starts from, and the work from there.
use Rattle.std.proofs.Common.{◌≡◌, ℕ, ◌≤◌, true, List, Option, Some, None, option_map, IfSome, Result, Ok, Err, refl, sym, ap, ◌∙◌, subst, inl, inr, arith}
use Rattle.glass_edges.specs.Contents.{Files, appended, AppendsPrefix}
use Rattle.scalar_rule.specs.declared.sample.Sample.{Sample}
use Rattle.command_words.specs.CommandLine.{Measure}
use Rattle.command_words.specs.MeasureWords.{MeasureOrder}
use Rattle.glass_main.specs.declared.plans.Plans.{Plans}
use Rattle.glass_main.specs.declared.refusal.Refusal.{Refusal}
use Rattle.glass_main.specs.declared.role.Role.TheVariants as roles
use Rattle.glass_main.specs.declared.ending.Ending.{Ending}
use Rattle.glass_main.specs.declared.ending.Ending.TheVariants.{Done, Refused, Unread, Unwritten, Unsaved, NoMemory}
use Rattle.glass_main.specs.Endings.{IsOfBanked, IsOfLevel, IsReached, FetchesCheckpoint, MayFetch}
use Rattle.glass_main.specs.Gathers.{Gathers}
use Rattle.glass_main.specs.ManyBanks.{PlannedBanks}
use Rattle.glass_main.specs.MeasureRun.{banks_of}
use Rattle.glass_main.specs.Opened.{IsOfOpenRun}
use Rattle.glass_main.specs.Outside.{Output, Store}
use Rattle.glass_main.specs.Request.{Work, MeasureWork, and_then, IsAccepted, plans_at, banked_at, level_beginning_at, measured_until, measure_at, GivesAsked}
use Rattle.glass_main.specs.Resumes.{IsBegun, Begins}
use Rattle.glass_main.specs.Statuses.{Ends, IfRefused, IsRefusedBy, Fits, Printed, Kept, IsGiven, Wrote}
use Rattle.glass_main.proofs.Fetching.{of-file-wider, of-file-banked, of-file-level}
use Rattle.glass_main.proofs.OneOfBanks.{stepped}
use Rattle.glass_main.proofs.RunEndings.{same-store, no-run-file, some-free}

refused-next : {A B : Type 0} (a : Result A Refusal) (next : A → Result B Refusal) (told : Refusal) → IsRefusedBy a told → IsRefusedBy (and_then a next) told
refused-next (Ok x) next told is = absurd is
refused-next (Err due) next told is = is

module _ (order : MeasureOrder) where
  -- ---- its files are refused, or not read

  asked-unread : (held : Option Files) (told : Refusal) → IfSome (option_map (banked_at order.run) held) (λ a. IsRefusedBy a told)
      → IfSome (option_map (measure_at order) held) (λ a. IsRefusedBy a told)
  asked-unread None told is = tt
  asked-unread (Some files) told is = refused-next (banked_at order.run files) _ told is

  pub ends-unread : (ending : Ending) (held holds : Store) (before : Output) → Gathers {A = PlannedBanks} (option_map (banked_at order.run) held.holds) (IsReached true order.run held.holds) (Err ending) held holds
      → IfRefused ending (IsOfBanked true) → Ends (Some (Measure order)) ending held holds before before
  ends-unread Done held holds before g many = absurd g.stopped
  ends-unread (Refused told) held holds before g many = record {
    words = (
      of-file-wider (IsReached true order.run held.holds) (MayFetch (Measure order) held.holds) told (λ role reached. inl reached) g.stopped.0.0,
      many,
      of-file-level (IsReached true order.run held.holds) told (λ none. none) g.stopped.0.0,
    );
    cause = asked-unread held.holds told g.stopped.0.1;
    out = refl;
    files = (g.same, g.stopped.1);
    wrote = tt;
    length = g.stopped.2;
    later = (g.later, omega arith);
  }
  ends-unread (Unread role) held holds before g many = record {
    words = inl g.stopped.0;
    cause = some-free (option_map (measure_at order) held.holds) (λ a. Fits a (Unread role)) (λ a. tt);
    out = refl;
    files = (g.same, g.stopped.1);
    wrote = tt;
    length = tt;
    later = (g.later, omega arith);
  }
  ends-unread Unwritten held holds before g many = absurd g.stopped
  ends-unread Unsaved held holds before g many = absurd g.stopped
  ends-unread NoMemory held holds before g many = record {
    words = tt;
    cause = some-free (option_map (measure_at order) held.holds) (λ a. Fits a NoMemory) (λ a. tt);
    out = refl;
    files = (g.same, g.stopped);
    wrote = tt;
    length = tt;
    later = (g.later, omega arith);
  }

  module _ (planned : PlannedBanks) where
    -- the plans are those that are asked for
    abbrev pub HasBanked : Option Files → Type 0
    HasBanked held = IfSome (option_map (banked_at order.run) held) (λ a. a ≡ Ok planned)

    pub same-banked : (held mid : Store) → Gathers {A = PlannedBanks} (option_map (banked_at order.run) held.holds) (IsReached true order.run held.holds) (Ok planned) held mid → (mid ≡ held) × HasBanked mid.holds
    same-banked held mid g = (same-store mid held g.same g.passed g.lengths, subst HasBanked (sym g.same) g.found)

    accepted-plans : (held : Option Files) → HasBanked held → IfSome (option_map (plans_at true order.run) held) IsAccepted
    unfolding banked_at
    accepted-plans None found = tt
    accepted-plans (Some files) found =
        let p = stepped (plans_at true order.run files) (λ plans. Ok (banks_of plans)) planned found in
        subst (λ (a : Result Plans Refusal). IsAccepted a) (sym p.1) tt

    -- what it starts from
    abbrev last : ℕ
    last = measured_until order planned.orders

    abbrev step : Files → Result (List (ℕ → Sample)) Refusal
    step files = level_beginning_at order.from planned last files

    abbrev work : List (ℕ → Sample) → Work
    work starts = MeasureWork planned starts last

    abbrev next : List (ℕ → Sample) → Result Work Refusal
    next starts = Ok (work starts)

    -- what is asked for is what this step and then the work ask for
    asked-of : (files : Files) → banked_at order.run files ≡ Ok planned → measure_at order files ≡ and_then (step files) next
    asked-of files found = ap (λ (a : Result PlannedBanks Refusal). and_then a (λ p. and_then (level_beginning_at order.from p (measured_until order p.orders) files) (λ starts. Ok (MeasureWork p starts (measured_until order p.orders))))) found

    -- ---- it is refused

    asked-refused : (held : Option Files) (told : Refusal) → HasBanked held → IfSome (option_map step held) (λ a. IsRefusedBy a told)
        → IfSome (option_map (measure_at order) held) (λ a. IsRefusedBy a told)
    asked-refused None told found is = tt
    asked-refused (Some files) told found is =
        subst (λ (w : Result Work Refusal). IsRefusedBy w told) (sym (asked-of files found)) (refused-next (step files) next told is)

    pub ends-unbegun : {B : Type 0} (Packs : List (ℕ → Sample) → B → Type 0) (ending : Ending) (held holds : Store) (before : Output) → HasBanked held.holds
        → Begins {B = B} order.from Packs (option_map step held.holds) (Err ending) held holds → IfRefused ending IsOfLevel → Ends (Some (Measure order)) ending held holds before before
    ends-unbegun Packs Done held holds before found b level = absurd b.stopped
    ends-unbegun Packs (Refused told) held holds before found b level = record {
      words = (
        of-file-wider (FetchesCheckpoint order.from) (MayFetch (Measure order) held.holds) told (λ role fetches. inr (record { fetches = fetches; reached = accepted-plans held.holds found })) b.stopped.0.0,
        of-file-banked true (FetchesCheckpoint order.from) told (no-run-file order.from) b.stopped.0.0,
        level,
      );
      cause = asked-refused held.holds told found b.stopped.0.1;
      out = refl;
      files = (b.same, b.stopped.1);
      wrote = tt;
      length = b.stopped.2;
      later = (b.later, omega arith);
    }
    ends-unbegun Packs (Unread role) held holds before found b level = record {
      words = inr (record { fetches = b.stopped.0; reached = accepted-plans held.holds found });
      cause = some-free (option_map (measure_at order) held.holds) (λ a. Fits a (Unread role)) (λ a. tt);
      out = refl;
      files = (b.same, b.stopped.1);
      wrote = tt;
      length = tt;
      later = (b.later, omega arith);
    }
    ends-unbegun Packs Unwritten held holds before found b level = absurd b.stopped
    ends-unbegun Packs Unsaved held holds before found b level = absurd b.stopped
    ends-unbegun Packs NoMemory held holds before found b level = record {
      words = tt;
      cause = some-free (option_map (measure_at order) held.holds) (λ a. Fits a NoMemory) (λ a. tt);
      out = refl;
      files = (b.same, b.stopped);
      wrote = tt;
      length = tt;
      later = (b.later, omega arith);
    }

    -- ---- it is begun

    module _ {B : Type 0} (Packs : List (ℕ → Sample) → B → Type 0) (base : B) where
      begun-next : (b : Result (List (ℕ → Sample)) Refusal) (P : Result Work Refusal → Type 0) → IsBegun Packs base b
          → ((starts : List (ℕ → Sample)) → Packs starts base → P (next starts)) → P (and_then b next)
      begun-next (Ok starts) P begun p = p starts begun
      begun-next (Err refusal) P begun p = absurd begun

      -- what holds of the work from each start that is packed so holds of what was asked for
      asked-begun : (held : Option Files) (P : Result Work Refusal → Type 0) → HasBanked held → IfSome (option_map step held) (IsBegun Packs base)
          → ((starts : List (ℕ → Sample)) → Packs starts base → P (next starts)) → IfSome (option_map (measure_at order) held) P
      asked-begun None P found begun p = tt
      asked-begun (Some files) P found begun p = subst P (sym (asked-of files found)) (begun-next (step files) P begun p)

      -- the plans and the starting states are those that are asked for, and no file has changed
      pub record HasBegun (held now : Store) : Type 0 where
        pub found : HasBanked held.holds
        pub begun : IfSome (option_map step held.holds) (IsBegun Packs base)
        pub same : now ≡ held

      pub has-begun : (held now : Store) → HasBanked held.holds → Begins order.from Packs (option_map step held.holds) (Ok base) held now → HasBegun held now
      has-begun held now found b = record { found = found; begun = b.found; same = same-store now held b.same b.passed b.lengths }

      unopened : (held : Store) (before : Output) → Ends (Some (Measure order)) NoMemory held held before before
      unopened held before = record {
        words = tt;
        cause = some-free (option_map (measure_at order) held.holds) (λ a. Fits a NoMemory) (λ a. tt);
        out = refl;
        files = (refl, refl);
        wrote = tt;
        length = tt;
        later = (omega arith, omega arith);
      }

      -- there is no memory for it
      pub ends-unopened : (held now : Store) (before : Output) → HasBegun held now → Ends (Some (Measure order)) NoMemory held now before before
      ends-unopened held now before h =
          let E : Store → Type 0 = λ s. Ends (Some (Measure order)) NoMemory held s before before in
          subst E (sym h.same) (unopened held before)

      finished : (ending : Ending) (held holds : Store) (before now : Output) → HasBegun held held → IsOfOpenRun order.save ending → Printed ending before now → Kept order.save ending held holds
          → ((starts : List (ℕ → Sample)) → Packs starts base → Wrote order.save (Some (next starts)) ending held holds before now)
          → held.faults ≤ holds.faults → before.faults ≤ now.faults → Ends (Some (Measure order)) ending held holds before now
      finished Done held holds before now h ends out files wrote store_later later = record {
        words = tt;
        cause = asked-begun held.holds (λ a. Fits a Done) h.found h.begun (λ starts b. tt);
        out = out;
        files = files;
        wrote = asked-begun held.holds (λ a. GivesAsked a (IsGiven order.save held holds before now)) h.found h.begun wrote;
        length = tt;
        later = (store_later, later);
      }
      finished (Refused refusal) held holds before now h ends out files wrote store_later later = absurd ends
      finished (Unread role) held holds before now h ends out files wrote store_later later = absurd ends
      finished Unwritten held holds before now h ends out files wrote store_later later = record {
        words = tt;
        cause = asked-begun held.holds (λ a. Fits a Unwritten) h.found h.begun (λ starts b. tt);
        out = out;
        files = files;
        wrote = asked-begun held.holds (λ a. GivesAsked a (λ text bytes. AppendsPrefix before.taken now.taken text)) h.found h.begun wrote;
        length = tt;
        later = (store_later, later);
      }
      finished Unsaved held holds before now h ends out files wrote store_later later = record {
        words = ends;
        cause = asked-begun held.holds (λ a. Fits a Unsaved) h.found h.begun (λ starts b. tt);
        out = out;
        files = files;
        wrote = asked-begun held.holds (λ a. GivesAsked a (λ text bytes. now.taken ≡ appended before.taken text)) h.found h.begun wrote;
        length = tt;
        later = (store_later, later);
      }
      finished NoMemory held holds before now h ends out files wrote store_later later = absurd ends

      -- an open run ends as what it leaves says
      pub ends-finished : (ending : Ending) (held mid holds : Store) (before now : Output) → HasBegun held mid → IsOfOpenRun order.save ending → Printed ending before now → Kept order.save ending mid holds
          → ((starts : List (ℕ → Sample)) → Packs starts base → Wrote order.save (Some (next starts)) ending mid holds before now)
          → mid.faults ≤ holds.faults → before.faults ≤ now.faults → Ends (Some (Measure order)) ending held holds before now
      ends-finished ending held mid holds before now h ends out files wrote store_later later =
          let K : Store → Type 0 = λ s. Kept order.save ending s holds in
          let W : Store → Type 0 = λ s. (starts : List (ℕ → Sample)) → Packs starts base → Wrote order.save (Some (next starts)) ending s holds before now in
          let F : Store → Type 0 = λ s. s.faults ≤ holds.faults in
          finished ending held holds before now (record { found = h.found; begun = h.begun; same = refl }) ends out (subst K h.same files) (subst W h.same wrote) (subst F h.same store_later) later
