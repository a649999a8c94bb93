-- How a run ends once its files are read, of one bank or of several: by the step that gives what it starts from, and the work
-- from there.
use Rattle.std.proofs.Common.{◌≡◌, ℕ, ◌≤◌, List, Option, Some, None, option_map, IfSome, Result, Ok, Err, refl, sym, ap, ap₂, ◌∙◌, subst, inl, inr, arith}
use Rattle.glass_edges.specs.Contents.{Files, appended, AppendsPrefix}
use Rattle.glass_main.specs.declared.role.Role.TheVariants as roles
use Rattle.glass_main.specs.declared.refusal.Refusal.TheVariants as refused
use Rattle.glass_main.specs.declared.plans.Plans.{Plans}
use Rattle.glass_main.specs.declared.refusal.Refusal.{Refusal}
use Rattle.glass_main.specs.declared.ending.Ending.{Ending}
use Rattle.glass_main.specs.declared.ending.Ending.TheVariants.{Done, Refused, Unread, Unwritten, Unsaved, NoMemory}
use Rattle.command_words.specs.CommandLine.{Run}
use Rattle.command_words.specs.RunWords.{RunOrder}
use Rattle.glass_main.specs.Endings.{IsOfAmount, TellsLength, FetchesCheckpoint, MayFetch}
use Rattle.glass_main.proofs.Fetching.{of-file-wider, of-file-banked}
use Rattle.glass_main.specs.Opened.{IsUnopened, IsOfOpenRun}
use Rattle.glass_main.specs.Outside.{Output, Store}
use Rattle.glass_main.specs.Request.{Work, and_then, IsAccepted, plans_at, has_banks, run_of, run_at, GivesAsked}
use Rattle.glass_main.specs.Resumes.{IsBegun, Begins}
use Rattle.glass_main.specs.Statuses.{Ends, IsRefusedBy, Fits, Printed, Kept, IsGiven, Wrote}

-- stores that hold the same, have failed as often and tell the same lengths
pub same-store : (a b : Store) → a.holds ≡ b.holds → a.faults ≡ b.faults → a.lengths ≡ b.lengths → a ≡ b
same-store a b holds faults lengths =
    let first : Option Files → ℕ → Store = λ h n. record { holds = h; faults = n; lengths = a.lengths } in
    let second : (List ℕ → ℕ → Option ℕ) → Store = λ l. record { holds = b.holds; faults = b.faults; lengths = l } in
    ap₂ first holds faults ∙ ap second lengths

-- the refusal of an amount tells no length
amount-tells : (held : Option Files) (lengths : List ℕ → ℕ → Option ℕ) (told : Refusal) → IsOfAmount told → TellsLength held lengths told
amount-tells held lengths refused.Words h = tt
amount-tells held lengths (refused.Absent role) h = tt
amount-tells held lengths (refused.TooLong role n) h = absurd h
amount-tells held lengths (refused.Plan e) h = tt
amount-tells held lengths (refused.Rules e) h = tt
amount-tells held lengths (refused.Swaps e) h = tt
amount-tells held lengths (refused.Couplings e) h = tt
amount-tells held lengths (refused.Checkpoint e) h = tt
amount-tells held lengths (refused.Report e) h = tt
amount-tells held lengths (refused.SecondCheckpoint e) h = tt

-- a checkpoint is no run file
pub no-run-file : (name : Option (List ℕ)) → FetchesCheckpoint name roles.RunFile → ⊥
no-run-file name fetches = let is : roles.RunFile ≡ roles.Checkpoint = fetches.role_is in absurd cc

pub some-free : {A : Type 0} (x : Option A) (P : A → Type 0) → ((a : A) → P a) → IfSome x P
some-free None P p = tt
some-free (Some a) P p = p a

-- the plans are those that are asked for
abbrev pub HasPlans : RunOrder → Plans → Option Files → Type 0
HasPlans order plans held = IfSome (option_map (plans_at (has_banks order.stop_after) order.run) held) (λ a. a ≡ Ok plans)

accepted-plans : (order : RunOrder) (plans : Plans) (held : Option Files) → HasPlans order plans held → IfSome (option_map (plans_at (has_banks order.stop_after) order.run) held) IsAccepted
accepted-plans order plans None found = tt
accepted-plans order plans (Some files) found = subst (λ (a : Result Plans Refusal). IsAccepted a) (sym found) tt

module _ (order : RunOrder) (plans : Plans) {A : Type 0} (step : Files → Result A Refusal) (next : A → Result Work Refusal)
    (made : (files : Files) → run_of order files plans ≡ and_then (step files) next) where
  -- ---- what is asked for

  refused-next : (b : Result A Refusal) (told : Refusal) → IsRefusedBy b told → IsRefusedBy (and_then b next) told
  refused-next (Ok from) told is = absurd is
  refused-next (Err due) told is = is

  -- what it starts from is refused
  asked-refused : (held : Option Files) (told : Refusal) → HasPlans order plans held → IfSome (option_map step held) (λ a. IsRefusedBy a told)
      → IfSome (option_map (run_at order) held) (λ a. IsRefusedBy a told)
  asked-refused None told found is = tt
  asked-refused (Some files) told found is =
      subst (λ (a : Result Plans Refusal). IsRefusedBy (and_then a (run_of order files)) told) (sym found)
      (subst (λ (w : Result Work Refusal). IsRefusedBy w told) (sym (made files)) (refused-next (step files) told is))

  -- ---- a run whose starting state is not had

  unbegun : {B : Type 0} (Packs : A → B → Type 0) (ending : Ending) (held holds : Store) (before : Output) → HasPlans order plans held.holds
      → Begins {B = B} order.from Packs (option_map step held.holds) (Err ending) held holds → Ends (Some (Run order)) ending held holds before before
  unbegun Packs Done held holds before found b = absurd b.stopped
  unbegun Packs (Refused told) held holds before found b = record {
    words = inl (
      of-file-wider (FetchesCheckpoint order.from) (MayFetch (Run order) held.holds) told (λ role fetches. inr (record { fetches = fetches; reached = accepted-plans order plans held.holds found })) b.stopped.0.0,
      of-file-banked (has_banks order.stop_after) (FetchesCheckpoint order.from) told (no-run-file order.from) b.stopped.0.0,
    );
    cause = asked-refused held.holds told found b.stopped.0.1;
    out = refl;
    files = (b.same, b.stopped.1);
    wrote = tt;
    length = b.stopped.2;
    later = (b.later, omega arith);
  }
  unbegun Packs (Unread role) held holds before found b = record {
    words = inr (record { fetches = b.stopped.0; reached = accepted-plans order plans held.holds found });
    cause = some-free (option_map (run_at order) held.holds) (λ a. Fits a (Unread role)) (λ a. tt);
    out = refl;
    files = (b.same, b.stopped.1);
    wrote = tt;
    length = tt;
    later = (b.later, omega arith);
  }
  unbegun Packs Unwritten held holds before found b = absurd b.stopped
  unbegun Packs Unsaved held holds before found b = absurd b.stopped
  unbegun Packs NoMemory held holds before found b = record {
    words = tt;
    cause = some-free (option_map (run_at order) held.holds) (λ a. Fits a NoMemory) (λ a. tt);
    out = refl;
    files = (b.same, b.stopped);
    wrote = tt;
    length = tt;
    later = (b.later, omega arith);
  }

  pub ends-unbegun : {B : Type 0} (Packs : A → B → Type 0) (ending : Ending) (held holds : Store) (before : Output) → HasPlans order plans held.holds
      → Begins {B = B} order.from Packs (option_map step held.holds) (Err ending) held holds → Ends (Some (Run order)) ending held holds before before
  ends-unbegun Packs ending held holds before found b = unbegun Packs ending held holds before found b

  -- ---- a run whose starting state is had

  module _ {B : Type 0} (Packs : A → B → Type 0) (base : B) where
    begun-next : (b : Result A Refusal) (P : Result Work Refusal → Type 0) → IsBegun Packs base b → ((from : A) → Packs from base → P (next from)) → P (and_then b next)
    begun-next (Ok from) P begun p = p from begun
    begun-next (Err refusal) P begun p = absurd begun

    -- what holds of the work from each start that is packed so holds of what was asked for
    asked-begun : (held : Option Files) (P : Result Work Refusal → Type 0) → HasPlans order plans held → IfSome (option_map step held) (IsBegun Packs base)
        → ((from : A) → Packs from base → P (next from)) → IfSome (option_map (run_at order) held) P
    asked-begun None P found begun p = tt
    asked-begun (Some files) P found begun p =
        subst (λ (a : Result Plans Refusal). P (and_then a (run_of order files))) (sym found) (subst P (sym (made files)) (begun-next (step files) P begun p))

    -- the plans and the starting state are those that are asked for, and no file has changed
    pub record HasBegun (held now : Store) : Type 0 where
      pub found : HasPlans order plans held.holds
      pub begun : IfSome (option_map step held.holds) (IsBegun Packs base)
      pub same : now ≡ held

    pub has-begun : (held now : Store) → HasPlans order plans held.holds → Begins order.from Packs (option_map step held.holds) (Ok base) held now → HasBegun held now
    has-begun held now found b = record { found = found; begun = b.found; same = same-store now held b.same b.passed b.lengths }

    -- ---- it is not opened

    unopened : (any : A) (ending : Ending) (held : Store) (before : Output) → HasBegun held held → IsUnopened (next any) ending
        → ((from : A) → Packs from base → IsUnopened (next from) ending) → Ends (Some (Run order)) ending held held before before
    unopened any Done held before h amount stops = absurd amount
    unopened any (Refused told) held before h amount stops = record {
      words = inr amount.0;
      cause = asked-begun held.holds (λ a. IsRefusedBy a told) h.found h.begun (λ from b. (stops from b).1);
      out = refl;
      files = (refl, refl);
      wrote = tt;
      length = amount-tells held.holds held.lengths told amount.0;
      later = (omega arith, omega arith);
    }
    unopened any (Unread role) held before h amount stops = absurd amount
    unopened any Unwritten held before h amount stops = absurd amount
    unopened any Unsaved held before h amount stops = absurd amount
    unopened any NoMemory held before h amount stops = record {
      words = tt;
      cause = some-free (option_map (run_at order) held.holds) (λ a. Fits a NoMemory) (λ a. tt);
      out = refl;
      files = (refl, refl);
      wrote = tt;
      length = tt;
      later = (omega arith, omega arith);
    }

    pub ends-unopened : (any : A) (ending : Ending) (held now : Store) (before : Output) → HasBegun held now → IsUnopened (next any) ending
        → ((from : A) → Packs from base → IsUnopened (next from) ending) → Ends (Some (Run order)) ending held now before before
    ends-unopened any ending held now before h amount stops =
        let E : Store → Type 0 = λ s. Ends (Some (Run order)) ending held s before before in
        subst E (sym h.same) (unopened any ending held before (record { found = h.found; begun = h.begun; same = refl }) amount stops)

    -- ---- it is opened

    module _ (work : A → Work) (accepted : (from : A) → Packs from base → next from ≡ Ok (work from)) where
      -- what holds of the work that is accepted holds of what was asked for
      asked-run : (held : Store) (P : Result Work Refusal → Type 0) → HasBegun held held → ((from : A) → Packs from base → P (Ok (work from))) → IfSome (option_map (run_at order) held.holds) P
      asked-run held P h p = asked-begun held.holds P h.found h.begun (λ from b. subst P (sym (accepted from b)) (p from b))

      finished : (ending : Ending) (held holds : Store) (before now : Output) → HasBegun held held → IsOfOpenRun order.save ending → Printed ending before now → Kept order.save ending held holds
          → ((from : A) → Packs from base → Wrote order.save (Some (Ok (work from))) ending held holds before now)
          → held.faults ≤ holds.faults → before.faults ≤ now.faults → Ends (Some (Run order)) ending held holds before now
      finished Done held holds before now h ends out files wrote store_later later = record {
        words = tt;
        cause = asked-run held (λ a. Fits a Done) h (λ from b. tt);
        out = out;
        files = files;
        wrote = asked-run held (λ a. GivesAsked a (IsGiven order.save held holds before now)) h wrote;
        length = tt;
        later = (store_later, later);
      }
      finished (Refused refusal) held holds before now h ends out files wrote store_later later = absurd ends
      finished (Unread role) held holds before now h ends out files wrote store_later later = absurd ends
      finished Unwritten held holds before now h ends out files wrote store_later later = record {
        words = tt;
        cause = asked-run held (λ a. Fits a Unwritten) h (λ from b. tt);
        out = out;
        files = files;
        wrote = asked-run held (λ a. GivesAsked a (λ text bytes. AppendsPrefix before.taken now.taken text)) h wrote;
        length = tt;
        later = (store_later, later);
      }
      finished Unsaved held holds before now h ends out files wrote store_later later = record {
        words = ends;
        cause = asked-run held (λ a. Fits a Unsaved) h (λ from b. tt);
        out = out;
        files = files;
        wrote = asked-run held (λ a. GivesAsked a (λ text bytes. now.taken ≡ appended before.taken text)) h wrote;
        length = tt;
        later = (store_later, later);
      }
      finished NoMemory held holds before now h ends out files wrote store_later later = absurd ends

      -- an open run ends as what it leaves says
      pub ends-finished : (ending : Ending) (held mid holds : Store) (before now : Output) → HasBegun held mid → IsOfOpenRun order.save ending → Printed ending before now → Kept order.save ending mid holds
          → ((from : A) → Packs from base → Wrote order.save (Some (Ok (work from))) ending mid holds before now)
          → mid.faults ≤ holds.faults → before.faults ≤ now.faults → Ends (Some (Run order)) ending held holds before now
      ends-finished ending held mid holds before now h ends out files wrote store_later later =
          let K : Store → Type 0 = λ s. Kept order.save ending s holds in
          let W : Store → Type 0 = λ s. (from : A) → Packs from base → Wrote order.save (Some (Ok (work from))) ending s holds before now in
          let F : Store → Type 0 = λ s. s.faults ≤ holds.faults in
          finished ending held holds before now (record { found = h.found; begun = h.begun; same = refl }) ends out (subst K h.same files) (subst W h.same wrote) (subst F h.same store_later) later
