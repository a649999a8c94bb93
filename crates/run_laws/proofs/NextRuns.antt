-- By the name that has what a lawful run saved, the next run begins with it.
use Rattle.std.proofs.Common.{arith, ◌≡◌, ℕ, ◌≤◌, cond, List, length, Some, Result, Ok, Err, ap, ◌∙◌}
use Rattle.std.specs.FinMap as finmap
use Rattle.std.proofs.lemmas.Bool.{le-leb}
use Rattle.glass_edges.specs.Contents.{Files}
use Rattle.plane_sweep.specs.declared.uneven.RaggedStand.{RaggedStand}
use Rattle.run_checkpoint.specs.BankEncoding.{AreBanks}
use Rattle.run_checkpoint.specs.Encoding.{AreBankStates}
use Rattle.run_checkpoint.specs.declared.refused.CheckpointRefused.{CheckpointRefused}
use Rattle.scalar_rule.specs.declared.sample.Sample.{Sample}
use Rattle.glass_main.specs.Beginnings.{Beginning, Level, Uneven, resumed_by, state_at, run_checkpoint}
use Rattle.glass_main.specs.LawfulRequests.{IsLawfulRun, IsLawfulRunOfBanks}
use Rattle.run_laws.specs.LengthLaws.{IsReadWhole}
use Rattle.glass_main.specs.ManyBanks.{PlannedBanks, banks_resumed_by, banks_at, banks_bytes}
use Rattle.run_laws.specs.NextRuns.{BeginsByName, BanksBeginByName, LawfulRunsGoOn}
use Rattle.glass_main.specs.Request.{and_then, told_as, bytes_in, bytes_at, limit_of, read_at, beginning_at}
use Rattle.glass_main.specs.Stops.{ComesTo, stopped_checkpoint}
use Rattle.glass_main.specs.declared.planned.Planned.{Planned}
use Rattle.glass_main.specs.declared.refusal.Refusal.{Refusal}
use Rattle.glass_main.specs.declared.refusal.Refusal.TheVariants as refused
use Rattle.glass_main.specs.declared.role.Role.TheVariants as roles
use Rattle.glass_main.proofs.BanksGoOn.{saved-banks-go-on}
use Rattle.run_laws.proofs.CheckpointLengths.{saved-short}
use Rattle.glass_main.proofs.ReadRuns.{saved-run-goes-on}
use Rattle.glass_main.proofs.ReadStops.{saved-read}

-- a checkpoint that a name has, is no longer than the limit, and is read as this
by-name : {A : Type 0} (read : List ℕ → Result A CheckpointRefused) (name : List ℕ) (files : Files) (bytes : List ℕ) (x : A) → finmap.get files name ≡ Some bytes → IsReadWhole bytes → read bytes ≡ Ok x
    → read_at read name files ≡ Ok x
unfolding read_at
by-name {A = A} read name files bytes x held short is =
    let too_long : Refusal = refused.TooLong roles.Checkpoint (length bytes) in
    let whole : bytes_at roles.Checkpoint name files ≡ Ok bytes =
    ap (bytes_in roles.Checkpoint) held ∙ ap (λ test. cond test (Ok bytes) (Err too_long)) (le-leb (length bytes) (limit_of roles.Checkpoint) short) in
    ap (λ (given : Result (List ℕ) Refusal). and_then given (λ bs. told_as refused.Checkpoint (read bs))) whole ∙ ap (told_as refused.Checkpoint) is

level : (planned : Planned) (from : Beginning) (e until : ℕ) (name : List ℕ) (files : Files) → IsLawfulRun planned from e
    → AreBankStates planned.plan (λ b. state_at planned.plan from e b) → finmap.get files name ≡ Some (run_checkpoint planned from e) → e ≤ until
    → BeginsByName planned from e until name files
level planned from e until name files run fit held within =
    let next = saved-run-goes-on planned from e until run.lawful.plan run.lawful.orders run.begins run.in_time within fit in
    let short = saved-short.level planned.plan (λ b. state_at planned.plan from e b) run.lawful.plan fit in
    record { next = next; begins = by-name (resumed_by planned until) name files (run_checkpoint planned from e) (Level next.later) held short next.read }

stopped : (planned : Planned) (from : Beginning) (e until takes : ℕ) (came : RaggedStand) (name : List ℕ) (files : Files) → IsLawfulRun planned from e
    → ComesTo planned from e takes came → finmap.get files name ≡ Some (stopped_checkpoint planned came) → e ≤ until → until ≤ 1000000000
    → beginning_at (Some name) planned until files ≡ Ok (Uneven came)
stopped planned from e until takes came name files run comes held within last =
    let fits = comes.reaches.fits in
    let deep = comes.within in
    let read = saved-read planned until came run.lawful.plan run.lawful.orders last fits (omega (arith, deep, within)) in
    by-name (resumed_by planned until) name files (stopped_checkpoint planned came) (Uneven came) held (saved-short.stopped planned came run.lawful.plan fits) read

banks : (planned : PlannedBanks) (starts : List (ℕ → Sample)) (e until : ℕ) (name : List ℕ) (files : Files) → IsLawfulRunOfBanks planned starts e
    → AreBanks e planned.plans (banks_at planned.plans starts e) → finmap.get files name ≡ Some (banks_bytes planned starts e) → e ≤ until
    → BanksBeginByName planned starts e until name files
banks planned starts e until name files run fit held within =
    let next = saved-banks-go-on planned starts e until run.lawful.plans run.begins run.in_time within fit in
    let short = saved-short.banks e planned.plans (banks_at planned.plans starts e) run.lawful.plans fit in
    record { next = next; begin = by-name (banks_resumed_by planned until) name files (banks_bytes planned starts e) next.later held short next.read }

pub lawful-go-on : LawfulRunsGoOn
lawful-go-on = record {
  level = λ planned from e until name files run fit held within. level planned from e until name files run fit held within;
  stopped = λ planned from e until takes came name files run comes held within last. stopped planned from e until takes came name files run comes held within last;
  banks = λ planned starts e until name files run fit held within. banks planned starts e until name files run fit held within;
}
