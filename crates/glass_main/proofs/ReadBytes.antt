-- A checkpoint that was read is a list of bytes.
use Rattle.std.proofs.Common.{◌≡◌, ℕ, Bool, true, false, cond, List, length, Option, Some, None, option_map, IfSome, Result, Ok, Err, refl, sym, ap, subst, arith}
use Rattle.std.specs.FinMap as finmap
use Rattle.std.specs.Prelude.{IfOk, nat_le}
use Rattle.glass_edges.specs.Contents.{Files}
use Rattle.glass_main.specs.CheckpointBytes.{AreBytes, HasBytes}
use Rattle.glass_main.specs.Endings.{FetchesCheckpoint}
use Rattle.glass_main.specs.Gathers.{Stops, Gathers}
use Rattle.glass_main.specs.Outside.{Store}
use Rattle.glass_main.specs.Request.{bytes_in, bytes_at, limit_of}
use Rattle.glass_main.specs.Resumes.{Begins}
use Rattle.glass_main.specs.Statuses.{refusal_status, role_status, status_of}
use Rattle.glass_main.specs.declared.role.Role.{Role}
use Rattle.glass_main.specs.declared.role.Role.TheVariants as roles
use Rattle.glass_main.specs.declared.refusal.Refusal.{Refusal}
use Rattle.glass_main.specs.declared.refusal.Refusal.TheVariants as refused
use Rattle.glass_main.specs.declared.ending.Ending.{Ending}
use Rattle.glass_main.specs.declared.ending.Ending.TheVariants.{Done, Refused, Unread, Unwritten, Unsaved, NoMemory}
use Rattle.glass_main.proofs.OneOfBanks.{same-ok}

-- ---- bytes of the store that are read

passed : {A : Type 0} (test : Bool) (x y : A) (e : Refusal) → cond test (Ok x) (Err e) ≡ Ok y → x ≡ y
passed true x y e is = same-ok x y is
passed false x y e is = absurd cc

-- are those that it holds
pub held-is : (role : Role) (found : Option (List ℕ)) (bytes : List ℕ) → bytes_in role found ≡ Ok bytes → found ≡ Some bytes
held-is role None bytes is = absurd cc
held-is role (Some own) bytes is = ap Some (passed (nat_le (length own) (limit_of role)) own bytes _ is)

pub has-bytes : (role : Role) (name : List ℕ) (held : Option Files) (bytes : List ℕ) → IfSome (option_map (bytes_at role name) held) (λ a. a ≡ Ok bytes) → AreBytes bytes → HasBytes held name
has-bytes role name None bytes found are = tt
has-bytes role name (Some files) bytes found are = subst (λ (f : Option (List ℕ)). IfSome f AreBytes) (sym (held-is role (finmap.get files name) bytes found)) are

pub ok-free : {A E : Type 0} (r : Result A E) (P : Type 0) → P → IfOk r (λ x. P)
ok-free (Ok x) P p = p
ok-free (Err e) P p = tt

-- ---- a call that is not done

stops-undone : {A : Type 0} (asked : Option (Result A Refusal)) (fetches : Role → Type 0) (ending : Ending) (old new : Store) (P : Type 0) → Stops asked fetches ending old new → ending ≡ Done → P
stops-undone asked fetches ending old new P stops is = absurd (subst (λ e. Stops asked fetches e old new) is stops)

pub gathers-undone : {A : Type 0} (asked : Option (Result A Refusal)) (fetches : Role → Type 0) (ending : Ending) (old new : Store) (P : Type 0)
    → Gathers {A = A} asked fetches (Err ending) old new → ending ≡ Done → P
gathers-undone asked fetches ending old new P g is = stops-undone asked fetches ending old new P g.stopped is

pub begins-undone : {A B : Type 0} (name : Option (List ℕ)) (Packs : A → B → Type 0) (asked : Option (Result A Refusal)) (ending : Ending) (old new : Store) (P : Type 0)
    → Begins {A = A} {B = B} name Packs asked (Err ending) old new → ending ≡ Done → P
begins-undone name Packs asked ending old new P b is = stops-undone asked (FetchesCheckpoint name) ending old new P b.stopped is

-- ---- the status of a call that is

role-some : (role : Role) → role_status role ≡ 0 → ⊥
role-some roles.RunFile is = omega (arith, is)
role-some roles.RuleTable is = omega (arith, is)
role-some roles.SwapTable is = omega (arith, is)
role-some roles.Couplings is = omega (arith, is)
role-some roles.Checkpoint is = omega (arith, is)
role-some roles.Report is = omega (arith, is)
role-some roles.SecondCheckpoint is = omega (arith, is)

refusal-some : (told : Refusal) → refusal_status told ≡ 0 → ⊥
refusal-some refused.Words is = omega (arith, is)
refusal-some (refused.Absent role) is = omega (arith, is)
refusal-some (refused.TooLong role n) is = role-some role is
refusal-some (refused.Plan e) is = omega (arith, is)
refusal-some (refused.Rules e) is = omega (arith, is)
refusal-some (refused.Swaps e) is = omega (arith, is)
refusal-some (refused.Couplings e) is = omega (arith, is)
refusal-some (refused.Checkpoint e) is = omega (arith, is)
refusal-some (refused.Report e) is = omega (arith, is)
refusal-some (refused.SecondCheckpoint e) is = omega (arith, is)

pub done-of : (ending : Ending) → status_of ending ≡ 0 → ending ≡ Done
done-of Done is = refl
done-of (Refused told) is = absurd (refusal-some told is)
done-of (Unread role) is = absurd (omega (arith, is))
done-of Unwritten is = absurd (omega (arith, is))
done-of Unsaved is = absurd (omega (arith, is))
done-of NoMemory is = absurd (omega (arith, is))
