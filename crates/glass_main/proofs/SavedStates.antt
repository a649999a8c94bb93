-- The checkpoints whose link overlaps and correlation lines are printed: what they are refused for, and what they are read as.
use Rattle.std.proofs.Common.{inl, ◌≡◌, ℕ, ◌≤◌, Bool, true, false, List, replicate, take, Option, Some, None, option_map, IfSome, Result, Ok, Err, IfOk, IfErr, refl, sym, ap, ◌∙◌, subst}
use Rattle.std.specs.Str.{bytes_eq}
use Rattle.glass_edges.specs.Contents.{Files}
use Rattle.glass_edges.specs.Refusals.{unless, GivesAfterTests}
use Rattle.scalar_rule.specs.Plan.{Plan, IsLawfulPlan}
use Rattle.scalar_rule.specs.declared.sample.Sample.{Sample}
use Rattle.plane_sweep.specs.Packed.{StandsFor}
use Rattle.plane_sweep.specs.declared.stand.Stand.{Stand}
use Rattle.run_checkpoint.specs.Decoding.{level_refusal, decoded, IsEncoded}
use Rattle.run_checkpoint.specs.Encoding.{encoding, AreBankStates}
use Rattle.run_checkpoint.specs.Kinds.{level_kind, uneven_kind}
use Rattle.run_checkpoint.specs.Reading.{stand_in}
use Rattle.run_checkpoint.specs.Tests.{short, other_kind, form_refusal}
use Rattle.run_checkpoint.specs.UnevenDecoding.{is_uneven, any_refusal}
use Rattle.run_checkpoint.specs.declared.refused.CheckpointRefused.{CheckpointRefused}
use Rattle.run_checkpoint.specs.declared.refused.CheckpointRefused.TheVariants as checkpoint
use Rattle.run_checkpoint.proofs.LevelClauses.{none-is, is-only, level-tells}
use Rattle.run_checkpoint.proofs.Tested.{Tells}
use Rattle.glass_main.specs.Endings.{IsOfCheckpoint, IsOfOneEpoch}
use Rattle.glass_main.specs.Gathers.{Gathers, Fetches}
use Rattle.glass_main.specs.Outside.{Store}
use Rattle.glass_main.specs.Request.{and_then, told_as, bytes_at, stand_at}
use Rattle.glass_main.specs.Statuses.{IsRefusedBy}
use Rattle.glass_main.specs.declared.refusal.Refusal.{Refusal}
use Rattle.glass_main.specs.declared.ending.Ending.TheVariants.{Refused}
use Rattle.glass_main.specs.declared.role.Role.TheVariants as roles
use Rattle.glass_main.specs.SavedLaws.{IsRead}
use Rattle.glass_main.specs.declared.refusal.Refusal.TheVariants.{Checkpoint}
use Rattle.glass_edges.proofs.FirstRefusals.{unless-ok}
use Rattle.glass_edges.proofs.NumberBytes.{IsBytes}
use Rattle.std.proofs.lemmas.Slice.Eq.{bytes_eq-Decides}

-- ---- refusals

short-first : (plan : Plan) (until : ℕ) (bytes : List ℕ) (s : CheckpointRefused) → short 88 bytes ≡ Some s → level_refusal plan until bytes ≡ Some s
unfolding level_refusal form_refusal
short-first plan until bytes s is = rw is refl

short-any : (plan : Plan) (until : ℕ) (bytes : List ℕ) (s : CheckpointRefused) → short 88 bytes ≡ Some s → any_refusal plan 1 1 until bytes ≡ Some s
unfolding any_refusal
short-any plan until bytes s is = rw is refl

level-any : (plan : Plan) (until : ℕ) (bytes : List ℕ) → short 88 bytes ≡ None → is_uneven bytes ≡ false → any_refusal plan 1 1 until bytes ≡ level_refusal plan until bytes
unfolding any_refusal
level-any plan until bytes none level = rw (none, level) refl

apart : bytes_eq uneven_kind level_kind ≡ false
apart = refl

kind-first : (plan : Plan) (until : ℕ) (bytes : List ℕ) → short 88 bytes ≡ None → is_uneven bytes ≡ true → level_refusal plan until bytes ≡ Some checkpoint.Magic
unfolding level_refusal form_refusal other_kind
kind-first plan until bytes none uneven =
    let other : bytes_eq (take 8 bytes) level_kind ≡ false = ap (λ x. bytes_eq x level_kind) ((bytes_eq-Decides (take 8 bytes) uneven_kind).0 uneven) ∙ apart in
    rw (none, other) refl

-- 88 bytes 0 are of no kind
kind-any : (plan : Plan) (until : ℕ) → any_refusal plan 1 1 until (replicate 88 0) ≡ Some checkpoint.Magic
unfolding any_refusal level_refusal form_refusal short other_kind
kind-any plan until = refl

same-some : (a b : CheckpointRefused) (x : Option CheckpointRefused) → x ≡ Some a → x ≡ Some b → a ≡ b
same-some a b x is other = cc

any-of : (plan : Plan) (until : ℕ) (bytes : List ℕ) (e : CheckpointRefused) (first : Option CheckpointRefused) (kind : Bool) → short 88 bytes ≡ first → is_uneven bytes ≡ kind
    → level_refusal plan until bytes ≡ Some e → (other : List ℕ) × (any_refusal plan 1 1 until other ≡ Some e)
any-of plan until bytes e (Some s) kind first is due =
    (bytes, short-any plan until bytes s first ∙ ap Some (same-some s e (level_refusal plan until bytes) (short-first plan until bytes s first) due))
any-of plan until bytes e None false first is due = (bytes, level-any plan until bytes first is ∙ due)
any-of plan until bytes e None true first is due =
    (replicate 88 0, kind-any plan until ∙ ap Some (same-some checkpoint.Magic e (level_refusal plan until bytes) (kind-first plan until bytes first is) due))

-- a checkpoint that is refused at one epoch is refused so as one to go on from
pub level-cause : (plan : Plan) (until : ℕ) (bytes : List ℕ) (e : CheckpointRefused) → ¬ (e ≡ checkpoint.NoMemory) → level_refusal plan until bytes ≡ Some e → IsOfCheckpoint e
level-cause plan until bytes e refusal due =
    let any = any-of plan until bytes e (short 88 bytes) (is_uneven bytes) refl refl due in
    record { refusal = refusal; cause = inl (plan, 1, 1, until, any.0, any.1) }

due-of : (refusal : Option CheckpointRefused) (x : Stand) (e : CheckpointRefused) → unless refusal x ≡ Err e → refusal ≡ Some e
due-of None x e is = absurd cc
due-of (Some due) x e is = let same : due ≡ e = cc in ap Some same

-- what the reader refuses is due
pub decoded-due : (plan : Plan) (bytes : List ℕ) (e : CheckpointRefused) → decoded plan 1000000000 bytes ≡ Err e → level_refusal plan 1000000000 bytes ≡ Some e
unfolding decoded
decoded-due plan bytes e is = due-of (level_refusal plan 1000000000 bytes) (stand_in plan bytes) e is

-- both of what the reader refuses
pub decoded-cause : (plan : Plan) (bytes : List ℕ) (e : CheckpointRefused) → ¬ (e ≡ checkpoint.NoMemory) → decoded plan 1000000000 bytes ≡ Err e → IsOfCheckpoint e × IsOfOneEpoch (Checkpoint e)
decoded-cause plan bytes e refusal is =
    let due = decoded-due plan bytes e is in
    (level-cause plan 1000000000 bytes e refusal due, (plan, bytes, due))

step-refused : (plan : Plan) (name bytes : List ℕ) (e : CheckpointRefused) (held : Option Files) → IfSome (option_map (bytes_at roles.Checkpoint name) held) (λ a. a ≡ Ok bytes)
    → decoded plan 1000000000 bytes ≡ Err e → IfSome (option_map (stand_at plan name) held) (λ a. IsRefusedBy a (Checkpoint e))
unfolding stand_at
step-refused plan name bytes e None found read = tt
step-refused plan name bytes e (Some files) found read =
    let whole : stand_at plan name files ≡ Err (Checkpoint e) =
    ap (λ (a : Result (List ℕ) Refusal). and_then a (λ bs. told_as Checkpoint (decoded plan 1000000000 bs))) found ∙ ap (told_as Checkpoint) read in
    subst (λ (a : Result Stand Refusal). IsRefusedBy a (Checkpoint e)) (sym whole) refl

-- the step that reads such a checkpoint stops
pub stand-refused : (plan : Plan) (name bytes : List ℕ) (e : CheckpointRefused) (held holds : Store)
    → IfSome (option_map (bytes_at roles.Checkpoint name) held.holds) (λ a. a ≡ Ok bytes) → IsOfCheckpoint e → decoded plan 1000000000 bytes ≡ Err e
    → holds.faults ≡ held.faults → holds.holds ≡ held.holds → holds.lengths ≡ held.lengths → held.faults ≤ holds.faults
    → Gathers {A = Stand} (option_map (stand_at plan name) held.holds) (Fetches roles.Checkpoint) (Err (Refused (Checkpoint e))) held holds
stand-refused plan name bytes e held holds found file due passed same lengths later = record {
  found = tt;
  passed = tt;
  stopped = (((refl, file), step-refused plan name bytes e held.holds found due), passed, tt);
  same = same;
  lengths = lengths;
  later = later;
}

-- ---- what is read

pub read-encoded : (plan : Plan) (bytes : List ℕ) (base : Stand) → IsLawfulPlan plan → IsBytes bytes → decoded plan 1000000000 bytes ≡ Ok base → IsEncoded plan 1000000000 bytes base
unfolding decoded
read-encoded plan bytes base lawful are is =
    let h = unless-ok (level_refusal plan 1000000000 bytes) (stand_in plan bytes) base is in
    subst (IsEncoded plan 1000000000 bytes) h.1 (none-is plan 1000000000 bytes lawful are h.0)

itself : (refusal : Option CheckpointRefused) (x : Stand) → Tells refusal → GivesAfterTests checkpoint.NoMemory (λ (s : Stand). s) (unless refusal x) (unless refusal x)
itself None x tells = refl
itself (Some e) x tells = ((λ is. absurd (tells is)), λ not. refl)

is-read : (plan : Plan) (states : ℕ → Sample) (bytes : List ℕ) (refusal : Option CheckpointRefused) (x : Stand) → Tells refusal → decoded plan 1000000000 bytes ≡ unless refusal x
    → IfOk (unless refusal x) (StandsFor plan states) × IfErr (unless refusal x) (λ e. e ≡ checkpoint.NoMemory) → IsRead plan states bytes
is-read plan states bytes None x tells is only = record { base = x; read = is; stands = only.0 }
is-read plan states bytes (Some e) x tells is only = absurd (tells only.1)

pub encoded-read : (plan : Plan) (states : ℕ → Sample) → IsLawfulPlan plan → AreBankStates plan states → (states 0).epoch ≤ 1000000000 → IsRead plan states (encoding plan states)
unfolding decoded
encoded-read plan states lawful are time =
    let bytes = encoding plan states in
    let refusal = level_refusal plan 1000000000 bytes in
    let tells = level-tells plan 1000000000 bytes in
    let given = itself refusal (stand_in plan bytes) tells in
    is-read plan states bytes refusal (stand_in plan bytes) tells refl (is-only plan 1000000000 bytes (unless refusal (stand_in plan bytes)) states lawful are time refl given)
