-- The state that a checkpoint is, as a run starts from it.
use Rattle.std.proofs.Common.{◌≡◌, inl, inr, ℕ, ◌^◌, ◌<◌, ◌≤◌, Bool, true, false, List, length, Option, Some, None, option_map, IfSome, Result, Ok, Err, if◌then◌else◌, refl, sym, ap, ◌∙◌, subst, arith}
use Rattle.std.proofs.lemmas.List.{length-replicate, get_or-replicate}
use Rattle.glass_edges.specs.Contents.{Files}
use Rattle.glass_edges.specs.Refusals.{unless}
use Rattle.scalar_rule.specs.Plan.{Plan, slots_of}
use Rattle.scalar_rule.specs.Positions.{position_in, deepest_of}
use Rattle.scalar_rule.specs.Ragged.{Position}
use Rattle.plane_sweep.specs.Packed.{part, StandFits}
use Rattle.plane_sweep.specs.Uneven.{position_of, positions_of, level_stand, RaggedStandFits}
use Rattle.plane_sweep.specs.declared.stand.Stand.{Stand}
use Rattle.plane_sweep.specs.declared.uneven.Place.{Place}
use Rattle.plane_sweep.specs.declared.uneven.RaggedStand.{RaggedStand}
use Rattle.plane_sweep.proofs.LevelStands.{level-floor, position-at}
use Rattle.run_checkpoint.specs.Reading.{stand_in}
use Rattle.run_checkpoint.specs.UnevenDecoding.{is_uneven, uneven_in, any_in, any_refusal, any_decoded, IsAnyEncoded}
use Rattle.run_checkpoint.specs.declared.refused.CheckpointRefused.{CheckpointRefused}
use Rattle.run_checkpoint.specs.declared.refused.CheckpointRefused.TheVariants as checkpoint
use Rattle.glass_engine.proofs.SavedRuns.{fits-at}
use Rattle.glass_main.specs.Beginnings.{Beginning, Level, Uneven, states_in, resumed_by, IsBaseOf}
use Rattle.glass_main.specs.Endings.{IsOfFile, IsOfCheckpoint, TellsLength, FetchesCheckpoint}
use Rattle.glass_main.specs.Gathers.{Gathers, Fetches}
use Rattle.glass_main.specs.Outside.{Store}
use Rattle.glass_main.specs.Request.{and_then, told_as, bytes_at, read_at}
use Rattle.glass_main.specs.Resumes.{IsBegun, Resumes, Unresumed, Begins, ending_of}
use Rattle.glass_main.specs.Statuses.{IsRefusedBy}
use Rattle.glass_main.specs.declared.planned.Planned.{Planned}
use Rattle.glass_main.specs.declared.refusal.Refusal.{Refusal}
use Rattle.glass_main.specs.declared.refusal.Refusal.TheVariants as refused
use Rattle.glass_main.specs.declared.role.Role.TheVariants as roles
use Rattle.glass_main.specs.declared.ending.Ending.{Ending}
use Rattle.glass_main.specs.declared.ending.Ending.TheVariants.{Done, Refused, Unread, Unwritten, Unsaved, NoMemory}
use Rattle.glass_main.proofs.Fetching.{of-file-wider}

-- ---- the state of the bytes

-- a state that fits as one of slots at different epochs fits as one at its epoch
level-back : (plan : Plan) (samples every : ℕ) (stand : Stand) → 0 < slots_of plan → RaggedStandFits plan samples every (level_stand stand) → StandFits plan stand
level-back plan samples every stand some fits =
    let one : Place = record { epoch = stand.epoch; arrived = false } in
    let n = length stand.slots in
    let at : position_in (positions_of (level_stand stand)) 0 ≡ position_of one =
    position-at (level_stand stand).places 0 (omega (arith, length-replicate n one, fits.slots, some))
    ∙ ap position_of (get_or-replicate n 0 one _ (omega (arith, fits.slots, some))) in
    let small : stand.epoch < 2 ^ 64 = subst (λ (p : Position). p.epoch < 2 ^ 64) at (fits.epochs 0 some) in
    fits-at plan samples every stand.epoch (level_stand stand) fits small

by-kind : (plan : Plan) (samples every : ℕ) (uneven : Bool) (ragged : RaggedStand) (stand : Stand) → 0 < slots_of plan
    → RaggedStandFits plan samples every (if uneven then ragged else level_stand stand)
    → IsBaseOf plan (if uneven then Uneven ragged else Level (λ b. part plan.size b stand)) (if uneven then ragged else level_stand stand)
by-kind plan samples every true ragged stand some fits = refl
by-kind plan samples every false ragged stand some fits = record { stand = stand; is = refl; fits = level-back plan samples every stand some fits; stands = λ b small. refl }

bytes-base : (plan : Plan) (samples every : ℕ) (bytes : List ℕ) → 0 < slots_of plan → RaggedStandFits plan samples every (any_in plan bytes) → IsBaseOf plan (states_in plan bytes) (any_in plan bytes)
unfolding any_in
bytes-base plan samples every bytes some fits = by-kind plan samples every (is_uneven bytes) (uneven_in plan bytes) (stand_in plan bytes) some fits

resumed-by : (planned : Planned) (until : ℕ) (bytes : List ℕ) (refusal : Option CheckpointRefused) (base : RaggedStand) → 0 < slots_of planned.plan
    → RaggedStandFits planned.plan planned.orders.samples planned.orders.every base → unless refusal (any_in planned.plan bytes) ≡ Ok base
    → (from : Beginning) × (unless refusal (states_in planned.plan bytes) ≡ Ok from) × IsBaseOf planned.plan from base
resumed-by planned until bytes None base some fits is =
    let same : any_in planned.plan bytes ≡ base = same-ok _ _ is in
    let F : RaggedStand → Type 0 = λ r. RaggedStandFits planned.plan planned.orders.samples planned.orders.every r in
    (states_in planned.plan bytes, refl, subst (IsBaseOf planned.plan (states_in planned.plan bytes)) same (bytes-base planned.plan planned.orders.samples planned.orders.every bytes some (subst F (sym same) fits)))
  where
    same-ok : (a b : RaggedStand) → ◌≡◌ {A = Result RaggedStand CheckpointRefused} (Ok a) (Ok b) → a ≡ b
    same-ok a b e = cc
resumed-by planned until bytes (Some e) base some fits is = absurd cc

pub base-resumes : (planned : Planned) (until : ℕ) (bytes : List ℕ) (base : RaggedStand) → 0 < slots_of planned.plan
    → RaggedStandFits planned.plan planned.orders.samples planned.orders.every base
    → any_decoded planned.plan planned.orders.samples planned.orders.every until bytes ≡ Ok base → Resumes (IsBaseOf planned.plan) (resumed_by planned until bytes) (Ok base)
unfolding any_decoded resumed_by
base-resumes planned until bytes base some fits is =
    resumed-by planned until bytes (any_refusal planned.plan planned.orders.samples planned.orders.every until bytes) base some fits is

pub refused-by : {A B : Type 0} (refusal : Option CheckpointRefused) (x : A) (y : B) (e : CheckpointRefused) → unless refusal x ≡ Err e → (refusal ≡ Some e) × (unless refusal y ≡ Err e)
refused-by None x y e is = absurd cc
refused-by (Some due) x y e is = let same : due ≡ e = cc in (ap Some same, ap Err same)

by-name : {A : Type 0} (asked : Result A CheckpointRefused) (e : CheckpointRefused) → IsOfCheckpoint e × (asked ≡ Err e) → Unresumed asked (Refused (refused.Checkpoint e))
by-name asked e h = (e, refl, h.0, h.1)

-- a refusal by name is told as the checkpoint's, and lack of memory as itself
pub refusal-ends : {A : Type 0} (asked : Result A CheckpointRefused) (e : CheckpointRefused) → (¬ (e ≡ checkpoint.NoMemory) → IsOfCheckpoint e × (asked ≡ Err e)) → Unresumed asked (ending_of e)
refusal-ends asked checkpoint.NoMemory named = tt
refusal-ends asked (checkpoint.Short a) named = by-name asked (checkpoint.Short a) (named (λ e. absurd cc))
refusal-ends asked checkpoint.Magic named = by-name asked checkpoint.Magic (named (λ e. absurd cc))
refusal-ends asked (checkpoint.Shape a b) named = by-name asked (checkpoint.Shape a b) (named (λ e. absurd cc))
refusal-ends asked (checkpoint.Length a b) named = by-name asked (checkpoint.Length a b) (named (λ e. absurd cc))
refusal-ends asked (checkpoint.Digest a b) named = by-name asked (checkpoint.Digest a b) (named (λ e. absurd cc))
refusal-ends asked (checkpoint.OtherPlan a b) named = by-name asked (checkpoint.OtherPlan a b) (named (λ e. absurd cc))
refusal-ends asked (checkpoint.Replicas a b c) named = by-name asked (checkpoint.Replicas a b c) (named (λ e. absurd cc))
refusal-ends asked (checkpoint.Late a b) named = by-name asked (checkpoint.Late a b) (named (λ e. absurd cc))
refusal-ends asked (checkpoint.Places a) named = by-name asked (checkpoint.Places a) (named (λ e. absurd cc))
refusal-ends asked (checkpoint.Orders a b) named = by-name asked (checkpoint.Orders a b) (named (λ e. absurd cc))
refusal-ends asked (checkpoint.Pending a b) named = by-name asked (checkpoint.Pending a b) (named (λ e. absurd cc))
refusal-ends asked (checkpoint.BankCount a b) named = by-name asked (checkpoint.BankCount a b) (named (λ e. absurd cc))
refusal-ends asked (checkpoint.BankEpoch a b c) named = by-name asked (checkpoint.BankEpoch a b c) (named (λ e. absurd cc))

-- what the reader of one bank refuses
pub base-refused : (planned : Planned) (until : ℕ) (bytes : List ℕ) (e : CheckpointRefused)
    → (¬ (e ≡ checkpoint.NoMemory) → any_decoded planned.plan planned.orders.samples planned.orders.every until bytes ≡ Err e)
    → ¬ (e ≡ checkpoint.NoMemory) → IsOfCheckpoint e × (resumed_by planned until bytes ≡ Err e)
unfolding any_decoded resumed_by
base-refused planned until bytes e exact not =
    let plan = planned.plan in
    let o = planned.orders in
    let both = refused-by (any_refusal plan o.samples o.every until bytes) (any_in plan bytes) (states_in plan bytes) e (exact not) in
    (record { refusal = not; cause = inl (plan, o.samples, o.every, until, bytes, both.0) }, both.1)

-- no slot has completed more epochs than it may
pub encoded-reach : (plan : Plan) (samples every until : ℕ) (bytes : List ℕ) (base : RaggedStand) → 0 < slots_of plan → IsAnyEncoded plan samples every until bytes base → deepest_of (positions_of base) ≤ until
encoded-reach plan samples every until bytes base some encoded = elim encoded [
  | inl level ↦
      let long : 0 < length level.stand.slots = let z = level.encoded.fits.slots in omega arith in
      let deep = ap (λ (r : RaggedStand). deepest_of (positions_of r)) level.level ∙ (level-floor level.stand long).1 in
      let time = level.encoded.in_time in omega arith
  | inr uneven ↦ uneven.in_time
]

-- ---- the step

module _ {A B : Type 0} (Packs : A → B → Type 0) (read : List ℕ → Result A CheckpointRefused) (name : List ℕ) where
  -- what it gives where the bytes are these
  step-is : (bytes : List ℕ) (files : Files) → bytes_at roles.Checkpoint name files ≡ Ok bytes → read_at read name files ≡ told_as refused.Checkpoint (read bytes)
  unfolding read_at
  step-is bytes files found = ap (λ (a : Result (List ℕ) Refusal). and_then a (λ bs. told_as refused.Checkpoint (read bs))) found

  step-found : (bytes : List ℕ) (held : Option Files) (base : B) → IfSome (option_map (bytes_at roles.Checkpoint name) held) (λ a. a ≡ Ok bytes) → Resumes Packs (read bytes) (Ok base)
      → IfSome (option_map (read_at read name) held) (IsBegun Packs base)
  step-found bytes None base found (from, is, packs) = tt
  step-found bytes (Some files) base found (from, is, packs) = subst (IsBegun Packs base) (sym (step-is bytes files found ∙ ap (told_as refused.Checkpoint) is)) packs

  step-refused : (bytes : List ℕ) (held : Option Files) (e : CheckpointRefused) → IfSome (option_map (bytes_at roles.Checkpoint name) held) (λ a. a ≡ Ok bytes) → read bytes ≡ Err e
      → IfSome (option_map (read_at read name) held) (λ a. IsRefusedBy a (refused.Checkpoint e))
  step-refused bytes None e found is = tt
  step-refused bytes (Some files) e found is = subst (λ (a : Result A Refusal). IsRefusedBy a (refused.Checkpoint e)) (sym (step-is bytes files found ∙ ap (told_as refused.Checkpoint) is)) refl

  pub begins-read : (bytes : List ℕ) (r : Result B Ending) (held holds : Store)
      → Gathers (option_map (bytes_at roles.Checkpoint name) held.holds) (Fetches roles.Checkpoint) (Ok bytes) held holds → Resumes Packs (read bytes) r
      → Begins (Some name) Packs (option_map (read_at read name) held.holds) r held holds
  begins-read bytes (Ok base) held holds g is = record {
    found = step-found bytes held.holds base g.found is;
    passed = g.passed;
    stopped = tt;
    same = g.same;
    lengths = g.lengths;
    later = g.later;
  }
  begins-read bytes (Err Done) held holds g is = absurd is
  begins-read bytes (Err (Refused told)) held holds g (e, told_is, file, due) = record {
    found = tt;
    passed = tt;
    stopped = ((subst (IsOfFile (FetchesCheckpoint (Some name))) (sym told_is) (record { role_is = refl; named = λ none. absurd cc }, file), subst (λ t. IfSome (option_map (read_at read name) held.holds) (λ a. IsRefusedBy a t)) (sym told_is) (step-refused bytes held.holds e g.found due)), g.passed, subst (TellsLength held.holds held.lengths) (sym told_is) tt);
    same = g.same;
    lengths = g.lengths;
    later = g.later;
  }
  begins-read bytes (Err (Unread role)) held holds g is = absurd is
  begins-read bytes (Err Unwritten) held holds g is = absurd is
  begins-read bytes (Err Unsaved) held holds g is = absurd is
  begins-read bytes (Err NoMemory) held holds g is = record { found = tt; passed = tt; stopped = g.passed; same = g.same; lengths = g.lengths; later = g.later }

  step-absent : (held : Option Files) (told : Refusal) → IfSome (option_map (bytes_at roles.Checkpoint name) held) (λ a. IsRefusedBy a told)
      → IfSome (option_map (read_at read name) held) (λ a. IsRefusedBy a told)
  unfolding read_at
  step-absent None told is = tt
  step-absent (Some files) told is = next-refused (bytes_at roles.Checkpoint name files) is
    where
      next-refused : (a : Result (List ℕ) Refusal) → IsRefusedBy a told → IsRefusedBy (and_then a (λ bs. told_as refused.Checkpoint (read bs))) told
      next-refused (Ok bytes) r = absurd r
      next-refused (Err due) r = r

  pub begins-unread : (ending : Ending) (held holds : Store) → Gathers (option_map (bytes_at roles.Checkpoint name) held.holds) (Fetches roles.Checkpoint) (Err ending) held holds
      → Begins (Some name) Packs (option_map (read_at read name) held.holds) (Err ending) held holds
  begins-unread Done held holds g = absurd g.stopped
  begins-unread (Refused told) held holds g = record {
    found = tt;
    passed = tt;
    stopped = ((of-file-wider (Fetches roles.Checkpoint) (FetchesCheckpoint (Some name)) told (λ role is. record { role_is = is; named = λ none. absurd cc }) g.stopped.0.0, step-absent held.holds told g.stopped.0.1), g.stopped.1, g.stopped.2);
    same = g.same;
    lengths = g.lengths;
    later = g.later;
  }
  begins-unread (Unread role) held holds g = record {
    found = tt;
    passed = tt;
    stopped = (record { role_is = g.stopped.0; named = λ none. absurd cc }, g.stopped.1);
    same = g.same;
    lengths = g.lengths;
    later = g.later;
  }
  begins-unread Unwritten held holds g = absurd g.stopped
  begins-unread Unsaved held holds g = absurd g.stopped
  begins-unread NoMemory held holds g = record { found = tt; passed = tt; stopped = g.stopped; same = g.same; lengths = g.lengths; later = g.later }
