-- What a run saved is what the next one reads, and what is read is an encoding.
use Rattle.std.proofs.Common.{arith, ◌≡◌, inl, inr, ℕ, ◌≤◌, Bool, true, false, cond, List, take, Option, Some, None, IfErr, Result, Ok, Err, refl, sym, ap, ◌∙◌, subst}
use Rattle.std.specs.Str.{bytes_eq}
use Rattle.std.proofs.lemmas.Bool.{true≢false}
use Rattle.glass_edges.specs.Refusals.{unless, GivesAfterTests}
use Rattle.plane_sweep.specs.Packed.{part}
use Rattle.plane_sweep.specs.Uneven.{positions_of, uneven_part, RaggedStandFits, level_stand}
use Rattle.plane_sweep.specs.declared.stand.Stand.{Stand}
use Rattle.plane_sweep.specs.declared.uneven.RaggedStand.{RaggedStand}
use Rattle.run_checkpoint.specs.Encoding.{AreBankStates}
use Rattle.run_checkpoint.specs.Decoding.{level_refusal, IsEncoded}
use Rattle.run_checkpoint.specs.Kinds.{level_kind, uneven_kind}
use Rattle.run_checkpoint.specs.Reading.{stand_in}
use Rattle.run_checkpoint.specs.UnevenDecoding.{is_uneven, uneven_in, uneven_refusal, any_in, any_refusal, any_decoded, IsAnyEncoded}
use Rattle.run_checkpoint.specs.declared.refused.CheckpointRefused.{CheckpointRefused}
use Rattle.run_checkpoint.specs.declared.refused.CheckpointRefused.TheVariants as checkpoint
use Rattle.run_checkpoint.proofs.LevelClauses.{states-packed, none-is}
use Rattle.run_checkpoint.proofs.LevelForm.{form-again as level_form-again}
use Rattle.run_checkpoint.proofs.Tested.{Tells}
use Rattle.run_checkpoint.specs.Tests.{short}
use Rattle.run_checkpoint.proofs.UnevenClauses.{any-tells, any-found, any-uneven}
use Rattle.run_checkpoint.proofs.UnevenForm.{uneven-packed, uneven_form-again, uneven-again}
use Rattle.run_plan.specs.RunFile.{AreLawfulOrders}
use Rattle.scalar_rule.specs.Plan.{Plan, IsLawfulPlan}
use Rattle.scalar_rule.specs.Positions.{deepest_of}
use Rattle.glass_main.specs.Beginnings.{Beginning, Level, Uneven, states_in, resumed_by}
use Rattle.glass_main.specs.StopLaws.{IsEncodingOf}
use Rattle.glass_main.specs.Stops.{stopped_checkpoint}
use Rattle.glass_main.specs.declared.planned.Planned.{Planned}
use Rattle.glass_edges.proofs.FirstRefusals.{or-none, unless-ok}
use Rattle.glass_edges.proofs.NumberBytes.{IsBytes}
use Rattle.std.proofs.lemmas.Slice.Eq.{bytes_eq-Decides}

-- ---- what is read is an encoding

-- a checkpoint of states at one epoch is not of the other kind
level-other : (plan : Plan) (until : ℕ) (bytes : List ℕ) (stand : Stand) → IsLawfulPlan plan → IsEncoded plan until bytes stand → is_uneven bytes ≡ false
level-other plan until bytes stand lawful encoded =
    let are : AreBankStates plan (λ b. part plan.size b stand) = record { stand = stand; fits = encoded.fits; stands = λ b small. refl } in
    let whole = encoded.bytes_are ∙ states-packed plan (λ b. part plan.size b stand) are lawful in
    let has = level_form-again plan stand lawful encoded.fits in
    let kind : take 8 bytes ≡ level_kind = ap (take 8) whole ∙ has.kind in
    ap (λ x. bytes_eq x uneven_kind) kind ∙ apart
  where
    apart : bytes_eq level_kind uneven_kind ≡ false
    apart = refl

by-kind : (planned : Planned) (until : ℕ) (bytes : List ℕ) (kind : Bool) → is_uneven bytes ≡ kind → IsLawfulPlan planned.plan → IsBytes bytes
    → None ≡ cond kind (uneven_refusal planned.plan planned.orders.samples planned.orders.every until bytes) (level_refusal planned.plan until bytes)
    → IsAnyEncoded planned.plan planned.orders.samples planned.orders.every until bytes (cond kind (uneven_in planned.plan bytes) (level_stand (stand_in planned.plan bytes)))
    → IsEncodingOf planned until bytes (cond kind (Uneven (uneven_in planned.plan bytes)) (Level (λ b. part planned.plan.size b (stand_in planned.plan bytes))))
unfolding part
by-kind planned until bytes true kind lawful are none (inl level) = absurd (true≢false (sym kind ∙ level-other planned.plan until bytes level.stand lawful level.encoded))
by-kind planned until bytes true kind lawful are none (inr uneven) = (uneven.fits, uneven.in_time, uneven.bytes_are)
by-kind planned until bytes false kind lawful are none any =
    let e = none-is planned.plan until bytes lawful are none in
    (record { stand = stand_in planned.plan bytes; fits = e.fits; stands = λ b small. refl }, e.in_time, e.bytes_are)

pub accepted : (planned : Planned) (until : ℕ) (bytes : List ℕ) (from : Beginning) → IsLawfulPlan planned.plan → AreLawfulOrders planned.orders → IsBytes bytes
    → resumed_by planned until bytes ≡ Ok from → IsEncodingOf planned until bytes from
unfolding resumed_by any_decoded any_refusal any_in
accepted planned until bytes from lawful orders are is =
    let plan = planned.plan in
    let o = planned.orders in
    let h = unless-ok (any_refusal plan o.samples o.every until bytes) (states_in plan bytes) from is in
    let none = or-none (short 88 bytes) _ h.0 in
    let read : any_decoded plan o.samples o.every until bytes ≡ Ok (any_in plan bytes) = ap (λ r. unless r (any_in plan bytes)) (sym h.0) in
    let found : IsAnyEncoded plan o.samples o.every until bytes (any_in plan bytes) =
    any-found plan o.samples o.every until bytes (Ok (any_in plan bytes)) lawful orders.some_samples orders.few_samples orders.some_every are read in
    subst (IsEncodingOf planned until bytes) h.1 (by-kind planned until bytes (is_uneven bytes) refl lawful are none.1 found)

-- ---- what is saved is read

saved-uneven : (planned : Planned) (came : RaggedStand) → IsLawfulPlan planned.plan → RaggedStandFits planned.plan planned.orders.samples planned.orders.every came
    → (is_uneven (stopped_checkpoint planned came) ≡ true) × (uneven_in planned.plan (stopped_checkpoint planned came) ≡ came)
saved-uneven planned came lawful fits =
    let plan = planned.plan in
    let o = planned.orders in
    let whole = uneven-packed plan o.samples o.every came lawful fits in
    let has = uneven_form-again plan o.samples o.every came lawful fits in (
      (bytes_eq-Decides (take 8 (stopped_checkpoint planned came)) uneven_kind).1 (ap (take 8) whole ∙ has.kind),
      ap (uneven_in plan) whole ∙ uneven-again plan o.samples o.every came lawful fits,
    )

-- a result that is no refusal but for lack of memory is read
told-none : (refusal : Option CheckpointRefused) (x : RaggedStand) → Tells refusal → IfErr (unless refusal x) (λ e. e ≡ checkpoint.NoMemory) → refusal ≡ None
told-none None x tells is = refl
told-none (Some e) x tells is = absurd (tells is)

itself : (want : CheckpointRefused) (r : Result RaggedStand CheckpointRefused) → IfErr r (λ e. ¬ (e ≡ want)) → GivesAfterTests want (λ (s : RaggedStand). s) r r
itself want (Ok x) tells = refl
itself want (Err e) tells = ((λ is. absurd (tells is)), λ not. refl)

told : (refusal : Option CheckpointRefused) (x : RaggedStand) → Tells refusal → IfErr (unless refusal x) (λ e. ¬ (e ≡ checkpoint.NoMemory))
told None x tells = tt
told (Some e) x tells = tells

saved-none : (planned : Planned) (until : ℕ) (came : RaggedStand) → IsLawfulPlan planned.plan → AreLawfulOrders planned.orders → until ≤ 1000000000
    → RaggedStandFits planned.plan planned.orders.samples planned.orders.every came → deepest_of (positions_of came) ≤ until
    → any_refusal planned.plan planned.orders.samples planned.orders.every until (stopped_checkpoint planned came) ≡ None
unfolding any_decoded
saved-none planned until came lawful orders last fits deep =
    let plan = planned.plan in
    let o = planned.orders in
    let bytes = stopped_checkpoint planned came in
    let refusal = any_refusal plan o.samples o.every until bytes in
    let x = any_in plan bytes in
    let tells = any-tells plan o.samples o.every until bytes in
    let read = any-uneven plan o.samples o.every until bytes (unless refusal x) (λ b. uneven_part plan.size b came) came.pending lawful (omega (arith, orders.every)) last
    (record { stand = came; fits = fits; stands = λ b small. refl; records = refl }) deep refl (itself checkpoint.NoMemory (unless refusal x) (told refusal x tells)) in
    told-none refusal x tells read.1

pub saved-read : (planned : Planned) (until : ℕ) (came : RaggedStand) → IsLawfulPlan planned.plan → AreLawfulOrders planned.orders → until ≤ 1000000000
    → RaggedStandFits planned.plan planned.orders.samples planned.orders.every came → deepest_of (positions_of came) ≤ until
    → resumed_by planned until (stopped_checkpoint planned came) ≡ Ok (Uneven came)
unfolding resumed_by
saved-read planned until came lawful orders last fits deep =
    let plan = planned.plan in
    let bytes = stopped_checkpoint planned came in
    let is = saved-uneven planned came lawful fits in
    ap (λ r. unless r (states_in plan bytes)) (saved-none planned until came lawful orders last fits deep)
    ∙ ap (λ k. Ok (cond k (Uneven (uneven_in plan bytes)) (Level (λ b. part plan.size b (stand_in plan bytes))))) is.0
    ∙ ap (λ s. Ok (Uneven s)) is.1
