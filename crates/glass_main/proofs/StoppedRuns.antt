-- A run that may stop: where it comes to, and its report and checkpoint.
use Rattle.std.proofs.Common.{arith, ◌≡◌, ℕ, ◌+◌, ◌-◌, ◌*◌, ◌<◌, ◌≤◌, cond, List, [], ◌++◌, length, refl, sym, ap, ap₂, ◌∙◌, subst}
use Rattle.std.specs.Prelude.{min, ◌&&◌, nat_lt}
use Rattle.report_text.specs.Lines.{header_line, end_line}
use Rattle.run_plan.specs.declared.run_file.Orders.{Orders}
use Rattle.spin_model.proofs.Tables.{table-same}
use Rattle.scalar_rule.specs.Epoch.{epoch_records, record_of}
use Rattle.scalar_rule.specs.Laws.{IsReached, level_start}
use Rattle.scalar_rule.specs.Plan.{Plan, slots_of}
use Rattle.scalar_rule.specs.Positions.{done, floor_of, pending_record, uneven_record}
use Rattle.scalar_rule.specs.Ragged.{Position, UnevenState, position_at, arrived, all_ready}
use Rattle.scalar_rule.specs.Records.{measured_from}
use Rattle.scalar_rule.specs.Serial.{serial}
use Rattle.scalar_rule.specs.declared.sample.Record.{Record}
use Rattle.scalar_rule.specs.declared.sample.Sample.{Sample}
use Rattle.scalar_rule.proofs.LevelRuns.{all_ready-serial, level-record}
use Rattle.plane_sweep.specs.Packed.{part}
use Rattle.plane_sweep.specs.Uneven.{positions_of, uneven_part, level_stand}
use Rattle.plane_sweep.specs.declared.uneven.RaggedStand.{RaggedStand}
use Rattle.plane_sweep.proofs.LevelStands.{level-part, level-floor}
use Rattle.plane_sweep.proofs.SampleParts.{part-fits}
use Rattle.exchange_board.specs.Content.{plan_of}
use Rattle.exchange_board.specs.Stops.{IsStop}
use Rattle.exchange_board.specs.Views.{RaggedEndedView}
use Rattle.exchange_board.specs.declared.origin.Origin.{Origin}
use Rattle.glass_engine.specs.Report.{rows_in_order, uneven_measured, all_rest, uneven_report, bank_report}
use Rattle.glass_engine.specs.Runs.{RunView, hand_outs, IsEnd}
use Rattle.glass_engine.proofs.Pieces.{rows-same}
use Rattle.glass_engine.proofs.Reporting.{spins-same}
use Rattle.glass_main.specs.Beginnings.{Beginning, Level, Uneven, begins_at, state_at, IsLevelBase, IsBaseOf}
use Rattle.glass_main.specs.Stops.{states_of, kept_of, Reaches, ComesTo, rows_to, spins_at, stopped_text}
use Rattle.glass_main.specs.declared.planned.Planned.{Planned}

-- ---- a packed state, and the states that it is the base of

-- the states of the samples
pub base-state : (plan : Plan) (from : Beginning) (base : RaggedStand) (b : ℕ) → b < 64 → IsBaseOf plan from base → uneven_part plan.size b base ≡ states_of plan from b
base-state plan (Level start) base b small is =
    ap (uneven_part plan.size b) is.is ∙ level-part plan b is.stand is.fits.slots ∙ ap (level_start plan) (is.stands b small)
base-state plan (Uneven stand) base b small is = ap (uneven_part plan.size b) is

pub base-kept : (plan : Plan) (from : Beginning) (base : RaggedStand) → IsBaseOf plan from base → base.pending ≡ kept_of from
base-kept plan (Level start) base is = ap (λ (r : RaggedStand). r.pending) is.is
base-kept plan (Uneven stand) base is = ap (λ (r : RaggedStand). r.pending) is

pub base-floor : (plan : Plan) (from : Beginning) (base : RaggedStand) → 0 < slots_of plan → IsBaseOf plan from base → begins_at from ≡ floor_of (positions_of base)
unfolding part
base-floor plan (Level start) base some b =
    let first : b.stand.epoch ≡ (start 0).epoch = ap (λ (s : Sample). s.epoch) (b.stands 0 (omega arith)) in
    let long : 0 < length b.stand.slots = omega (arith, b.fits.slots, some) in
    let level = level-floor b.stand long in
    sym (ap (λ (r : RaggedStand). floor_of (positions_of r)) b.is ∙ level.0 ∙ first)
base-floor plan (Uneven stand) base some b = ap (λ (r : RaggedStand). floor_of (positions_of r)) (sym b)

-- their rows
level-rows : (plan : Plan) (samples every e : ℕ) (start : ℕ → Sample) (base : RaggedStand) → 0 < slots_of plan → samples ≤ 64 → IsLevelBase plan start base
    → rows_to plan samples every (Uneven base) e ≡ rows_to plan samples every (Level start) e
unfolding part
level-rows plan samples every e start base some few b =
    let stand = b.stand in
    let fits = b.fits in
    let opened : ℕ → Sample = λ i. part plan.size i stand in
    let packed : ℕ → UnevenState = λ i. uneven_part plan.size i (level_stand stand) in
    let level : ℕ → UnevenState = λ i. level_start plan (opened i) in
    let states : packed ≡ level = λ k. λ i. level-part plan i stand fits.slots k in
    let floor = level-floor stand (omega (arith, fits.slots, some)) in
    let first : stand.epoch ≡ (start 0).epoch = ap (λ (s : Sample). s.epoch) (b.stands 0 (omega arith)) in
    let from : floor_of (positions_of (level_stand stand)) ≡ (start 0).epoch = floor.0 ∙ first in
    let rows : (ℕ → UnevenState) → ℕ → List ℕ = λ s c. rows_in_order (uneven_measured plan s [] samples every) samples every c e in
    ap (λ r. rows_to plan samples every (Uneven r) e) b.is
    ∙ ap₂ rows states from
    ∙ rows-same (uneven_measured plan level [] samples every) (measured_from plan start) samples every (start 0).epoch e
    (λ i f since on h.
    table-same _ _ (slots_of plan) (λ t ht. level-record plan opened samples every i f t refl refl (omega arith) ht)
    ∙ ap (λ x. epoch_records plan (serial plan x f)) (b.stands i (omega arith)))

pub base-rows : (plan : Plan) (samples every e : ℕ) (from : Beginning) (base : RaggedStand) → 0 < slots_of plan → samples ≤ 64 → IsBaseOf plan from base
    → rows_to plan samples every (Uneven base) e ≡ rows_to plan samples every from e
base-rows plan samples every e (Level start) base some few is = level-rows plan samples every e start base some few is
base-rows plan samples every e (Uneven stand) base some few is = ap (λ r. rows_to plan samples every (Uneven r) e) is

-- the state at one epoch
pub level-state : (plan : Plan) (start : ℕ → Sample) (base : RaggedStand) (b e : ℕ) → b < 64 → (start 0).epoch ≤ e → IsLevelBase plan start base
    → all_ready plan (uneven_part plan.size b base) e ≡ serial plan (start b) e
unfolding part
level-state plan start base b e small from is =
    let x = part plan.size b is.stand in
    let first : is.stand.epoch ≡ (start 0).epoch = ap (λ (s : Sample). s.epoch) (is.stands 0 (omega arith)) in
    ap (λ s. all_ready plan s e) (ap (uneven_part plan.size b) is.is ∙ level-part plan b is.stand is.fits.slots)
    ∙ all_ready-serial plan x e (part-fits plan b is.stand small is.fits) (omega arith)
    ∙ ap (λ s. serial plan s e) (is.stands b small)

pub base-state-at : (plan : Plan) (from : Beginning) (base : RaggedStand) (b e : ℕ) → b < 64 → begins_at from ≤ e → IsBaseOf plan from base
    → all_ready plan (uneven_part plan.size b base) e ≡ state_at plan from e b
base-state-at plan (Level start) base b e small upto is = level-state plan start base b e small upto is
base-state-at plan (Uneven stand) base b e small upto is = ap (λ r. all_ready plan (uneven_part plan.size b r) e) is

pub base-spins : (plan : Plan) (samples e : ℕ) (from : Beginning) (base : RaggedStand) → samples ≤ 64 → begins_at from ≤ e → IsBaseOf plan from base
    → spins_at plan samples (Uneven base) e ≡ spins_at plan samples from e
base-spins plan samples e (Level start) base few upto is =
    spins-same plan samples _ _ (λ b h. ap (λ (s : Sample). s.slots) (level-state plan start base b e (omega arith) upto is))
base-spins plan samples e (Uneven stand) base few upto is = ap (λ r. spins_at plan samples (Uneven r) e) is

-- the report of a run that may stop
pub base-text : (planned : Planned) (from : Beginning) (until : ℕ) (ends : List Position) (base : RaggedStand) → 0 < slots_of planned.plan → planned.orders.samples ≤ 64 → begins_at from ≤ until
    → IsBaseOf planned.plan from base → stopped_text planned (Uneven base) until ends ≡ stopped_text planned from until ends
unfolding stopped_text
base-text planned from until ends base some few upto is =
    let plan = planned.plan in
    let o = planned.orders in
    let to = floor_of ends in
    let parts : ℕ → List ℕ → List ℕ → List ℕ =
    λ c rows spins. header_line plan o.samples c to ++ rows ++ end_line to ++ cond (o.spins && all_rest until ends) spins [] in
    ap (λ c. parts c (rows_to plan o.samples o.every (Uneven base) to) (spins_at plan o.samples (Uneven base) until)) (sym (base-floor plan from base some is))
    ∙ ap₂ (parts (begins_at from)) (base-rows plan o.samples o.every to from base some few is) (base-spins plan o.samples until from base few upto is)

-- ---- the report of a run that was opened so

as-opened : (run : RunView) (ends : List Position) → bank_report run ends ≡ stopped_text (record { plan = run.plan; orders = run.orders }) (Uneven run.base) run.until ends
unfolding stopped_text uneven_report
as-opened run ends = refl

pub stopped-report : (planned : Planned) (until : ℕ) (run : RunView) (ends : List Position) → run.plan ≡ planned.plan → run.orders ≡ planned.orders → run.until ≡ until
    → bank_report run ends ≡ stopped_text planned (Uneven run.base) until ends
stopped-report planned until run ends plan orders last =
    let make : Plan → Orders → Planned = λ p o. record { plan = p; orders = o } in
    as-opened run ends
    ∙ ap₂ (λ p o. stopped_text (make p o) (Uneven run.base) run.until ends) plan orders
    ∙ ap (λ e. stopped_text planned (Uneven run.base) e ends) last

-- ---- where it comes to

-- in the words of a board
reaches-origin : (o : Origin) (d : RaggedEndedView) → IsStop o d → Reaches (plan_of o) o.window.samples o.window.every (Uneven o.base) d.stand
reaches-origin o d s = record {
  fits = s.fits;
  since = s.from;
  reached = λ b small. s.reached b small;
  kept = λ b f t hb ht since below recorded. s.pending.each f b t since below recorded hb ht;
}

-- from a packed state
pub comes-packed : (planned : Planned) (until takes : ℕ) (run : RunView) (d : RaggedEndedView) → run.plan ≡ planned.plan → run.orders ≡ planned.orders → run.until ≡ until → run.takes ≡ takes → IsEnd run d
    → ComesTo planned (Uneven run.base) until takes d.stand
comes-packed planned until takes run d plan orders last many e =
    let o = d.origin in
    let w = o.window in
    let plan_is : plan_of o ≡ planned.plan = e.origin.plan_is ∙ plan in
    let samples_is : w.samples ≡ planned.orders.samples = e.origin.samples_is ∙ ap (λ (x : Orders). x.samples) orders in
    let every_is : w.every ≡ planned.orders.every = e.origin.every_is ∙ ap (λ (x : Orders). x.every) orders in
    let until_is : w.until ≡ until = e.origin.until_is ∙ last in
    let R : Plan → ℕ → ℕ → RaggedStand → Type 0 = λ p s v b. Reaches p s v (Uneven b) d.stand in
    let r1 : R planned.plan w.samples w.every o.base = subst (λ p. R p w.samples w.every o.base) plan_is (reaches-origin o d e.stop) in
    let r2 = subst (λ s. R planned.plan s w.every o.base) samples_is r1 in
    let r3 = subst (λ v. R planned.plan planned.orders.samples v o.base) every_is r2 in
    let H : Plan → RaggedStand → ℕ → ℕ → Type 0 =
    λ p b n k. hand_outs p (positions_of d.stand) ≡ hand_outs p (positions_of b) + min n (slots_of p * k - hand_outs p (positions_of b)) in
    let h1 : H planned.plan o.base run.takes run.until = subst (λ p. H p o.base run.takes run.until) plan_is e.made in
    let h2 = subst (λ b. H planned.plan b run.takes run.until) e.origin.base_is h1 in
    let h3 = subst (λ n. H planned.plan run.base n run.until) many h2 in
    record {
      reaches = subst (λ b. R planned.plan planned.orders.samples planned.orders.every b) e.origin.base_is r3;
      within = let z = e.stop.reach in omega arith;
      made = subst (λ k. H planned.plan run.base takes k) last h3;
    }

-- from what it is the base of
pub record-same : (plan : Plan) (samples every b f t : ℕ) (s r : ℕ → UnevenState) (kept other : List Record) → s 0 ≡ r 0 → s b ≡ r b → kept ≡ other
    → uneven_record plan s kept samples every b f t ≡ uneven_record plan r other samples every b f t
record-same plan samples every b f t s r kept other first same records =
    let E : UnevenState → UnevenState → List Record → Record =
    λ x y z. cond (nat_lt f (done (position_at x t))) (pending_record samples every x.positions z b f t) (record_of plan b (arrived plan y f t)) in
    ap₂ (λ x y. E x y kept) first same ∙ ap (E (r 0) (r b)) records

pub comes-from : (planned : Planned) (from : Beginning) (until takes : ℕ) (base came : RaggedStand) → 0 < slots_of planned.plan → planned.orders.samples ≤ 64 → IsBaseOf planned.plan from base
    → ComesTo planned (Uneven base) until takes came → ComesTo planned from until takes came
comes-from planned from until takes base came some few is c =
    let plan = planned.plan in
    let o = planned.orders in
    let first : uneven_part plan.size 0 base ≡ states_of plan from 0 = base-state plan from base 0 (omega arith) is in
    let r = c.reaches in
    let M : UnevenState → Type 0 = λ s. hand_outs plan (positions_of came) ≡ hand_outs plan s.positions + min takes (slots_of plan * until - hand_outs plan s.positions) in
    record {
      reaches = record {
        fits = r.fits;
        since = subst (λ k. k ≤ floor_of (positions_of came)) (sym (base-floor plan from base some is)) r.since;
        reached = λ b small. let I : UnevenState → Type 0 = λ s. IsReached plan s (uneven_part plan.size b came) in subst I (base-state plan from base b small is) (r.reached b small);
        kept = λ b f t hb ht since below recorded. r.kept b f t hb ht since below recorded
            ∙ record-same plan o.samples o.every b f t (λ i. uneven_part plan.size i base) (states_of plan from) base.pending (kept_of from) first (base-state plan from base b (omega arith) is) (base-kept plan from base is);
      };
      within = c.within;
      made = subst M first c.made;
    }
