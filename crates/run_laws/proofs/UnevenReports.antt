-- The report of a run whose slots begin or end at epochs of their own is a lawful report.
use Rattle.std.proofs.Common.{arith, ◌≡◌, ℕ, zero, suc, ◌<◌, ◌≤◌, Bool, true, false, cond, not, ◌&&◌, ◌==◌, nat_lt, List, [], ◌∷◌, length, refl, sym, subst, pos, All}
use Rattle.std.specs.Prelude.{slice_index_or}
use Rattle.std.proofs.lemmas.Bool.{ltb-true, ltb-false}
use Rattle.std.proofs.lemmas.List.{get_or_past}
use Rattle.spin_model.proofs.Tables.{length-table, get_or-table}
use Rattle.scalar_rule.specs.Epoch.{has_turn, has_partner, partner, pair_of, side, slot_at, swept_slot, record_of}
use Rattle.scalar_rule.specs.Exchange.{traded, decision, cold_side, hot_side}
use Rattle.scalar_rule.specs.Plan.{Plan, IsLawfulPlan, slots_of}
use Rattle.scalar_rule.specs.Positions.{done, floor_of, deepest_of, least, greatest, position_in, pending_before, cell_number, pending_record, uneven_record}
use Rattle.scalar_rule.specs.Ragged.{Position, UnevenState, position_at, waiting_from, ready, arrived, generators, all_ready}
use Rattle.scalar_rule.specs.declared.plain_copy.PlainCopy.{PlainCopy}
use Rattle.scalar_rule.specs.declared.sample.PlainPair.{PlainPair}
use Rattle.scalar_rule.specs.declared.sample.PlainSlot.{PlainSlot}
use Rattle.scalar_rule.specs.declared.sample.Record.{Record}
use Rattle.scalar_rule.proofs.Extremes.{least-at, greatest-at}
use Rattle.plane_sweep.specs.Packed.{PermutesAt}
use Rattle.plane_sweep.specs.Uneven.{positions_of, uneven_part}
use Rattle.plane_sweep.specs.declared.uneven.RaggedStand.{RaggedStand}
use Rattle.exchange_board.specs.Content.{plan_of}
use Rattle.exchange_board.specs.Views.{RaggedEndedView}
use Rattle.exchange_board.proofs.Settling.{partner-known}
use Rattle.glass_engine.specs.BankRuns.{run_report}
use Rattle.glass_engine.specs.Report.{uneven_measured, all_rest, uneven_report}
use Rattle.glass_engine.specs.Runs.{RunView, starts, IsEnd}
use Rattle.glass_engine.proofs.Reporting.{one-report}
use Rattle.run_laws.specs.LawfulRuns.{IsLawfulText, IsWithin}
use Rattle.run_laws.proofs.LawfulReports.{composed, record-within, swept-labels, IsMeasured}

-- ---- labels stay numbers of slots

abbrev HasLabels : ℕ → PlainSlot → Type 0
HasLabels n slot = (slot.first.replica < n) × (slot.second.replica < n)

traded-label : (n : ℕ) (swap : Bool) (own other : PlainCopy) → own.replica < n → other.replica < n → (traded swap own other).replica < n
traded-label n true own other p q = q
traded-label n false own other p q = p

cold-labels : (n : ℕ) (plan : Plan) (b k : ℕ) (pair : PlainPair) (cold hot : PlainSlot) → HasLabels n cold → HasLabels n hot → HasLabels n (cold_side plan b k pair cold hot)
unfolding cold_side
cold-labels n plan b k pair cold hot c h =
    (traded-label n (decision plan b k pair.first cold.first hot.first) cold.first hot.first c.0 h.0, traded-label n (decision plan b k pair.second cold.second hot.second) cold.second hot.second c.1 h.1)

hot-labels : (n : ℕ) (plan : Plan) (b k : ℕ) (pair : PlainPair) (cold hot : PlainSlot) → HasLabels n cold → HasLabels n hot → HasLabels n (hot_side plan b k pair cold hot)
unfolding hot_side
hot-labels n plan b k pair cold hot c h =
    (traded-label n (decision plan b k pair.first cold.first hot.first) hot.first cold.first h.0 c.0, traded-label n (decision plan b k pair.second cold.second hot.second) hot.second cold.second h.1 c.1)

either-slot : (P : PlainSlot → Type 0) (t : Bool) (a b : PlainSlot) → P a → P b → P (cond t a b)
either-slot P true a b p q = p
either-slot P false a b p q = q

side-labels : (n : ℕ) (plan : Plan) (b e t : ℕ) (pair : PlainPair) (own other : PlainSlot) → HasLabels n own → HasLabels n other → HasLabels n (side plan b e t pair own other)
unfolding side
side-labels n plan b e t pair own other p q =
    either-slot (HasLabels n) (has_turn t e) (cold_side plan b (pair_of t e) pair own other) (hot_side plan b (pair_of t e) pair other own)
    (cold-labels n plan b (pair_of t e) pair own other p q) (hot-labels n plan b (pair_of t e) pair other own q p)

swept-have : (n : ℕ) (plan : Plan) (b t : ℕ) (slot : PlainSlot) → HasLabels n slot → HasLabels n (swept_slot plan b t slot)
swept-have n plan b t slot p =
    let kept = swept-labels plan b t slot in
    (subst (λ q. q < n) (sym kept.0) p.0, subst (λ q. q < n) (sym kept.1) p.1)

-- the labels of each slot of a state
abbrev pub LabelsWithin : Plan → UnevenState → Type 0
LabelsWithin plan s = (t : ℕ) → t < slots_of plan → HasLabels (slots_of plan) (slot_at s.slots t)

waiting-labels : (plan : Plan) (s : UnevenState) (e t : ℕ) (rest : PlainSlot) → LabelsWithin plan s → t < slots_of plan → HasLabels (slots_of plan) rest → HasLabels (slots_of plan) (waiting_from plan s e t rest)
waiting-labels plan s e t rest labels below p =
    either-slot (HasLabels (slots_of plan)) ((position_at s t).waits && (position_at s t).epoch == e) (slot_at s.slots t) (swept_slot plan s.bit t rest)
    (labels t below) (swept-have (slots_of plan) plan s.bit t rest p)

three-slots : (P : PlainSlot → Type 0) (x y : Bool) (own exchanged alone : PlainSlot) → P own → (y ≡ true → P exchanged) → P alone → P (cond x own (cond y exchanged alone))
three-slots P true y own exchanged alone p q r = p
three-slots P false true own exchanged alone p q r = q refl
three-slots P false false own exchanged alone p q r = r

ready-labels : (plan : Plan) (s : UnevenState) (e t : ℕ) → LabelsWithin plan s → t < slots_of plan → HasLabels (slots_of plan) (ready plan s e t)
unfolding ready
ready-labels plan s zero t labels below = labels t below
ready-labels plan s (suc e) t labels below =
    let own = waiting-labels plan s e t (ready plan s e t) labels below (ready-labels plan s e t labels below) in
    three-slots (HasLabels (slots_of plan)) (not (position_at s t).waits && (position_at s t).epoch == suc e) (has_partner (slots_of plan) t e) (slot_at s.slots t)
    (side plan s.bit e t (generators plan s (pair_of t e) e) (waiting_from plan s e t (ready plan s e t)) (waiting_from plan s e (partner t e) (ready plan s e (partner t e))))
    (waiting_from plan s e t (ready plan s e t))
    (labels t below)
    (λ has.
    let near : partner t e < slots_of plan = partner-known (slots_of plan) t e (partner t e) below has refl in
    side-labels (slots_of plan) plan s.bit e t (generators plan s (pair_of t e) e) (waiting_from plan s e t (ready plan s e t)) (waiting_from plan s e (partner t e) (ready plan s e (partner t e)))
    own (waiting-labels plan s e (partner t e) (ready plan s e (partner t e)) labels near (ready-labels plan s e (partner t e) labels near)))
    own

arrived-labels : (plan : Plan) (s : UnevenState) (e t : ℕ) → LabelsWithin plan s → t < slots_of plan → HasLabels (slots_of plan) (arrived plan s e t)
arrived-labels plan s e t labels below = waiting-labels plan s e t (ready plan s e t) labels below (ready-labels plan s e t labels below)

-- ---- what is measured, and what was kept ahead

zeros : Record
zeros = record { first_energy = pos 0; second_energy = pos 0; overlap = pos 0; first_replica = 0; second_replica = 0 }

zeros-within : (plan : Plan) → 0 < slots_of plan → IsWithin plan zeros
unfolding zeros
zeros-within plan some = record { first_energy = omega arith; second_energy = omega arith; overlap = omega arith; first_replica = some; second_replica = some }

item-within : (plan : Plan) (ahead : List Record) (i : ℕ) (none : Record) (t : Bool) → nat_lt i (length ahead) ≡ t → All (IsWithin plan) ahead → IsWithin plan none → IsWithin plan (slice_index_or ahead i none)
item-within plan ahead i none true is within other = within i none (ltb-true i (length ahead) is)
item-within plan ahead i none false is within other = subst (IsWithin plan) (sym (get_or_past ahead i none (omega (arith, ltb-false i (length ahead) is)))) other

either-record : (P : Record → Type 0) (t : Bool) (a b : Record) → P a → P b → P (cond t a b)
either-record P true a b p q = p
either-record P false a b p q = q

pub record-kept : (plan : Plan) (states : ℕ → UnevenState) (ahead : List Record) (samples every b f t : ℕ) → 0 < slots_of plan → LabelsWithin plan (states b) → All (IsWithin plan) ahead → t < slots_of plan
    → IsWithin plan (uneven_record plan states ahead samples every b f t)
unfolding zeros
record-kept plan states ahead samples every b f t some labels within below =
    let place : ℕ = pending_before samples every (states 0).positions (cell_number (floor_of (states 0).positions) samples (length (states 0).positions) f b t) in
    let kept : IsWithin plan (pending_record samples every (states 0).positions ahead b f t) = item-within plan ahead place zeros (nat_lt place (length ahead)) refl within (zeros-within plan some) in
    let new = arrived-labels plan (states b) f t labels below in
    let taken : IsWithin plan (record_of plan b (arrived plan (states b) f t)) = record-within plan b (arrived plan (states b) f t) new.0 new.1 in
    either-record (IsWithin plan) (nat_lt f (done (position_at (states 0) t))) (pending_record samples every (states 0).positions ahead b f t) (record_of plan b (arrived plan (states b) f t)) kept taken

pub uneven-within : (plan : Plan) (states : ℕ → UnevenState) (ahead : List Record) (samples every b f : ℕ) → 0 < slots_of plan → LabelsWithin plan (states b) → All (IsWithin plan) ahead
    → IsMeasured plan (uneven_measured plan states ahead samples every b f)
uneven-within plan states ahead samples every b f some labels within = record {
  sized = length-table (uneven_record plan states ahead samples every b f) (slots_of plan);
  range = λ t below.
      subst (IsWithin plan) (sym (get_or-table (uneven_record plan states ahead samples every b f) (slots_of plan) t _ below))
      (record-kept plan states ahead samples every b f t some labels within below);
}

pub uneven-lawful : (plan : Plan) (states : ℕ → UnevenState) (ahead : List Record) (samples every until : ℕ) (spins : Bool) (ends : List Position) → IsLawfulPlan plan → 1 ≤ samples → samples ≤ 256
    → floor_of (states 0).positions ≤ floor_of ends → floor_of ends ≤ 1000000000 → ((b : ℕ) → b < samples → LabelsWithin plan (states b)) → All (IsWithin plan) ahead
    → IsLawfulText (uneven_report plan states ahead samples every spins until ends)
unfolding uneven_report
uneven-lawful plan states ahead samples every until spins ends lawful one few rising within labels kept =
    composed plan samples every (floor_of (states 0).positions) (floor_of ends) (uneven_measured plan states ahead samples every) (λ b. (all_ready plan (states b) until).slots) (spins && all_rest until ends)
    lawful one few rising within (λ b f less. uneven-within plan states ahead samples every b f lawful.rules.some (labels b less) kept)

-- ---- a run that was driven

pub least-most : (f : ℕ → ℕ) (n : ℕ) → least f n ≤ greatest f n
unfolding least greatest
least-most f zero = omega arith
least-most f (suc n) =
    let low = least-at f (suc n) 0 (omega arith) in
    let high = greatest-at f (suc n) 0 (omega arith) in
    omega (arith, low, high)

-- what the labels of a starting state keep, for a plan and a state of their own names
abbrev AllPermute : Plan → RaggedStand → Type 0
AllPermute plan base = (b : ℕ) → b < 64 → PermutesAt (slots_of plan) (λ t. slot_at (uneven_part plan.size b base).slots t)

pub ended-lawful : (run : RunView) (d : RaggedEndedView) → IsEnd run d → All (IsWithin run.plan) run.base.pending → IsLawfulText (run_report (record { run = run; ended = d } ∷ []))
ended-lawful run d end kept =
    let o = end.origin in
    let lawful : IsLawfulPlan run.plan = subst IsLawfulPlan o.plan_is end.lawful.plan in
    let labels : AllPermute run.plan run.base = subst (λ p. AllPermute p run.base) o.plan_is (subst (λ b. AllPermute (plan_of d.origin) b) o.base_is end.lawful.base.labels) in
    let some : 1 ≤ run.orders.samples = subst (λ n. 1 ≤ n) o.samples_is end.lawful.base.some_samples in
    let few : run.orders.samples ≤ 64 = subst (λ n. n ≤ 64) o.samples_is end.lawful.base.few_samples in
    let rising : floor_of (positions_of run.base) ≤ floor_of (positions_of d.stand) = subst (λ (b : RaggedStand). floor_of (positions_of b) ≤ floor_of (positions_of d.stand)) o.base_is end.stop.from in
    let deep : floor_of (positions_of d.stand) ≤ deepest_of (positions_of d.stand) = least-most (λ t. done (position_in (positions_of d.stand) t)) (length (positions_of d.stand)) in
    subst IsLawfulText (sym (one-report (record { run = run; ended = d }) end))
    (uneven-lawful run.plan (starts run) run.base.pending run.orders.samples run.orders.every run.until run.orders.spins (positions_of d.stand) lawful some (omega (arith, few)) rising
    (omega (arith, deep, end.stop.reach, end.lawful.until))
    (λ b less t below. let p = labels b (omega (arith, less, few)) in (p.first.below t below, p.second.below t below)) kept)
