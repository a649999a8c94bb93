-- Runs that stop and are resumed add up to one run.
use Rattle.std.proofs.Common.{arith, flat_map, inl, inr, ◌≡◌, ℕ, zero, suc, ◌+◌, ◌-◌, ◌*◌, ◌<◌, ◌≤◌, Bool, true, false, cond, List, [], ◌∷◌, ◌++◌, length, replicate, refl, sym, ap, ap₂, ◌∙◌, subst}
use Rattle.std.specs.Prelude.{◌&&◌, ◌==◌, not}
use Rattle.std.proofs.lemmas.Bool.{eq-eqb}
use Rattle.std.proofs.lemmas.List.{length-map, length-replicate, get_or-replicate}
use Rattle.report_text.specs.Lines.{header_line, end_line}
use Rattle.run_checkpoint.specs.Encoding.{encoding}
use Rattle.run_checkpoint.proofs.LevelClauses.{encoding-same}
use Rattle.run_plan.specs.RunFile.{AreLawfulOrders}
use Rattle.spin_model.proofs.Tables.{table-same, table-of_items, length-table, get_or-table}
use Rattle.spin_model.specs.Steps.{table}
use Rattle.scalar_rule.specs.Laws.{IsReached, AreReached, level_start}
use Rattle.scalar_rule.specs.Plan.{Plan, IsLawfulPlan, slots_of, pairs_of}
use Rattle.scalar_rule.specs.Positions.{position_in, done, rank, content, floor_of, deepest_of, HasSameTurns, pending_record, uneven_record}
use Rattle.scalar_rule.specs.Ragged.{Position, UnevenState, position_at, ready, generators, all_ready}
use Rattle.scalar_rule.specs.Records.{is_recorded, measured_from}
use Rattle.scalar_rule.specs.Serial.{serial}
use Rattle.scalar_rule.specs.declared.plain_copy.PlainCopy.{PlainCopy}
use Rattle.scalar_rule.specs.declared.sample.PlainPair.{PlainPair}
use Rattle.scalar_rule.specs.declared.sample.PlainSlot.{PlainSlot}
use Rattle.scalar_rule.specs.declared.sample.Record.{Record}
use Rattle.scalar_rule.specs.declared.sample.Sample.{Sample}
use Rattle.scalar_rule.proofs.Extremes.{least-some, greatest-at}
use Rattle.scalar_rule.proofs.LevelRuns.{level-record, length-slots, length-pairs}
use Rattle.scalar_rule.proofs.LevelStart.{ready-serial, generators-serial}
use Rattle.scalar_rule.proofs.Resuming.{epochs-bit, epoch-serial}
use Rattle.scalar_rule.proofs.ReachedRuns.{rank-upto, all_ready-reached, record-reached}
use Rattle.plane_sweep.specs.Packed.{part, part_slot, part_pair}
use Rattle.plane_sweep.specs.Uneven.{position_of, positions_of}
use Rattle.glass_engine.specs.Report.{epoch_rows, rows_in_order, uneven_measured, all_rest, all_spins, uneven_report, report}
use Rattle.spin_model.proofs.Joined.{joined-add}
use Rattle.glass_engine.proofs.Reporting.{spins-same}
use Rattle.glass_main.specs.Beginnings.{Beginning, Level, Uneven, opened_by, begins_at, all_at, run_text, state_at, run_checkpoint}
use Rattle.glass_main.specs.StopLaws.{IsEncodingOf, IsBeginning, reached_by, Leaves, AreLeft, last_of, all_rows, AddUp}
use Rattle.glass_main.specs.Stops.{states_of, kept_of, rows_to, spins_at}
use Rattle.glass_main.specs.declared.planned.Planned.{Planned}
use Rattle.glass_main.proofs.OpenedRuns.{floor-upto}
use Rattle.glass_main.proofs.ReadStops.{accepted}
use Rattle.glass_engine.proofs.Pieces.{rows-same}

-- ---- rows

-- the rows between two epochs, and then those on to a third
pub rows-split : (m : ℕ → ℕ → List Record) (samples every c k e : ℕ) → c ≤ k → k ≤ e
    → rows_in_order m samples every c e ≡ rows_in_order m samples every c k ++ rows_in_order m samples every k e
rows-split m samples every c k e first second =
    let F : ℕ → List ℕ = λ f. cond (is_recorded every f) (epoch_rows m samples f) [] in
    let size : e - c ≡ (k - c) + (e - k) = omega arith in
    let shift : table (λ j. c + ((k - c) + j)) (e - k) ≡ table (λ j. k + j) (e - k) = table-same _ _ (e - k) (λ j h. omega arith) in
    ap (λ n. flat_map F (table (λ j. c + j) n)) size
    ∙ joined-add F (λ j. c + j) (k - c) (e - k)
    ∙ ap (λ v. flat_map F (table (λ j. c + j) (k - c)) ++ flat_map F v) shift

-- states of the 64 samples at one epoch, with the plan's numbers of slots and pairs
pub record AreStates (plan : Plan) (start : ℕ → Sample) : Type 0 where
  pub bits : (b : ℕ) → b < 64 → (start b).bit ≡ b
  pub epochs_are : (b : ℕ) → b < 64 → (start b).epoch ≡ (start 0).epoch
  pub slots : (b : ℕ) → b < 64 → length (start b).slots ≡ slots_of plan
  pub pairs : (b : ℕ) → b < 64 → length (start b).pairs ≡ pairs_of plan

abbrev pub IsFounded : Plan → Beginning → Type 0
IsFounded plan (Level start) = AreStates plan start
IsFounded plan (Uneven stand) = length stand.places ≡ slots_of plan

opening-founded : (planned : Planned) → IsFounded planned.plan (opened_by planned)
opening-founded planned = record {
  bits = λ b small. refl;
  epochs_are = λ b small. refl;
  slots = λ b small. length-table _ (slots_of planned.plan);
  pairs = λ b small. length-table _ (pairs_of planned.plan);
}

read-founded : (planned : Planned) (until : ℕ) (bytes : List ℕ) (from : Beginning) → IsEncodingOf planned until bytes from → IsFounded planned.plan from
unfolding part
read-founded planned until bytes (Level start) (are, within, is) =
    let plan = planned.plan in
    let same = are.stands in
    let first : are.stand.epoch ≡ (start 0).epoch = ap (λ (s : Sample). s.epoch) (same 0 (omega arith)) in
    record {
      bits = λ b small. sym (ap (λ (s : Sample). s.bit) (same b small));
      epochs_are = λ b small. sym (ap (λ (s : Sample). s.epoch) (same b small)) ∙ first;
      slots = λ b small. ap (λ (s : Sample). length s.slots) (sym (same b small)) ∙ (length-map are.stand.slots (part_slot plan.size b) ∙ are.fits.slots);
      pairs = λ b small. ap (λ (s : Sample). length s.pairs) (sym (same b small)) ∙ (length-map are.stand.pairs part_pair ∙ are.fits.pairs);
    }
read-founded planned until bytes (Uneven stand) are = are.0.places

pub founded : (planned : Planned) (from : Beginning) → IsLawfulPlan planned.plan → AreLawfulOrders planned.orders → IsBeginning planned from → IsFounded planned.plan from
founded planned from lawful orders (inl opened) = subst (IsFounded planned.plan) (sym opened) (opening-founded planned)
founded planned from lawful orders (inr (until, bytes, are, is)) = read-founded planned until bytes from (accepted planned until bytes from lawful orders are is)

-- by the rule, slot by slot, from wherever a run begins
rows-uneven : (plan : Plan) (samples every e : ℕ) (from : Beginning) → samples ≤ 64 → IsFounded plan from
    → rows_to plan samples every from e ≡ rows_in_order (uneven_measured plan (states_of plan from) (kept_of from) samples every) samples every (begins_at from) e
rows-uneven plan samples every e (Level start) few f =
    sym (rows-same (uneven_measured plan (λ b. level_start plan (start b)) [] samples every) (measured_from plan start) samples every (start 0).epoch e
    (λ b k since on h. table-same _ _ (slots_of plan) (λ t ht. level-record plan start samples every b k t (f.bits b (omega arith)) (f.epochs_are b (omega arith)) since ht)))
rows-uneven plan samples every e (Uneven stand) few f = refl

pub start-floor : (plan : Plan) (from : Beginning) → 0 < slots_of plan → begins_at from ≡ floor_of (states_of plan from 0).positions
start-floor plan (Level start) some =
    let n = slots_of plan in
    let e = (start 0).epoch in
    let there : Position = record { epoch = e; waits = false } in
    let ps = (level_start plan (start 0)).positions in
    let long : length ps ≡ n = length-table (λ t. there) n in
    let low = least-some (λ t. done (position_in ps t)) (length ps) (omega arith) in
    let at : done (position_in ps low.0) ≡ e + 0 = ap done (get_or-table (λ t. there) n low.0 _ (omega (arith, low.1))) in
    let is = low.2 in
    omega arith
start-floor plan (Uneven stand) some = refl

-- ---- the state at one epoch

-- by the rule, slot by slot, it is that of the serial dynamics
serial-ready : (plan : Plan) (s : Sample) (e : ℕ) → length s.slots ≡ slots_of plan → length s.pairs ≡ pairs_of plan → s.epoch ≤ e → serial plan s e ≡ all_ready plan (level_start plan s) e
serial-ready plan s e many few from =
    let x = serial plan s e in
    let empty : PlainCopy = record { spins = []; wheels = []; replica = 0 } in
    let none : PlainSlot = record { first = empty; second = empty } in
    let slots : x.slots ≡ table (λ t. ready plan (level_start plan s) e t) (slots_of plan) =
    table-of_items (λ t. ready plan (level_start plan s) e t) (slots_of plan) none x.slots (length-slots plan s.epoch (e - s.epoch) s many) (λ t h. sym (ready-serial plan s e t from h)) in
    let pairs : x.pairs ≡ table (λ k. generators plan (level_start plan s) k e) (pairs_of plan) =
    table-of_items (λ k. generators plan (level_start plan s) k e) (pairs_of plan) (record { first = []; second = [] }) x.pairs (length-pairs plan s.epoch (e - s.epoch) s few) (λ k h. sym (generators-serial plan s e k from h)) in
    let made : ℕ → ℕ → List PlainSlot → List PlainPair → Sample = λ b n u v. record { bit = b; epoch = n; slots = u; pairs = v } in
    ap₂ (λ u v. made x.bit x.epoch u v) slots pairs
    ∙ ap₂ (λ b n. made b n (table (λ t. ready plan (level_start plan s) e t) (slots_of plan)) (table (λ k. generators plan (level_start plan s) k e) (pairs_of plan))) (epochs-bit plan s.epoch (e - s.epoch) s) (epoch-serial plan s e from)

rule-state : (plan : Plan) (from : Beginning) (b e : ℕ) → b < 64 → reached_by from ≤ e → IsFounded plan from → state_at plan from e b ≡ all_ready plan (states_of plan from b) e
rule-state plan (Level start) b e small upto f = let same = f.epochs_are b small in serial-ready plan (start b) e (f.slots b small) (f.pairs b small) (omega arith)
rule-state plan (Uneven stand) b e small upto f = refl

pub rule-spins : (plan : Plan) (samples e : ℕ) (from : Beginning) → samples ≤ 64 → reached_by from ≤ e → IsFounded plan from
    → spins_at plan samples from e ≡ all_spins plan samples (λ b. (all_ready plan (states_of plan from b) e).slots)
rule-spins plan samples e (Level start) few upto f = spins-same plan samples _ _ (λ b h. ap (λ (s : Sample). s.slots) (rule-state plan (Level start) b e (omega arith) upto f))
rule-spins plan samples e (Uneven stand) few upto f = refl

rule-checkpoint : (planned : Planned) (e : ℕ) (from : Beginning) → reached_by from ≤ e → IsFounded planned.plan from
    → run_checkpoint planned from e ≡ encoding planned.plan (λ b. all_ready planned.plan (states_of planned.plan from b) e)
rule-checkpoint planned e (Level start) upto f = encoding-same planned.plan _ _ (λ b small. rule-state planned.plan (Level start) b e small upto f)
rule-checkpoint planned e (Uneven stand) upto f = refl

-- ---- what a run leaves

-- every slot at rest at one epoch, in the state of the rule there, is reached
rest-reached : (plan : Plan) (s : UnevenState) (c : ℕ) → ((t : ℕ) → t < slots_of plan → rank (position_at s t) ≤ 4 * c) → IsReached plan s (level_start plan (all_ready plan s c))
rest-reached plan s c past =
    let n = slots_of plan in
    let there : Position = record { epoch = c; waits = false } in
    let r = level_start plan (all_ready plan s c) in
    let at : (t : ℕ) → t < n → position_at r t ≡ there = λ t h. get_or-table (λ k. there) n t _ h in
    let two : Position → Position → ℕ → Type 0 = λ p q k. HasSameTurns k p.epoch q.epoch in
    record {
      bit_is = refl;
      later = λ t h. let z = past t h in let y : rank (position_at r t) ≡ 4 * c + 0 = ap rank (at t h) in omega arith;
      turns = λ k h. subst (λ q. two (position_at r k) q k) (sym (at (k + 1) h)) (subst (λ p. two p there k) (sym (at k (omega arith))) (λ f on. ((λ z. z), (λ z. z))));
      slots = λ t h. get_or-table (λ j. ready plan s c j) n t _ h ∙ ap (λ (p : Position). content plan s t p.epoch p.waits) (sym (at t h));
      pairs = λ k h. get_or-table (λ j. generators plan s j c) (pairs_of plan) k _ (omega arith) ∙ ap (λ (p : Position). generators plan s k p.epoch) (sym (at k (omega arith)));
    }

-- no slot of a beginning is past what it has reached
pub start-done : (plan : Plan) (from : Beginning) (b t : ℕ) → b < 64 → t < slots_of plan → IsFounded plan from → done (position_at (states_of plan from b) t) ≤ reached_by from
start-done plan (Level start) b t small h f =
    let there : Position = record { epoch = (start b).epoch; waits = false } in
    let at : done (position_at (level_start plan (start b)) t) ≡ (start b).epoch + 0 = ap done (get_or-table (λ k. there) (slots_of plan) t _ h) in
    let same = f.epochs_are b small in omega arith
start-done plan (Uneven stand) b t small h f =
    greatest-at (λ k. done (position_in (positions_of stand) k)) (length (positions_of stand)) t (omega (arith, length-map stand.places position_of, f))

start-rank : (p : Position) (c : ℕ) → done p ≤ c → rank p ≤ 4 * c
start-rank p c h = (rank-upto p.epoch c p.waits h).0

-- a beginning has completed no more in all slots than in some
pub begins-upto : (plan : Plan) (from : Beginning) → 0 < slots_of plan → IsFounded plan from → begins_at from ≤ reached_by from
begins-upto plan (Level start) some f = omega arith
begins-upto plan (Uneven stand) some f = floor-upto stand (deepest_of (positions_of stand)) (omega (arith, f)) (omega arith)

-- the states that a run left at an epoch are the rule's there
left-state : (plan : Plan) (samples every : ℕ) (from : Beginning) (later : ℕ → Sample) (b : ℕ) → b < 64 → IsFounded plan from → Leaves plan samples every from (Level later)
    → later b ≡ all_ready plan (states_of plan from b) (later 0).epoch
left-state plan samples every from later b small f left = left.1 b small ∙ rule-state plan from b (later 0).epoch small left.0 f

pub left-founded : (plan : Plan) (samples every : ℕ) (from next : Beginning) → IsFounded plan from → Leaves plan samples every from next → IsFounded plan next
left-founded plan samples every from (Level later) f left =
    let same = left-state plan samples every from later in
    record {
      bits = λ b small. ap (λ (s : Sample). s.bit) (same b small f left) ∙ states-bit plan from b small f;
      epochs_are = λ b small. ap (λ (s : Sample). s.epoch) (same b small f left);
      slots = λ b small. ap (λ (s : Sample). length s.slots) (same b small f left) ∙ length-table _ (slots_of plan);
      pairs = λ b small. ap (λ (s : Sample). length s.pairs) (same b small f left) ∙ length-table _ (pairs_of plan);
    }
  where
    states-bit : (plan : Plan) (from : Beginning) (b : ℕ) → b < 64 → IsFounded plan from → (states_of plan from b).bit ≡ b
    states-bit plan (Level start) b small f = f.bits b small
    states-bit plan (Uneven stand) b small f = refl
left-founded plan samples every from (Uneven came) f left = left.fits.places

pub left-reached : (plan : Plan) (samples every : ℕ) (from next : Beginning) (b : ℕ) → b < 64 → IsFounded plan from → Leaves plan samples every from next
    → IsReached plan (states_of plan from b) (states_of plan next b)
left-reached plan samples every from (Level later) b small f left =
    let c = (later 0).epoch in
    subst (λ (x : Sample). IsReached plan (states_of plan from b) (level_start plan x)) (sym (left-state plan samples every from later b small f left))
    (rest-reached plan (states_of plan from b) c (λ t h. start-rank (position_at (states_of plan from b) t) c (let z = start-done plan from b t small h f in let y = left.0 in omega arith)))
left-reached plan samples every from (Uneven came) b small f left = left.reached b small

-- all slots have completed at least as many epochs
pub left-since : (plan : Plan) (samples every : ℕ) (from next : Beginning) → 0 < slots_of plan → IsFounded plan from → Leaves plan samples every from next → begins_at from ≤ begins_at next
left-since plan samples every from (Level later) some f left = let z = begins-upto plan from some f in let y = left.0 in omega arith
left-since plan samples every from (Uneven came) some f left = left.since

-- the records that it keeps ahead are the rule's
left-kept : (plan : Plan) (samples every : ℕ) (from next : Beginning) (b f t : ℕ) → samples ≤ 64 → b < samples → t < slots_of plan → IsFounded plan next → Leaves plan samples every from next
    → begins_at next ≤ f → f < done (position_at (states_of plan next 0) t) → is_recorded every f ≡ true
    → pending_record samples every (states_of plan next 0).positions (kept_of next) b f t ≡ uneven_record plan (states_of plan from) (kept_of from) samples every b f t
left-kept plan samples every from (Level later) b f t few hb ht found left since below on = absurd (let z = start-done plan (Level later) 0 t (omega arith) ht found in omega arith)
left-kept plan samples every from (Uneven came) b f t few hb ht found left since below on = left.kept b f t hb ht since below on

together : (plan : Plan) (next : Beginning) (b t : ℕ) → b < 64 → t < slots_of plan → IsFounded plan next → position_at (states_of plan next b) t ≡ position_at (states_of plan next 0) t
together plan (Level later) b t small h f =
    let at : ℕ → Position = λ e. record { epoch = e; waits = false } in
    get_or-table (λ k. at (later b).epoch) (slots_of plan) t _ h ∙ ap at (f.epochs_are b small) ∙ sym (get_or-table (λ k. at (later 0).epoch) (slots_of plan) t _ h)
together plan (Uneven came) b t small h f = refl

pub are-reached : (plan : Plan) (samples every : ℕ) (from next : Beginning) → 0 < slots_of plan → 1 ≤ samples → samples ≤ 64 → IsFounded plan from → Leaves plan samples every from next
    → AreReached plan samples every (states_of plan from) (kept_of from) (states_of plan next) (kept_of next)
are-reached plan samples every from next some one few f left =
    let g = left-founded plan samples every from next f left in
    let own = start-floor plan next some in
    record {
      some = one;
      from = let z = left-since plan samples every from next some f left in let y = start-floor plan from some in omega arith;
      each = λ b h. left-reached plan samples every from next b (omega arith) f left;
      together = λ b t hb ht. together plan next b t (omega arith) ht g;
      records = λ b k t hb ht since below on. left-kept plan samples every from next b k t few hb ht g left (subst (λ n. n ≤ k) (sym own) since) below on;
    }

-- the rows of a run, and those of one that goes on from what it left
pub rows-step : (plan : Plan) (samples every e : ℕ) (from next : Beginning) → 0 < slots_of plan → 1 ≤ samples → samples ≤ 64 → IsFounded plan from → Leaves plan samples every from next → begins_at next ≤ e
    → rows_to plan samples every from e ≡ rows_to plan samples every from (begins_at next) ++ rows_to plan samples every next e
rows-step plan samples every e from next some one few f left upto =
    let k = begins_at next in
    let c = begins_at from in
    let g = left-founded plan samples every from next f left in
    let own = start-floor plan next some in
    let m = uneven_measured plan (states_of plan from) (kept_of from) samples every in
    let n = uneven_measured plan (states_of plan next) (kept_of next) samples every in
    let all = are-reached plan samples every from next some one few f left in
    let rest : rows_in_order m samples every k e ≡ rows_in_order n samples every k e =
    rows-same m n samples every k e (λ b i since on h. table-same _ _ (slots_of plan) (λ t ht.
    sym (record-reached plan samples every b i t (states_of plan from) (kept_of from) (states_of plan next) (kept_of next) all (subst (λ j. j ≤ i) own since) on h ht))) in
    rows-uneven plan samples every e from few f
    ∙ rows-split m samples every c k e (left-since plan samples every from next some f left) upto
    ∙ ap₂ (λ u v. u ++ v) (sym (rows-uneven plan samples every k from few f)) (rest ∙ sym (rows-uneven plan samples every e next few g))

rows-add : (plan : Plan) (samples every e : ℕ) (from : Beginning) (left : List Beginning) → 0 < slots_of plan → 1 ≤ samples → samples ≤ 64 → IsFounded plan from → AreLeft plan samples every e from left
    → rows_to plan samples every from e ≡ all_rows plan samples every e from left
unfolding AreLeft all_rows
rows-add plan samples every e from [] some one few f are = refl
rows-add plan samples every e from (next ∷ left) some one few f are =
    let g = left-founded plan samples every from next f are.0 in
    let z = begins-upto plan next some g in
    let y = are.1 in
    rows-step plan samples every e from next some one few f are.0 (omega arith)
    ∙ ap (λ v. rows_to plan samples every from (begins_at next) ++ v) (rows-add plan samples every e next left some one few g are.2)

-- ---- the end

pub last-founded : (plan : Plan) (samples every e : ℕ) (from : Beginning) (left : List Beginning) → IsFounded plan from → AreLeft plan samples every e from left → IsFounded plan (last_of from left)
unfolding AreLeft last_of
last-founded plan samples every e from [] f are = f
last-founded plan samples every e from (next ∷ left) f are = last-founded plan samples every e next left (left-founded plan samples every from next f are.0) are.2

pub last-upto : (plan : Plan) (samples every e : ℕ) (from : Beginning) (left : List Beginning) → reached_by from ≤ e → AreLeft plan samples every e from left → reached_by (last_of from left) ≤ e
unfolding AreLeft last_of
last-upto plan samples every e from [] upto are = upto
last-upto plan samples every e from (next ∷ left) upto are = last-upto plan samples every e next left are.1 are.2

-- the state at one epoch, from what the last run goes on from and from the start
pub last-state : (plan : Plan) (samples every e b : ℕ) (from : Beginning) (left : List Beginning) → b < 64 → IsFounded plan from → AreLeft plan samples every e from left
    → all_ready plan (states_of plan (last_of from left) b) e ≡ all_ready plan (states_of plan from b) e
unfolding AreLeft last_of
last-state plan samples every e b from [] small f are = refl
last-state plan samples every e b from (next ∷ left) small f are =
    let g = left-founded plan samples every from next f are.0 in
    let y = are.1 in
    last-state plan samples every e b next left small g are.2
    ∙ all_ready-reached plan (states_of plan from b) (states_of plan next b) e (left-reached plan samples every from next b small f are.0) (λ t h. let z = start-done plan next b t small h g in omega arith)

-- ---- the report of a run to its end

here : ℕ → Position
here e = record { epoch = e; waits = false }

rest-tests : (e : ℕ) → (not false && e == e) ≡ true
rest-tests e = eq-eqb e e refl

rest-all : (e n : ℕ) → all_rest e (replicate n (record { epoch = e; waits = false })) ≡ true
rest-all e zero = refl
rest-all e (suc n) = ap₂ (λ a b. a && b) (rest-tests e) (rest-all e n)

floor-all : (plan : Plan) (e : ℕ) → 0 < slots_of plan → floor_of (all_at plan e) ≡ e
floor-all plan e some =
    let ps = all_at plan e in
    let n = slots_of plan in
    let there : Position = record { epoch = e; waits = false } in
    let long : length ps ≡ n = length-replicate n there in
    let low = least-some (λ t. done (position_in ps t)) (length ps) (omega arith) in
    let at : done (position_in ps low.0) ≡ e + 0 = ap done (get_or-replicate n low.0 there _ (omega (arith, low.1))) in
    let is = low.2 in
    omega arith

and-true : (a b : Bool) → b ≡ true → (a && b) ≡ a
and-true true b is = is
and-true false b is = refl

pub run-parts : (planned : Planned) (until : ℕ) (from : Beginning) → 0 < slots_of planned.plan → run_text planned from until
    ≡ header_line planned.plan planned.orders.samples (begins_at from) until ++ rows_to planned.plan planned.orders.samples planned.orders.every from until ++ end_line until
    ++ cond planned.orders.spins (spins_at planned.plan planned.orders.samples from until) []
unfolding report uneven_report
run-parts planned until (Level start) some = refl
run-parts planned until (Uneven stand) some =
    let plan = planned.plan in
    let o = planned.orders in
    let c = floor_of (positions_of stand) in
    let rest : all_rest until (all_at plan until) ≡ true = rest-all until (slots_of plan) in
    let parts : ℕ → Bool → List ℕ = λ e printed. header_line plan o.samples c e ++ rows_to plan o.samples o.every (Uneven stand) e ++ end_line e ++ cond printed (spins_at plan o.samples (Uneven stand) until) [] in
    ap₂ parts (floor-all plan until some) (and-true o.spins (all_rest until (all_at plan until)) rest)

-- ---- all together

pub add-up : (planned : Planned) (until : ℕ) (from : Beginning) (left : List Beginning) → IsLawfulPlan planned.plan → AreLawfulOrders planned.orders → IsBeginning planned from
    → reached_by from ≤ until → AreLeft planned.plan planned.orders.samples planned.orders.every until from left → AddUp planned until from left
add-up planned until from left lawful orders begins upto are =
    let plan = planned.plan in
    let o = planned.orders in
    let some : 0 < slots_of plan = lawful.rules.some in
    let one = orders.some_samples in
    let few = orders.few_samples in
    let f = founded planned from lawful orders begins in
    let last = last_of from left in
    let lf = last-founded plan o.samples o.every until from left f are in
    let lb = last-upto plan o.samples o.every until from left upto are in
    let same : (b : ℕ) → b < 64 → all_ready plan (states_of plan from b) until ≡ all_ready plan (states_of plan last b) until = λ b small. sym (last-state plan o.samples o.every until b from left small f are) in
    let spins : spins_at plan o.samples from until ≡ spins_at plan o.samples last until =
    rule-spins plan o.samples until from few upto f
    ∙ spins-same plan o.samples _ _ (λ b h. ap (λ (s : Sample). s.slots) (same b (omega arith)))
    ∙ sym (rule-spins plan o.samples until last few lb lf) in
    let parts : List ℕ → List ℕ → List ℕ = λ rows xs. header_line plan o.samples (begins_at from) until ++ rows ++ end_line until ++ cond o.spins xs [] in
    record {
      report = run-parts planned until from some ∙ ap₂ parts (rows-add plan o.samples o.every until from left some one few f are) spins;
      checkpoint = rule-checkpoint planned until from upto f ∙ encoding-same plan _ _ same ∙ sym (rule-checkpoint planned until last lb lf);
    }
