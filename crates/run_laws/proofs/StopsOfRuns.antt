-- Runs that stop, the last one too, are one run that stops.
use Rattle.std.proofs.Common.{arith, ◌≡◌, ℕ, zero, suc, ◌+◌, ◌-◌, ◌*◌, ◌<◌, ◌≤◌, Bool, true, false, cond, List, [], ◌∷◌, ◌++◌, refl, sym, ap, ap₂, ◌∙◌}
use Rattle.std.specs.Prelude.{min, ◌&&◌}
use Rattle.std.proofs.Math.Nat.{min-eq_left}
use Rattle.report_text.specs.Lines.{header_line, end_line}
use Rattle.scalar_rule.specs.Laws.{IsReached}
use Rattle.scalar_rule.specs.Plan.{Plan, slots_of}
use Rattle.scalar_rule.specs.Positions.{sum_below, done, rank, content, position_in, floor_of, uneven_record}
use Rattle.scalar_rule.specs.Ragged.{UnevenState, position_at, all_ready}
use Rattle.scalar_rule.specs.Records.{is_recorded}
use Rattle.scalar_rule.specs.declared.sample.Sample.{Sample}
use Rattle.scalar_rule.proofs.Extremes.{sum-most}
use Rattle.scalar_rule.proofs.ReachedRuns.{done-later, record-reached}
use Rattle.scalar_rule.proofs.UnevenReached.{ready-reached, arrived-reached, generators-reached}
use Rattle.plane_sweep.specs.Uneven.{positions_of, uneven_part}
use Rattle.plane_sweep.specs.declared.uneven.RaggedStand.{RaggedStand}
use Rattle.glass_engine.specs.Report.{all_rest}
use Rattle.glass_engine.specs.Runs.{hand_outs}
use Rattle.glass_engine.proofs.Reporting.{spins-same}
use Rattle.glass_main.specs.Beginnings.{Beginning, Uneven, begins_at}
use Rattle.glass_main.specs.StopLaws.{AreLeft, last_of, all_rows}
use Rattle.glass_main.specs.Stops.{states_of, kept_of, ComesTo, rows_to, spins_at, stopped_text}
use Rattle.glass_main.specs.declared.planned.Planned.{Planned}
use Rattle.glass_main.proofs.AddingUp.{IsFounded, founded, left-founded, left-reached, left-since, start-floor, start-done, are-reached, rows-step, rule-spins, last-founded, last-upto, last-state}
use Rattle.run_laws.specs.StopsOfRuns.{StopsOfRunsAddUp}

-- ---- what is reached from a state that was reached

content-reached : (plan : Plan) (s r : UnevenState) (t e : ℕ) (waits : Bool) → IsReached plan s r → t < slots_of plan → rank (position_at r t) ≤ 4 * e + cond waits 2 0
    → content plan r t e waits ≡ content plan s t e waits
content-reached plan s r t e true first known upto = arrived-reached plan s r e t first known upto
content-reached plan s r t e false first known upto = ready-reached plan s r e t first known (omega (arith, upto))

epoch-later : (e f : ℕ) (a b : Bool) → 4 * e + cond a 2 0 ≤ 4 * f + cond b 2 0 → e ≤ f
epoch-later e f true true h = omega arith
epoch-later e f true false h = omega arith
epoch-later e f false true h = omega arith
epoch-later e f false false h = omega arith

reached-again : (plan : Plan) (s r q : UnevenState) → IsReached plan s r → IsReached plan r q → IsReached plan s q
reached-again plan s r q first second = record {
  bit_is = second.bit_is ∙ first.bit_is;
  later = λ t h. let a = first.later t h in let b = second.later t h in omega (arith, a, b);
  turns = second.turns;
  slots = λ t h. let p = position_at q t in second.slots t h ∙ content-reached plan s r t p.epoch p.waits first h (second.later t h);
  pairs = λ k h.
      let p = position_at q k in
      let own = position_at r k in
      second.pairs k h ∙ generators-reached plan s r k p.epoch first h (epoch-later own.epoch p.epoch own.waits p.waits (second.later k (omega (arith, h))));
}

-- ---- from where the first run begins

-- what the last one goes on from is not before it
begins-last : (plan : Plan) (samples every e : ℕ) (from : Beginning) (left : List Beginning) → 0 < slots_of plan → IsFounded plan from → AreLeft plan samples every e from left
    → begins_at from ≤ begins_at (last_of from left)
unfolding AreLeft last_of
begins-last plan samples every e from [] some f are = omega arith
begins-last plan samples every e from (next ∷ left) some f are =
    let since = left-since plan samples every from next some f are.0 in
    let rest = begins-last plan samples every e next left some (left-founded plan samples every from next f are.0) are.2 in
    omega (arith, since, rest)

-- it is itself, or is reached from there
came-reached : (plan : Plan) (samples every e b : ℕ) (from : Beginning) (left : List Beginning) (came : UnevenState) → b < 64 → IsFounded plan from → AreLeft plan samples every e from left
    → IsReached plan (states_of plan (last_of from left) b) came → IsReached plan (states_of plan from b) came
unfolding AreLeft last_of
came-reached plan samples every e b from [] came small f are reached = reached
came-reached plan samples every e b from (next ∷ left) came small f are reached =
    let g = left-founded plan samples every from next f are.0 in
    reached-again plan (states_of plan from b) (states_of plan next b) came (left-reached plan samples every from next b small f are.0)
    (came-reached plan samples every e b next left came small g are.2 reached)

-- its records are the rule's from there
last-record : (plan : Plan) (samples every e b k t : ℕ) (from : Beginning) (left : List Beginning) → 0 < slots_of plan → 1 ≤ samples → samples ≤ 64 → IsFounded plan from
    → AreLeft plan samples every e from left → b < samples → t < slots_of plan → begins_at (last_of from left) ≤ k → is_recorded every k ≡ true
    → uneven_record plan (states_of plan (last_of from left)) (kept_of (last_of from left)) samples every b k t ≡ uneven_record plan (states_of plan from) (kept_of from) samples every b k t
unfolding AreLeft last_of
last-record plan samples every e b k t from [] some one few f are hb ht since on = refl
last-record plan samples every e b k t from (next ∷ left) some one few f are hb ht since on =
    let g = left-founded plan samples every from next f are.0 in
    let before = begins-last plan samples every e next left some g are.2 in
    let own = start-floor plan next some in
    last-record plan samples every e b k t next left some one few g are.2 hb ht since on
    ∙ record-reached plan samples every b k t (states_of plan from) (kept_of from) (states_of plan next) (kept_of next) (are-reached plan samples every from next some one few f are.0)
    (omega (arith, before, since, own)) on hb ht

-- the rows to an epoch that the last one doesn't begin past
rows-upto : (plan : Plan) (samples every until e : ℕ) (from : Beginning) (left : List Beginning) → 0 < slots_of plan → 1 ≤ samples → samples ≤ 64 → IsFounded plan from
    → AreLeft plan samples every until from left → begins_at (last_of from left) ≤ e → rows_to plan samples every from e ≡ all_rows plan samples every e from left
unfolding AreLeft all_rows last_of
rows-upto plan samples every until e from [] some one few f are past = refl
rows-upto plan samples every until e from (next ∷ left) some one few f are past =
    let g = left-founded plan samples every from next f are.0 in
    let before = begins-last plan samples every until next left some g are.2 in
    rows-step plan samples every e from next some one few f are.0 (omega (arith, before, past))
    ∙ ap (λ v. rows_to plan samples every from (begins_at next) ++ v) (rows-upto plan samples every until e next left some one few g are.2 past)

-- ---- the hand-outs

sum-upto : (f g : ℕ → ℕ) (n : ℕ) → ((t : ℕ) → t < n → f t ≤ g t) → sum_below f n ≤ sum_below g n
unfolding sum_below
sum-upto f g zero each = omega arith
sum-upto f g (suc n) each =
    let before = sum-upto f g n (λ t h. each t (omega (arith, h))) in
    let last = each n (omega arith) in
    omega (arith, before, last)

made-here : (before most made : ℕ) → before ≤ made → made ≤ most → made ≡ before + min (made - before) (most - before)
made-here before most made low high = let m : min (made - before) (most - before) ≡ made - before = min-eq_left (omega (arith, high)) in omega (arith, m, low)

-- ---- all together

comes : (planned : Planned) (until takes : ℕ) (from : Beginning) (left : List Beginning) (came : RaggedStand) → 0 < slots_of planned.plan → 1 ≤ planned.orders.samples → planned.orders.samples ≤ 64
    → IsFounded planned.plan from → AreLeft planned.plan planned.orders.samples planned.orders.every until from left → ComesTo planned (last_of from left) until takes came
    → ComesTo planned from until (hand_outs planned.plan (positions_of came) - hand_outs planned.plan (states_of planned.plan from 0).positions) came
comes planned until takes from left came some one few f are c =
    let plan = planned.plan in
    let o = planned.orders in
    let r = c.reaches in
    let before = begins-last plan o.samples o.every until from left some f are in
    let since = r.since in
    let reached : (b : ℕ) → b < 64 → IsReached plan (states_of plan from b) (uneven_part plan.size b came) =
    λ b small. came-reached plan o.samples o.every until b from left (uneven_part plan.size b came) small f are (r.reached b small) in
    let first : ℕ → ℕ = λ t. done (position_in (states_of plan from 0).positions t) in
    let last : ℕ → ℕ = λ t. done (position_in (positions_of came) t) in
    let low : sum_below first (slots_of plan) ≤ sum_below last (slots_of plan) =
    sum-upto first last (slots_of plan) (λ t h.
    let p = position_in (states_of plan from 0).positions t in
    let q = position_in (positions_of came) t in
    done-later p.epoch q.epoch p.waits q.waits ((reached 0 (omega arith)).later t h)) in
    let high : sum_below last (slots_of plan) ≤ slots_of plan * until =
    sum-most last (slots_of plan) until (λ t h. let z = start-done plan (Uneven came) 0 t (omega arith) h r.fits.places in let y = c.within in omega (arith, z, y)) in
    record {
      reaches = record {
        fits = r.fits;
        since = omega (arith, before, since);
        reached = reached;
        kept = λ b k t hb ht from_floor below on. r.kept b k t hb ht from_floor below on
            ∙ last-record plan o.samples o.every until b k t from left some one few f are hb ht (omega (arith, since, from_floor)) on;
      };
      within = c.within;
      made = made-here (sum_below first (slots_of plan)) (slots_of plan * until) (sum_below last (slots_of plan)) low high;
    }

pub stops-add-up : StopsOfRunsAddUp
unfolding stopped_text
stops-add-up planned until takes from left came lawful orders begins upto are c =
    let plan = planned.plan in
    let o = planned.orders in
    let some : 0 < slots_of plan = lawful.rules.some in
    let one = orders.some_samples in
    let few = orders.few_samples in
    let f = founded planned from lawful orders begins in
    let last = last_of from left in
    let lf = last-founded plan o.samples o.every until from left f are in
    let lb = last-upto plan o.samples o.every until from left upto are in
    let e = floor_of (positions_of came) in
    let printed = o.spins && all_rest until (positions_of came) in
    let same : (b : ℕ) → b < 64 → all_ready plan (states_of plan from b) until ≡ all_ready plan (states_of plan last b) until = λ b small. sym (last-state plan o.samples o.every until b from left small f are) in
    let spins : spins_at plan o.samples from until ≡ spins_at plan o.samples last until =
    rule-spins plan o.samples until from few upto f
    ∙ spins-same plan o.samples _ _ (λ b h. ap (λ (s : Sample). s.slots) (same b (omega (arith, h, few))))
    ∙ sym (rule-spins plan o.samples until last few lb lf) in
    let parts : List ℕ → List ℕ → List ℕ = λ rows xs. header_line plan o.samples (begins_at from) e ++ rows ++ end_line e ++ cond printed xs [] in
    record {
      comes = comes planned until takes from left came some one few f are c;
      report = ap₂ parts (rows-upto plan o.samples o.every until e from left some one few f are c.reaches.since) spins;
    }
