-- A run that goes on from states that another reached ends in the same states, and its records follow those of the other.
use Rattle.std.proofs.Common.{arith, ◌≡◌, inl, inr, ℕ, ◌+◌, ◌-◌, ◌*◌, ◌<◌, ◌≤◌, Bool, true, false, cond, nat_lt, List, [], ◌++◌, flat_map, ap, ap₂, sym, ◌∙◌}
use Rattle.std.proofs.lemmas.Bool.{cases_lt, cases_Bool, lt-ltb}
use Rattle.std.proofs.lemmas.Bool.Decides.{nat_tests}
use Rattle.std.proofs.lemmas.Grind.{flat_map-append}
use Rattle.spin_model.specs.Steps.{table}
use Rattle.spin_model.proofs.Joined.{joined-same}
use Rattle.spin_model.proofs.Tables.{table-same, table-add}
use Rattle.scalar_rule.specs.Plan.{Plan, slots_of, pairs_of}
use Rattle.scalar_rule.specs.Epoch.{record_of}
use Rattle.scalar_rule.specs.Laws.{IsReached, AreReached}
use Rattle.scalar_rule.specs.Ragged.{Position, UnevenState, position_at, ready, generators, all_ready}
use Rattle.scalar_rule.specs.Positions.{done, rank, floor_of, uneven_record, uneven_records}
use Rattle.scalar_rule.specs.Records.{is_recorded, records_at}
use Rattle.scalar_rule.specs.declared.sample.PlainPair.{PlainPair}
use Rattle.scalar_rule.specs.declared.sample.PlainSlot.{PlainSlot}
use Rattle.scalar_rule.specs.declared.sample.Record.{Record}
use Rattle.scalar_rule.specs.declared.sample.Sample.{Sample}
use Rattle.scalar_rule.proofs.UnevenReached.{ready-reached, generators-reached, arrived-reached}

-- a slot that is later has completed as many epochs or more
pub done-later : (e f : ℕ) (a b : Bool) → 4 * e + cond a 2 0 ≤ 4 * f + cond b 2 0 → e + cond a 1 0 ≤ f + cond b 1 0
done-later e f true true h = omega arith
done-later e f true false h = omega arith
done-later e f false true h = omega arith
done-later e f false false h = omega arith

-- one that has completed at most f epochs is at most at rest at f
pub rank-upto : (e f : ℕ) (a : Bool) → e + cond a 1 0 ≤ f → (4 * e + cond a 2 0 ≤ 4 * f) × (e ≤ f)
rank-upto e f true h = (omega arith, omega arith)
rank-upto e f false h = (omega arith, omega arith)

pub all_ready-reached : (plan : Plan) (s r : UnevenState) (e : ℕ) → IsReached plan s r → ((t : ℕ) → t < slots_of plan → done (position_at r t) ≤ e)
    → all_ready plan r e ≡ all_ready plan s e
all_ready-reached plan s r e reached past =
    let slots : table (λ t. ready plan r e t) (slots_of plan) ≡ table (λ t. ready plan s e t) (slots_of plan) =
    table-same _ _ (slots_of plan) (λ t h. let z = rank-upto (position_at r t).epoch e (position_at r t).waits (past t h) in ready-reached plan s r e t reached h z.0) in
    let pairs : table (λ k. generators plan r k e) (pairs_of plan) ≡ table (λ k. generators plan s k e) (pairs_of plan) =
    table-same _ _ (pairs_of plan) (λ k h. let z = rank-upto (position_at r k).epoch e (position_at r k).waits (past k (omega arith)) in generators-reached plan s r k e reached (omega arith) z.1) in
    let made : ℕ → List PlainSlot → List PlainPair → Sample = λ b u v. record { bit = b; epoch = e; slots = u; pairs = v } in
    ap (λ b. made b (table (λ t. ready plan r e t) (slots_of plan)) (table (λ k. generators plan r k e) (pairs_of plan))) reached.bit_is
    ∙ ap₂ (made s.bit) slots pairs

-- a record from the states that were reached is that from the start
pub record-reached : (plan : Plan) (samples every b f t : ℕ) (starts : ℕ → UnevenState) (pending : List Record) (later : ℕ → UnevenState) (kept : List Record)
    → AreReached plan samples every starts pending later kept → floor_of (later 0).positions ≤ f → is_recorded every f ≡ true → b < samples → t < slots_of plan
    → uneven_record plan later kept samples every b f t ≡ uneven_record plan starts pending samples every b f t
record-reached plan samples every b f t starts pending later kept all from printed hb ht =
    let p : Position = position_at (later 0) t in
    let q : Position = position_at (starts 0) t in
    elim (cases_lt f (done p)) [
      | inl behind ↦
          let test : nat_lt f (done p) ≡ true = lt-ltb _ _ behind in
          rw test (all.records b f t hb ht from behind printed)
      | inr past ↦
          let first = all.each 0 all.some in
          let before = done-later q.epoch p.epoch q.waits p.waits (first.later t ht) in
          let one : nat_lt f (done p) ≡ false = grind (arith, nat_tests) in
          let two : nat_lt f (done q) ≡ false = (let z : done q ≤ f = omega arith in grind (arith, nat_tests)) in
          let up = rank-upto p.epoch f p.waits past in
          let up0 = up.0 in
          let same : rank (position_at (later b) t) ≡ rank p = ap rank (all.together b t hb ht) in
          rw (one, two) (ap (record_of plan b) (arrived-reached plan (starts b) (later b) f t (all.each b hb) ht (omega arith)))
    ]

pub records-reached : (plan : Plan) (samples every e : ℕ) (starts : ℕ → UnevenState) (pending : List Record) (later : ℕ → UnevenState) (kept : List Record)
    → AreReached plan samples every starts pending later kept → floor_of (later 0).positions ≤ e
    → uneven_records plan starts pending samples every (floor_of (later 0).positions) ++ uneven_records plan later kept samples every e
    ≡ uneven_records plan starts pending samples every e
records-reached plan samples every e starts pending later kept all upto =
    let c = floor_of (starts 0).positions in
    let m = floor_of (later 0).positions in
    let n = slots_of plan in
    let from = all.from in
    let from_start : ℕ → ℕ → List Record = λ b f. table (uneven_record plan starts pending samples every b f) n in
    let from_later : ℕ → ℕ → List Record = λ b f. table (uneven_record plan later kept samples every b f) n in
    let F : ℕ → List Record = λ f. cond (is_recorded every f) (records_at from_start samples f) [] in
    let G : ℕ → List Record = λ f. cond (is_recorded every f) (records_at from_later samples f) [] in
    let each : (f : ℕ) → m ≤ f → G f ≡ F f = λ f after. elim (cases_Bool (is_recorded every f)) [
      | inl on ↦ ap (λ r. cond (is_recorded every f) r [])
          (joined-same (λ b. from_later b f) (λ b. from_start b f) (λ b. b) samples
          (λ b h. table-same _ _ n (λ t ht. record-reached plan samples every b f t starts pending later kept all after on h ht)))
      | inr off ↦ ap (λ a. cond a (records_at from_later samples f) []) off ∙ sym (ap (λ a. cond a (records_at from_start samples f) []) off)
    ] in
    let size : e - c ≡ (m - c) + (e - m) = omega arith in
    let whole : flat_map F (table (λ k. c + k) (e - c)) ≡ flat_map F (table (λ k. c + k) (m - c)) ++ flat_map F (table (λ k. c + ((m - c) + k)) (e - m)) =
    ap (λ k. flat_map F (table (λ j. c + j) k)) size ∙ (ap (flat_map F) (table-add (λ k. c + k) (m - c) (e - m)) ∙ flat_map-append F (table (λ k. c + k) (m - c)) (table (λ k. c + ((m - c) + k)) (e - m))) in
    let shift : table (λ k. c + ((m - c) + k)) (e - m) ≡ table (λ k. m + k) (e - m) = table-same _ _ (e - m) (λ k h. omega arith) in
    let last : flat_map G (table (λ k. m + k) (e - m)) ≡ flat_map F (table (λ k. m + k) (e - m)) = joined-same G F (λ k. m + k) (e - m) (λ k h. each (m + k) (omega arith)) in
    ap (λ v. flat_map F (table (λ k. c + k) (m - c)) ++ v) (last ∙ ap (flat_map F) (sym shift)) ∙ sym whole
