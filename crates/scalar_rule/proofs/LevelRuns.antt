-- Where all slots start at one epoch, slots that wait, the state at the end and the records are those of the serial dynamics.
use Rattle.std.proofs.Common.{arith, ◌≡◌, ℕ, zero, suc, ◌+◌, ◌-◌, ◌*◌, ◌<◌, ◌≤◌, false, cond, nat_lt, List, [], length, flat_map, ap, ap₂, sym, ◌∙◌}
use Rattle.std.proofs.lemmas.Bool.Decides.{nat_tests}
use Rattle.spin_model.specs.Steps.{steps, table}
use Rattle.spin_model.proofs.Joined.{joined-same}
use Rattle.spin_model.proofs.Tables.{table-same, table-of_items, length-table, get_or-table}
use Rattle.scalar_rule.specs.Plan.{Plan, slots_of, pairs_of}
use Rattle.scalar_rule.specs.Epoch.{slot_at, swept_slot, swept_slots, record_of}
use Rattle.scalar_rule.specs.Laws.{level_start}
use Rattle.scalar_rule.specs.Ragged.{ready, arrived, generators, all_ready}
use Rattle.scalar_rule.specs.Positions.{position_in, done, rank, floor_of, uneven_record, uneven_records}
use Rattle.scalar_rule.specs.Records.{is_recorded, records_at, measured_from, records_until}
use Rattle.scalar_rule.specs.Serial.{serial}
use Rattle.scalar_rule.specs.Shape.{Fits}
use Rattle.scalar_rule.specs.declared.plain_copy.PlainCopy.{PlainCopy}
use Rattle.scalar_rule.specs.declared.sample.PlainSlot.{PlainSlot}
use Rattle.scalar_rule.specs.declared.sample.PlainPair.{PlainPair}
use Rattle.scalar_rule.specs.declared.sample.Record.{Record}
use Rattle.scalar_rule.specs.declared.sample.Sample.{Sample}
use Rattle.scalar_rule.proofs.Extremes.{least-some}
use Rattle.scalar_rule.proofs.LevelStart.{start_position, ready-serial, generators-serial}
use Rattle.scalar_rule.proofs.Resuming.{epochs, epochs-bit, epoch-serial}
use Rattle.scalar_rule.proofs.UnevenContents.{arrived-swept}

level-position : (plan : Plan) (s : Sample) (t : ℕ) → t < slots_of plan → position_in (level_start plan s).positions t ≡ start_position s
level-position plan s t h = get_or-table _ (slots_of plan) t _ h

pub arrived-serial : (plan : Plan) (s : Sample) (e t : ℕ) → s.epoch ≤ e → t < slots_of plan
    → arrived plan (level_start plan s) e t ≡ swept_slot plan s.bit t (slot_at (serial plan s e).slots t)
arrived-serial plan s e t from h =
    let here : rank (position_in (level_start plan s).positions t) ≡ 4 * s.epoch + 0 = ap rank (level-position plan s t h) in
    arrived-swept plan (level_start plan s) e t (omega arith) ∙ ap (swept_slot plan s.bit t) (ready-serial plan s e t from h)

pub length-slots : (plan : Plan) (a n : ℕ) (s : Sample) → length s.slots ≡ slots_of plan → length (epochs plan a n s).slots ≡ slots_of plan
unfolding steps
length-slots plan a zero s long = long
length-slots plan a (suc n) s long = length-table _ (slots_of plan)

pub length-pairs : (plan : Plan) (a n : ℕ) (s : Sample) → length s.pairs ≡ pairs_of plan → length (epochs plan a n s).pairs ≡ pairs_of plan
unfolding steps
length-pairs plan a zero s long = long
length-pairs plan a (suc n) s long = length-table _ (pairs_of plan)

pub all_ready-serial : (plan : Plan) (s : Sample) (e : ℕ) → Fits plan s → s.epoch ≤ e → all_ready plan (level_start plan s) e ≡ serial plan s e
all_ready-serial plan s e fits from =
    let x = serial plan s e in
    let empty : PlainCopy = record { spins = []; wheels = []; replica = 0 } in
    let none : PlainSlot = record { first = empty; second = empty } in
    let bit = epochs-bit plan s.epoch (e - s.epoch) s in
    let at = epoch-serial plan s e from in
    let slots : x.slots ≡ table (λ t. ready plan (level_start plan s) e t) (slots_of plan) =
    table-of_items (λ t. ready plan (level_start plan s) e t) (slots_of plan) none x.slots (length-slots plan s.epoch (e - s.epoch) s fits.slots.count) (λ t h. sym (ready-serial plan s e t from h)) in
    let pairs : x.pairs ≡ table (λ k. generators plan (level_start plan s) k e) (pairs_of plan) =
    table-of_items (λ k. generators plan (level_start plan s) k e) (pairs_of plan) (record { first = []; second = [] }) x.pairs (length-pairs plan s.epoch (e - s.epoch) s fits.pairs) (λ k h. sym (generators-serial plan s e k from h)) in
    let made : ℕ → ℕ → List PlainSlot → List PlainPair → Sample = λ b n u v. record { bit = b; epoch = n; slots = u; pairs = v } in
    ap₂ (λ b n. made b n (table (λ t. ready plan (level_start plan s) e t) (slots_of plan)) (table (λ k. generators plan (level_start plan s) k e) (pairs_of plan))) (sym bit) (sym at)
    ∙ ap₂ (λ u v. made x.bit x.epoch u v) (sym slots) (sym pairs)

pub level-record : (plan : Plan) (start : ℕ → Sample) (samples every b f t : ℕ) → (start b).bit ≡ b → (start b).epoch ≡ (start 0).epoch → (start 0).epoch ≤ f → t < slots_of plan
    → uneven_record plan (λ i. level_start plan (start i)) [] samples every b f t ≡ record_of plan (serial plan (start b) f).bit (slot_at (swept_slots plan (serial plan (start b) f)) t)
level-record plan start samples every b f t bit same from h =
    let s = start b in
    let x = serial plan s f in
    let bit_x : x.bit ≡ b = epochs-bit plan s.epoch (f - s.epoch) s ∙ bit in
    let first : done (position_in (level_start plan (start 0)).positions t) ≡ (start 0).epoch + 0 = ap done (level-position plan (start 0) t h) in
    let past : nat_lt f (done (position_in (level_start plan (start 0)).positions t)) ≡ false = (let z : done (position_in (level_start plan (start 0)).positions t) ≤ f = omega arith in grind (arith, nat_tests)) in
    let swept = arrived-serial plan s f t (omega arith) h in
    let listed : slot_at (swept_slots plan x) t ≡ swept_slot plan x.bit t (slot_at x.slots t) = get_or-table _ (slots_of plan) t _ h in
    rw past (ap₂ (λ i z. record_of plan i z) (sym bit_x) (swept ∙ (ap (λ i. swept_slot plan i t (slot_at x.slots t)) (bit ∙ sym bit_x) ∙ sym listed)))

level-floor : (plan : Plan) (s : Sample) → 0 < slots_of plan → floor_of (level_start plan s).positions ≡ s.epoch
level-floor plan s some =
    let ps = (level_start plan s).positions in
    let long : length ps ≡ slots_of plan = length-table _ (slots_of plan) in
    let low = least-some (λ t. done (position_in ps t)) (length ps) (omega arith) in
    let at : done (position_in ps low.0) ≡ s.epoch + 0 = ap done (level-position plan s low.0 (omega (arith, low.1))) in
    let is = low.2 in omega arith

pub level-records : (plan : Plan) (start : ℕ → Sample) (samples every e : ℕ) → 0 < slots_of plan
    → ((b : ℕ) → b < samples → ((start b).bit ≡ b) × ((start b).epoch ≡ (start 0).epoch))
    → uneven_records plan (λ b. level_start plan (start b)) [] samples every e ≡ records_until plan start samples every e
level-records plan start samples every e some states =
    let c = (start 0).epoch in
    let n = slots_of plan in
    let uneven : ℕ → ℕ → List Record = λ b f. table (uneven_record plan (λ i. level_start plan (start i)) [] samples every b f) n in
    let level : ℕ → ℕ → List Record = measured_from plan start in
    let U : ℕ → List Record = λ f. cond (is_recorded every f) (records_at uneven samples f) [] in
    let L : ℕ → List Record = λ f. cond (is_recorded every f) (records_at level samples f) [] in
    let measured : (f b : ℕ) → c ≤ f → b < samples → uneven b f ≡ level b f = λ f b from h.
    let s = states b h in table-same _ _ n (λ t ht. level-record plan start samples every b f t s.0 s.1 from ht) in
    let each : (f : ℕ) → c ≤ f → U f ≡ L f = λ f from.
    ap (λ r. cond (is_recorded every f) r []) (joined-same (λ b. uneven b f) (λ b. level b f) (λ b. b) samples (λ b h. measured f b from h)) in
    ap (λ k. flat_map U (table (λ j. k + j) (e - k))) (level-floor plan (start 0) some) ∙ joined-same U L (λ j. c + j) (e - c) (λ k h. each (c + k) (omega arith))
