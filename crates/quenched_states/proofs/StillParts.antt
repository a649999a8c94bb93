-- Sweeps without exchange, in parts, and with one slot.
use Rattle.std.proofs.Common.{◌≡◌, ℕ, zero, suc, ◌+◌, ◌-◌, ◌*◌, ◌<◌, ◌≤◌, Bool, true, false, cond, nat_lt, List, [], length, refl, ap, ap₂, sym, ◌∙◌, arith, add-zero}
use Rattle.std.proofs.lemmas.Bool.Decides.{nat_tests}
use Rattle.spin_model.specs.Steps.{steps}
use Rattle.spin_model.proofs.Stepping.{steps-add, steps-zero}
use Rattle.spin_model.proofs.Tables.{table-same, get_or-table, table-of_items}
use Rattle.scalar_rule.specs.Plan.{Plan, slots_of, pairs_of, dynamics_of}
use Rattle.scalar_rule.specs.Replica.{configuration_of, with_configuration}
use Rattle.scalar_rule.specs.Sweep.{Dynamics, Configuration, sweep, sweeps}
use Rattle.scalar_rule.specs.Exchange.{drawn_pair}
use Rattle.scalar_rule.specs.Epoch.{slot_at, pair_at, swept_slot, swept_slots, has_turn, has_partner, pair_of, partner, side, exchanged, epoch}
use Rattle.scalar_rule.specs.Serial.{serial}
use Rattle.scalar_rule.specs.Shape.{Fits}
use Rattle.scalar_rule.specs.declared.plain_copy.PlainCopy.{PlainCopy}
use Rattle.scalar_rule.specs.declared.sample.PlainSlot.{PlainSlot}
use Rattle.scalar_rule.specs.declared.sample.PlainPair.{PlainPair}
use Rattle.scalar_rule.specs.declared.sample.Sample.{Sample}
use Rattle.scalar_rule.proofs.Resuming.{epochs}
use Rattle.quenched_states.specs.StillRule.{still_copy, still_slot, still}

-- ---- sweeps, and then more

sweeps-start : (d : Dynamics) (a b n : ℕ) (s : Configuration) → steps (λ _ t. sweep d t) a n s ≡ steps (λ _ t. sweep d t) b n s
unfolding steps
sweeps-start d a b zero s = refl
sweeps-start d a b (suc n) s = ap (sweep d) (sweeps-start d a b n s)

pub sweeps-more : (d : Dynamics) (n m : ℕ) (s : Configuration) → sweeps d m (sweeps d n s) ≡ sweeps d (n + m) s
sweeps-more d n m s = sweeps-start d 0 (0 + n) m (sweeps d n s) ∙ sym (steps-add (λ _ t. sweep d t) 0 n m s)

pub copy-more : (plan : Plan) (b t n m : ℕ) (copy : PlainCopy) → still_copy plan b t m (still_copy plan b t n copy) ≡ still_copy plan b t (n + m) copy
copy-more plan b t n m copy =
    let d = dynamics_of plan b t in
    let start : Configuration = record { spins = copy.spins; words = copy.wheels } in
    let parts : plan.sweeps * n + plan.sweeps * m ≡ plan.sweeps * (n + m) = omega arith in
    let whole = sweeps-more d (plan.sweeps * n) (plan.sweeps * m) start ∙ ap (λ k. sweeps d k start) parts in
    ap (λ (c : Configuration). record { spins = c.spins; wheels = c.words; replica = copy.replica }) whole

pub slot-more : (plan : Plan) (b t n m : ℕ) (slot : PlainSlot) → still_slot plan b t m (still_slot plan b t n slot) ≡ still_slot plan b t (n + m) slot
unfolding still_slot
slot-more plan b t n m slot = ap₂ (λ x y. record { first = x; second = y }) (copy-more plan b t n m slot.first) (copy-more plan b t n m slot.second)

pub still-composes : (plan : Plan) (s : Sample) (d e : ℕ) → s.epoch ≤ d → d ≤ e → still plan (still plan s d) e ≡ still plan s e
still-composes plan s d e from to =
    let b = s.bit in
    let n = slots_of plan in
    let slots = table-same (λ t. still_slot plan b t (e - d) (slot_at (still plan s d).slots t)) (λ t. still_slot plan b t (e - s.epoch) (slot_at s.slots t)) n
    (λ t below. ap (still_slot plan b t (e - d)) (get_or-table _ n t _ below)
    ∙ slot-more plan b t (d - s.epoch) (e - d) (slot_at s.slots t)
    ∙ ap (λ k. still_slot plan b t k (slot_at s.slots t)) (let whole : d - s.epoch + (e - d) ≡ e - s.epoch = omega arith in whole)) in
    ap (λ (v : List PlainSlot). record { bit = b; epoch = e; slots = v; pairs = s.pairs }) slots

-- ---- one epoch

one-epoch : (plan : Plan) (b t : ℕ) (slot : PlainSlot) → still_slot plan b t 1 slot ≡ swept_slot plan b t slot
unfolding still_slot swept_slot
one-epoch plan b t slot =
    let once : plan.sweeps * 1 ≡ plan.sweeps = omega arith in
    let after = λ (k : ℕ) (copy : PlainCopy). with_configuration copy (sweeps (dynamics_of plan b t) k (configuration_of copy)) in
    ap (λ k. record { first = after k slot.first; second = after k slot.second }) once

pub still-sweeps : (plan : Plan) (s : Sample) (e : ℕ) → s.epoch ≤ e → (still plan s (e + 1)).slots ≡ swept_slots plan (still plan s e)
still-sweeps plan s e from =
    let b = s.bit in
    let n = slots_of plan in
    table-same (λ t. still_slot plan b t (e + 1 - s.epoch) (slot_at s.slots t)) (λ t. swept_slot plan b t (slot_at (still plan s e).slots t)) n
    (λ t below. ap (λ k. still_slot plan b t k (slot_at s.slots t)) (let whole : e + 1 - s.epoch ≡ e - s.epoch + 1 = omega arith in whole)
    ∙ sym (slot-more plan b t (e - s.epoch) 1 (slot_at s.slots t))
    ∙ one-epoch plan b t (still_slot plan b t (e - s.epoch) (slot_at s.slots t))
    ∙ ap (swept_slot plan b t) (sym (get_or-table _ n t _ below)))

-- ---- one slot

no-sweep : (plan : Plan) (b t : ℕ) (slot : PlainSlot) → still_slot plan b t 0 slot ≡ slot
unfolding still_slot
no-sweep plan b t slot =
    let none : plan.sweeps * 0 ≡ 0 = omega arith in
    let d = dynamics_of plan b t in
    let same = λ (copy : PlainCopy). ap (λ k. with_configuration copy (sweeps d k (configuration_of copy))) none
    ∙ ap (with_configuration copy) (steps-zero (λ _ s. sweep d s) 0 (configuration_of copy)) in
    ap₂ (λ x y. record { first = x; second = y }) (same slot.first) (same slot.second)

still-begins : (plan : Plan) (s : Sample) → length s.slots ≡ slots_of plan → still plan s s.epoch ≡ s
still-begins plan s sized =
    let here = λ (t : ℕ). still_slot plan s.bit t (s.epoch - s.epoch) (slot_at s.slots t) in
    let none : s.epoch - s.epoch ≡ 0 = omega arith in
    let nothing : PlainCopy = record { spins = []; wheels = []; replica = 0 } in
    let empty : PlainSlot = record { first = nothing; second = nothing } in
    let slots = table-of_items here (slots_of plan) empty s.slots sized
    (λ t below. sym (ap (λ k. still_slot plan s.bit t k (slot_at s.slots t)) none ∙ no-sweep plan s.bit t (slot_at s.slots t))) in
    ap (λ (v : List PlainSlot). record { bit = s.bit; epoch = s.epoch; slots = v; pairs = s.pairs }) (sym slots)

both-false : (b : Bool) → cond b false false ≡ false
both-false true = refl
both-false false = refl

alone : (n t e : ℕ) → n ≡ 1 → t < n → has_partner n t e ≡ false
alone n t e one below =
    let above : nat_lt (t + 1) n ≡ false = grind (arith, nat_tests) in
    let before : nat_lt 0 t ≡ false = grind (arith, nat_tests) in
    ap₂ (λ x y. cond (has_turn t e) x y) above before ∙ both-false (has_turn t e)

still-next : (plan : Plan) (s : Sample) (e : ℕ) → slots_of plan ≡ 1 → length s.pairs ≡ pairs_of plan → s.epoch ≤ e → still plan s (e + 1) ≡ epoch plan (still plan s e)
still-next plan s e one paired from =
    let x = still plan s e in
    let n = slots_of plan in
    let swept = swept_slots plan x in
    let slots = still-sweeps plan s e from
    ∙ table-same (λ t. swept_slot plan x.bit t (slot_at x.slots t)) (exchanged plan x.bit x.epoch x.pairs swept) n
    (λ t below. sym (ap (λ c. cond c (side plan x.bit x.epoch t (pair_at x.pairs (pair_of t x.epoch)) (slot_at swept t) (slot_at swept (partner t x.epoch))) (slot_at swept t)) (alone n t x.epoch one below)
    ∙ get_or-table _ n t _ below)) in
    let silent : PlainPair = record { first = []; second = [] } in
    let pairs = table-of_items (λ k. cond (has_turn k x.epoch) (drawn_pair (pair_at x.pairs k)) (pair_at x.pairs k)) (pairs_of plan) silent s.pairs paired
    (λ k below. absurd (omega arith)) in
    ap₂ (λ (v : List PlainSlot) (w : List PlainPair). record { bit = s.bit; epoch = e + 1; slots = v; pairs = w }) slots pairs

one-slot : (plan : Plan) (s : Sample) (n : ℕ) → slots_of plan ≡ 1 → Fits plan s → still plan s (s.epoch + n) ≡ epochs plan s.epoch n s
unfolding steps
one-slot plan s zero one fits = ap (still plan s) (add-zero s.epoch) ∙ still-begins plan s fits.slots.count
one-slot plan s (suc n) one fits =
    let more : s.epoch + suc n ≡ s.epoch + n + 1 = omega arith in
    ap (still plan s) more ∙ still-next plan s (s.epoch + n) one fits.pairs (omega arith) ∙ ap (epoch plan) (one-slot plan s n one fits)

pub one-slot-serial : (plan : Plan) (s : Sample) (e : ℕ) → slots_of plan ≡ 1 → Fits plan s → s.epoch ≤ e → still plan s e ≡ serial plan s e
one-slot-serial plan s e one fits from =
    let whole : e ≡ s.epoch + (e - s.epoch) = omega arith in
    ap (still plan s) whole ∙ one-slot plan s (e - s.epoch) one fits
