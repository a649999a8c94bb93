-- The text of the states by their banks, and by the samples that they are.
use Rattle.std.proofs.Common.{◌≡◌, ℕ, ◌+◌, ◌-◌, ◌/◌, ◌%◌, ◌<◌, ◌≤◌, List, [], ◌++◌, length, refl, ap, ap₂, sym, ◌∙◌, arith}
use Rattle.std.specs.Prelude.{codes, flat_map}
use Rattle.std.proofs.lemmas.List.{get_or-map}
use Rattle.spin_model.specs.Steps.{table}
use Rattle.spin_model.proofs.Joined.{joined-same}
use Rattle.scalar_rule.specs.Plan.{Plan}
use Rattle.scalar_rule.specs.Epoch.{slot_at}
use Rattle.scalar_rule.specs.declared.plain_copy.PlainCopy.{PlainCopy}
use Rattle.scalar_rule.specs.declared.sample.PlainSlot.{PlainSlot}
use Rattle.scalar_rule.specs.declared.sample.Sample.{Sample}
use Rattle.plane_sweep.specs.Packed.{part, part_slot}
use Rattle.plane_sweep.specs.declared.stand.Stand.{Stand}
use Rattle.measured_sums.specs.MeasuredSums.{observed_in}
use Rattle.quenched_states.specs.Copies.{two_time_field}
use Rattle.quenched_states.specs.KeptStates.{time_at}
use Rattle.quenched_states.specs.QuenchText.{QuenchHeading, pair_line, quench_heading_line, quench_text, sample_lines, slot_lines, state_line, state_seen, state_fields, time_lines}
use Rattle.copies_report.specs.States.{bank_at, slot_among}
use Rattle.quench_report.specs.Held.{bank_fields, bank_seen, of_earlier, of_sample, slot_in}
use Rattle.quench_report.specs.States.{kept_among, kept_fields, kept_seen, plan_among, state_at, AreKept, TextIsTheSamples}
use Rattle.quench_report.proofs.Banks.{plan-size}

-- ---- a slot

-- what is printed of the states of one slot, and of two of them
abbrev state_text : ℕ → Plan → ℕ → ℕ → ℕ → ℕ → PlainSlot → List ℕ
state_text l plan bit b t time x = state_line l time b t (observed_in plan bit x)

abbrev pair_text : ℕ → ℕ → ℕ → ℕ → ℕ → PlainSlot → PlainSlot → List ℕ
pair_text l b t waited time x y = pair_line l waited time b t (two_time_field x y)

-- of states that are the same
slot-same : (l : ℕ) (plan other : Plan) (times : List ℕ) (bit same_bit b t j : ℕ) (x y : ℕ → PlainSlot) → plan ≡ other → bit ≡ same_bit → ((i : ℕ) → i ≤ j → x i ≡ y i)
    → state_text l plan bit b t (time_at times j) (x j) ++ flat_map (λ i. pair_text l b t (time_at times i) (time_at times j) (x i) (x j)) (table (λ i. i) j)
    ≡ state_text l other same_bit b t (time_at times j) (y j) ++ flat_map (λ i. pair_text l b t (time_at times i) (time_at times j) (y i) (y j)) (table (λ i. i) j)
slot-same l plan other times bit same_bit b t j x y plans bits same =
    let last = same j (omega arith) in
    let one = ap₂ (λ (p : Plan) (n : ℕ). state_text l p n b t (time_at times j) (x j)) plans bits ∙ ap (state_text l other same_bit b t (time_at times j)) last in
    ap₂ (λ (u v : List ℕ). u ++ v) one
    (joined-same (λ i. pair_text l b t (time_at times i) (time_at times j) (x i) (x j)) (λ i. pair_text l b t (time_at times i) (time_at times j) (y i) (y j)) (λ i. i) j
    (λ i below. ap₂ (pair_text l b t (time_at times i) (time_at times j)) (same i (omega (arith, below))) last))

-- ---- the samples

pub text-same : TextIsTheSamples
unfolding quench_text
text-same h plans states plan kept plans_are states_are =
    ap (λ (xs : List ℕ). quench_heading_line h ++ xs ++ codes "end\n")
    (joined-same (time_lines h (kept_seen h.size plans states) (kept_fields h.size states)) (time_lines h (state_seen plan kept) (state_fields kept))
    (λ k. h.held + k) (length h.times - h.held)
    (λ k below. joined-same (sample_lines h (kept_seen h.size plans states) (kept_fields h.size states) (h.held + k)) (sample_lines h (state_seen plan kept) (state_fields kept) (h.held + k))
    (λ b. b) h.samples
    (λ b within. joined-same (slot_lines h (kept_seen h.size plans states) (kept_fields h.size states) (h.held + k) b) (slot_lines h (state_seen plan kept) (state_fields kept) (h.held + k) b)
    (λ t. t) h.slots
    (λ t _. slot-same h.size (plan_among plans b) (plan b) h.times (kept_among h.size states b (h.held + k)).bit (kept b (h.held + k)).bit b t (h.held + k)
    (λ i. slot_at (kept_among h.size states b i).slots t) (λ i. slot_at (kept b i).slots t) (plans_are b within)
    (ap (λ (s : Sample). s.bit) (states_are b (h.held + k) within (omega (arith, below))))
    (λ i most. ap (λ (s : Sample). slot_at s.slots t) (states_are b i within (omega (arith, below, most))))))))

-- ---- the banks

-- a slot of a sample is that of its bank
slot-read : (l b : ℕ) (stand : Stand) (t : ℕ) → t < length stand.slots → slot_at (part l b stand).slots t ≡ part_slot l b (slot_among stand.slots t)
unfolding part
slot-read l b stand t below =
    let copy : PlainCopy = record { spins = []; wheels = []; replica = 0 } in
    let slot : PlainSlot = record { first = copy; second = copy } in
    get_or-map (part_slot l b) stand.slots t _ slot below

-- the lines of a sample are those of its bank
pub sample-shown : (h : QuenchHeading) (plans : List Plan) (states : List (List Stand)) (j b : ℕ) → AreKept h plans states → j < length h.times → b < h.samples
    → sample_lines h (of_sample (bank_seen (plan_among plans b) states j (b / 64))) (of_earlier (bank_fields (plan_among plans b).size states j (b / 64))) j b
    ≡ sample_lines h (kept_seen h.size plans states) (kept_fields h.size states) j b
unfolding part
sample-shown h plans states j b are below within =
    let plan = plan_among plans b in
    let size = plan-size h plans states b are within in
    joined-same (slot_lines h (of_sample (bank_seen plan states j (b / 64))) (of_earlier (bank_fields plan.size states j (b / 64))) j b)
    (slot_lines h (kept_seen h.size plans states) (kept_fields h.size states) j b) (λ t. t) h.slots
    (λ t inside. slot-same h.size plan plan h.times (b % 64) (b % 64) b t j
    (λ i. part_slot plan.size (b % 64) (slot_in states i (b / 64) t)) (λ i. slot_at (kept_among h.size states b i).slots t) refl refl
    (λ i most.
    let here : i < length states = omega (arith, are.times, below, most) in
    let banks = are.banks i [] here in
    let count = (are.slots i [] here (b / 64) (record { epoch = 0; slots = []; pairs = [] }) (omega (arith, banks, are.samples, within))).count in
    ap (λ (l : ℕ). part_slot l (b % 64) (slot_in states i (b / 64) t)) size
    ∙ sym (slot-read h.size (b % 64) (bank_at (state_at states i) (b / 64)) t (omega (arith, count, inside)))))
