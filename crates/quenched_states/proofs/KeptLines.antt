-- Kept states of a quench that goes on, and their lines.
use Rattle.std.proofs.Common.{inl, inr, ◌≡◌, ◌⊎◌, ℕ, zero, suc, ◌+◌, ◌-◌, ◌<◌, ◌≤◌, cond, true, false, nat_lt, List, ◌++◌, flat_map, length, take, get_or-take, slice_index, refl, ap, ap₂, sym, ◌∙◌, arith}
use Rattle.std.proofs.lemmas.Bool.{cases_lt}
use Rattle.std.proofs.lemmas.Bool.Decides.{nat_tests}
use Rattle.spin_model.specs.Steps.{table}
use Rattle.spin_model.proofs.Joined.{joined-add, joined-same}
use Rattle.spin_model.proofs.Tables.{table-same}
use Rattle.scalar_rule.specs.Plan.{Plan}
use Rattle.scalar_rule.specs.Epoch.{slot_at}
use Rattle.scalar_rule.specs.declared.sample.Sample.{Sample}
use Rattle.measured_sums.specs.OverlapField.{Field}
use Rattle.measured_sums.specs.MeasuredSums.{Observed, observed_in}
use Rattle.quenched_states.specs.StillRule.{still}
use Rattle.quenched_states.specs.KeptStates.{AreQuenchTimes, time_at, kept_state, gone_on}
use Rattle.quenched_states.specs.Copies.{two_time_field}
use Rattle.quenched_states.specs.QuenchText.{QuenchHeading, state_line, pair_line, slot_lines, sample_lines, time_lines, lines_between, state_seen, state_fields}
use Rattle.quenched_states.specs.Laws.{first_part, quench_lines}
use Rattle.quenched_states.proofs.StillParts.{still-composes}

-- ---- times

rising : (times : List ℕ) (i j : ℕ) → ((k : ℕ) → k + 1 < length times → slice_index times k < slice_index times (k + 1)) → i ≤ j → j < length times
    → time_at times i ≤ time_at times j
rising times i zero up within below = let same : i ≡ 0 = omega arith in let here = ap (time_at times) same in omega arith
rising times i (suc j) up within below = elim (cases_lt i (suc j)) [
  | inl less ↦
      let before = rising times i j up (omega arith) (omega arith) in
      let more : j + 1 ≡ suc j = omega arith in
      let last = up j (omega arith) in
      let there = ap (time_at times) more in
      omega arith
  | inr not ↦ let same : i ≡ suc j = omega arith in let here = ap (time_at times) same in omega arith
]

pub times-rise : (times : List ℕ) (i j : ℕ) → AreQuenchTimes times → i ≤ j → j < length times → time_at times i ≤ time_at times j
times-rise times i j are within below = rising times i j are.rising within below

-- ---- states

pub gone-early : (plan : Plan) (times : List ℕ) (count j : ℕ) (held : ℕ → Sample) → j < count → gone_on plan times count held j ≡ held j
gone-early plan times count j held less =
    let yes : nat_lt j count ≡ true = grind (arith, nat_tests) in
    ap (λ c. cond c (held j) (still plan (held (count - 1)) (time_at times j))) yes

pub gone-late : (plan : Plan) (times : List ℕ) (count j : ℕ) (held : ℕ → Sample) → count ≤ j
    → gone_on plan times count held j ≡ still plan (held (count - 1)) (time_at times j)
gone-late plan times count j held past =
    let no : nat_lt j count ≡ false = grind (arith, nat_tests) in
    ap (λ c. cond c (held j) (still plan (held (count - 1)) (time_at times j))) no

-- what is held are the states that would have been kept at once
pub states-go-on : (plan : Plan) (s : Sample) (times : List ℕ) (count j : ℕ) (held : ℕ → Sample) → AreQuenchTimes times → s.epoch ≤ time_at times 0 → 0 < count
    → j < length times → ((i : ℕ) → i < count → held i ≡ kept_state plan s times i) → gone_on plan times count held j ≡ kept_state plan s times j
states-go-on plan s times count j held are from some below same = elim (cases_lt j count) [
  | inl less ↦ gone-early plan times count j held less ∙ same j less
  | inr not ↦
      let past : count ≤ j = omega arith in
      let last = times-rise times (count - 1) j are (omega arith) below in
      let first = times-rise times 0 (count - 1) are (omega arith) (omega arith) in
      gone-late plan times count j held past
      ∙ ap (λ (x : Sample). still plan x (time_at times j)) (same (count - 1) (omega arith))
      ∙ still-composes plan s (time_at times (count - 1)) (time_at times j) (omega arith) last
]

pub kept-go-on : (plan : Plan) (s : Sample) (times : List ℕ) (count j : ℕ) → AreQuenchTimes times → s.epoch ≤ time_at times 0 → 0 < count → j < length times
    → gone_on plan times count (kept_state plan s times) j ≡ kept_state plan s times j
kept-go-on plan s times count j are from some below = states-go-on plan s times count j (kept_state plan s times) are from some below (λ i _. refl)

-- ---- lines

pub lines-add : (h : QuenchHeading) (seen : ℕ → ℕ → ℕ → Observed) (fields : ℕ → ℕ → ℕ → ℕ → ℕ → Field) (a m e : ℕ) → a ≤ m → m ≤ e
    → lines_between h seen fields a m ++ lines_between h seen fields m e ≡ lines_between h seen fields a e
lines-add h seen fields a m e from to =
    let g = time_lines h seen fields in
    let first = table (λ k. a + k) (m - a) in
    let places = table-same (λ k. m + k) (λ k. a + (m - a + k)) (e - m) (λ k below. omega arith) in
    let whole : m - a + (e - m) ≡ e - a = omega arith in
    ap (λ t. flat_map g first ++ flat_map g t) places
    ∙ sym (joined-add g (λ k. a + k) (m - a) (e - m))
    ∙ ap (λ n. flat_map g (table (λ k. a + k) n)) whole

-- what is printed of one state, and of two
abbrev state_text : ℕ → Plan → ℕ → ℕ → ℕ → Sample → List ℕ
state_text l plan b t time x = state_line l time b t (observed_in plan x.bit (slot_at x.slots t))

abbrev pair_text : ℕ → ℕ → ℕ → ℕ → ℕ → Sample → Sample → List ℕ
pair_text l b t waited time x y = pair_line l waited time b t (λ a. two_time_field (slot_at x.slots t) (slot_at y.slots t) a)

abbrev slot_text : ℕ → Plan → List ℕ → (ℕ → Sample) → ℕ → ℕ → ℕ → List ℕ
slot_text l plan times kept j b t =
    state_text l plan b t (time_at times j) (kept j)
    ++ flat_map (λ i. pair_text l b t (time_at times i) (time_at times j) (kept i) (kept j)) (table (λ i. i) j)

slot-same : (l : ℕ) (plan : Plan) (times others : List ℕ) (kept more : ℕ → Sample) (j b t : ℕ)
    → ((i : ℕ) → i ≤ j → time_at times i ≡ time_at others i) → ((i : ℕ) → i ≤ j → kept i ≡ more i)
    → slot_text l plan times kept j b t ≡ slot_text l plan others more j b t
slot-same l plan times others kept more j b t times-are states-are =
    let time = times-are j (omega arith) in
    let state = states-are j (omega arith) in
    let one = ap₂ (state_text l plan b t) time state in
    let pairs = joined-same (λ i. pair_text l b t (time_at times i) (time_at times j) (kept i) (kept j)) (λ i. pair_text l b t (time_at others i) (time_at others j) (more i) (more j)) (λ i. i) j
    (λ i below. ap₂ (λ w x. pair_text l b t w (time_at times j) x (kept j)) (times-are i (omega arith)) (states-are i (omega arith))
    ∙ ap₂ (λ e y. pair_text l b t (time_at others i) e (more i) y) time state) in
    ap₂ (λ u v. u ++ v) one pairs

-- two quenches whose times and states agree below an end
lines-same : (h : QuenchHeading) (others : List ℕ) (plan : ℕ → Plan) (kept more : ℕ → ℕ → Sample) (first end : ℕ)
    → ((i : ℕ) → i < end → time_at others i ≡ time_at h.times i) → ((b i : ℕ) → b < h.samples → i < end → kept b i ≡ more b i)
    → flat_map (λ j. flat_map (λ b. flat_map (slot_text h.size (plan b) others (kept b) j b) (table (λ t. t) h.slots)) (table (λ b. b) h.samples)) (table (λ k. first + k) (end - first))
    ≡ quench_lines h plan more first end
lines-same h others plan kept more first end times-are states-are =
    joined-same (λ j. flat_map (λ b. flat_map (slot_text h.size (plan b) others (kept b) j b) (table (λ t. t) h.slots)) (table (λ b. b) h.samples))
    (time_lines h (state_seen plan more) (state_fields more)) (λ k. first + k) (end - first)
    (λ k below. joined-same (λ b. flat_map (slot_text h.size (plan b) others (kept b) (first + k) b) (table (λ t. t) h.slots))
    (sample_lines h (state_seen plan more) (state_fields more) (first + k)) (λ b. b) h.samples
    (λ b within. joined-same (slot_text h.size (plan b) others (kept b) (first + k) b) (slot_lines h (state_seen plan more) (state_fields more) (first + k) b) (λ t. t) h.slots
    (λ t _. slot-same h.size (plan b) others h.times (kept b) (more b) (first + k) b t
    (λ i most. times-are i (omega arith)) (λ i most. states-are b i within (omega arith)))))

early-time : (times : List ℕ) (count i : ℕ) → i < count → time_at (take count times) i ≡ time_at times i
early-time times count i below = get_or-take count times i 0 below

pub quenches-add : (h : QuenchHeading) (plan : ℕ → Plan) (start : ℕ → Sample) (count : ℕ) → AreQuenchTimes h.times → 0 < count → count ≤ length h.times
    → ((b : ℕ) → b < h.samples → (start b).epoch ≤ time_at h.times 0)
    → quench_lines (first_part h count) plan (λ b. kept_state (plan b) (start b) (take count h.times)) 0 count
    ++ quench_lines h plan (λ b. gone_on (plan b) h.times count (kept_state (plan b) (start b) (take count h.times))) count (length h.times)
    ≡ quench_lines h plan (λ b. kept_state (plan b) (start b) h.times) 0 (length h.times)
quenches-add h plan start count are some within from =
    let whole = λ (b : ℕ). kept_state (plan b) (start b) h.times in
    let part = λ (b : ℕ). kept_state (plan b) (start b) (take count h.times) in
    let early = λ (b i : ℕ) (below : i < count). ap (still (plan b) (start b)) (early-time h.times count i below) in
    let first = lines-same h (take count h.times) plan part whole 0 count (early-time h.times count) (λ b i _ below. early b i below) in
    let rest = lines-same h h.times plan (λ b. gone_on (plan b) h.times count (part b)) whole count (length h.times) (λ i _. refl)
    (λ b i inside below. states-go-on (plan b) (start b) h.times count i (part b) are (from b inside) some below (early b)) in
    ap₂ (λ u v. u ++ v) first rest ∙ lines-add h (state_seen plan whole) (state_fields whole) 0 count (length h.times) (omega arith) within
