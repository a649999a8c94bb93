-- What holds of quenches, for every plan, state and list of times.
use Rattle.std.specs.Prelude.{◌≡◌, ℕ, ◌+◌, ◌*◌, ◌%◌, ◌<◌, ◌≤◌, ℤ, pos, nat_abs, ◌+ℤ◌, ◌≤ℤ◌, Bool, List, ◌++◌, length, take}
use Rattle.spin_model.specs.Lattice.{IsLawfulSize, volume}
use Rattle.scalar_rule.specs.Plan.{Plan, slots_of}
use Rattle.scalar_rule.specs.Epoch.{swept_slots}
use Rattle.scalar_rule.specs.Serial.{serial}
use Rattle.scalar_rule.specs.Shape.{Fits}
use Rattle.scalar_rule.specs.declared.sample.PlainSlot.{PlainSlot}
use Rattle.scalar_rule.specs.declared.sample.Sample.{Sample}
use Rattle.measured_sums.specs.OverlapField.{Field, site_overlap, total_overlap, distance_correlation}
use Rattle.measured_sums.specs.MeasuredSums.{Observed}
use Rattle.measured_sums.specs.Laws.{IsAtMostOne}
use Rattle.quenched_states.specs.StillRule.{still}
use Rattle.quenched_states.specs.KeptStates.{AreQuenchTimes, time_at, kept_state, gone_on}
use Rattle.quenched_states.specs.Copies.{two_time_field, pair_field, pair_of, turned}
use Rattle.quenched_states.specs.QuenchText.{QuenchHeading, lines_between, state_seen, state_fields}

-- ---- sweeps without exchange

-- to an epoch d, and on from there to e, it is the same as to e at once
abbrev pub StillComposes : Type 0
StillComposes = (plan : Plan) (s : Sample) (d e : ℕ) → s.epoch ≤ d → d ≤ e → still plan (still plan s d) e ≡ still plan s e

-- an epoch more is the sweeps that an epoch of the serial dynamics has before its exchange
abbrev pub StillSweeps : Type 0
StillSweeps = (plan : Plan) (s : Sample) (e : ℕ) → s.epoch ≤ e → (still plan s (e + 1)).slots ≡ swept_slots plan (still plan s e)

-- with one slot there is no pair, and it is the serial dynamics
abbrev pub OneSlotIsSerial : Type 0
OneSlotIsSerial = (plan : Plan) (s : Sample) (e : ℕ) → slots_of plan ≡ 1 → Fits plan s → s.epoch ≤ e → still plan s e ≡ serial plan s e

-- ---- kept states and their lines

-- a quench that goes on keeps the states that it would have kept at once
abbrev pub KeptStatesGoOn : Type 0
KeptStatesGoOn = (plan : Plan) (s : Sample) (times : List ℕ) (count j : ℕ) → AreQuenchTimes times → s.epoch ≤ time_at times 0 → 0 < count → j < length times
    → gone_on plan times count (kept_state plan s times) j ≡ kept_state plan s times j

-- the lines of the states from a to m, and then those to e, are those from a to e
abbrev pub LinesAddUp : Type 0
LinesAddUp = (h : QuenchHeading) (seen : ℕ → ℕ → ℕ → Observed) (fields : ℕ → ℕ → ℕ → ℕ → ℕ → Field) (a m e : ℕ) → a ≤ m → m ≤ e
    → lines_between h seen fields a m ++ lines_between h seen fields m e ≡ lines_between h seen fields a e

-- the heading of a quench to the first times
abbrev pub first_part : QuenchHeading → ℕ → QuenchHeading
first_part h count =
    record { size = h.size; slots = h.slots; samples = h.samples; rule = h.rule; sweeps = h.sweeps; times = take count h.times; held = 0 }

-- all lines of a quench from one of its states on
abbrev pub quench_lines : QuenchHeading → (ℕ → Plan) → (ℕ → ℕ → Sample) → ℕ → ℕ → List ℕ
quench_lines h plan kept first end = lines_between h (state_seen plan kept) (state_fields kept) first end

-- the lines of a quench to the first times, and those of the one that goes on from the states that it kept, are those of all times at once
abbrev pub QuenchesAddUp : Type 0
QuenchesAddUp = (h : QuenchHeading) (plan : ℕ → Plan) (start : ℕ → Sample) (count : ℕ) → AreQuenchTimes h.times → 0 < count → count ≤ length h.times
    → ((b : ℕ) → b < h.samples → (start b).epoch ≤ time_at h.times 0)
    → quench_lines (first_part h count) plan (λ b. kept_state (plan b) (start b) (take count h.times)) 0 count
    ++ quench_lines h plan (λ b. gone_on (plan b) h.times count (kept_state (plan b) (start b) (take count h.times))) count (length h.times)
    ≡ quench_lines h plan (λ b. kept_state (plan b) (start b) h.times) 0 (length h.times)

-- ---- copies

-- of a copy at two times: the field of the copies a and a + 2 of both states
abbrev pub TwoTimesAreCopies : Type 0
TwoTimesAreCopies = (earlier later : PlainSlot) (a : ℕ) → a < 2 → two_time_field earlier later a ≡ pair_field earlier later (pair_of a (a + 2))

-- where the two states change places, the copies do so too
abbrev pub CopiesTurn : Type 0
CopiesTurn = (first second : PlainSlot) (a b : ℕ) → a < 4 → b < 4
    → pair_field second first (pair_of (turned a) (turned b)) ≡ pair_field first second (pair_of a b)

-- it makes no difference which of two copies comes first
abbrev pub FieldsAreSymmetric : Type 0
FieldsAreSymmetric = (a b : List Bool) (i : ℕ) → site_overlap a b i ≡ site_overlap b a i

-- of three configurations no more than two thirds of the products can be -1 at a site
abbrev pub TrianglesHold : Type 0
TrianglesHold = (l : ℕ) (a b c : List Bool)
    → pos 0 ≤ℤ (total_overlap l (site_overlap a b) +ℤ total_overlap l (site_overlap b c) +ℤ total_overlap l (site_overlap a c) +ℤ pos (volume l))

-- a sum over pairs of sites some steps apart is at most the number of these pairs
abbrev pub DistancesAreBounded : Type 0
DistancesAreBounded = (l : ℕ) (q : Field) (r : ℕ) → IsAtMostOne q → nat_abs (distance_correlation l q r) ≤ 3 * volume l

-- and of two configurations it is a multiple of 4: steps of one length along an axis close into rings, and around a ring an even number
-- of the products of neighbours is -1
abbrev pub DistancesAreFours : Type 0
DistancesAreFours = (l : ℕ) (first second : List Bool) (r : ℕ) → IsLawfulSize l → nat_abs (distance_correlation l (site_overlap first second) r) % 4 ≡ 0
