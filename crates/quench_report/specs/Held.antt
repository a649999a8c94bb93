-- The sums of a bank of a kept state, as they are held.
use Rattle.std.specs.Prelude.{◌≢◌, ℕ, ◌+◌, ◌/◌, ◌%◌, ◌<◌, ◌≤◌, List, [], All, length, slice_index_or}
use Rattle.scalar_rule.specs.Plan.{Plan}
use Rattle.plane_sweep.specs.Packed.{part_slot, FitsDuo}
use Rattle.plane_sweep.specs.declared.replica.Duo.{Duo}
use Rattle.plane_sweep.specs.declared.stand.Stand.{Stand}
use Rattle.measured_sums.specs.OverlapField.{Field}
use Rattle.measured_sums.specs.MeasuredSums.{Observed, observed_in}
use Rattle.quenched_states.specs.Copies.{two_time_field}
use Rattle.quenched_states.specs.QuenchText.{QuenchHeading}
use Rattle.quenched_sums.specs.Told.{TellsPair, TellsState}
use Rattle.quenched_sums.specs.declared.pair.PairSums.{PairSums}
use Rattle.quenched_sums.specs.declared.state.StateSums.{StateSums}
use Rattle.copies_report.specs.States.{bank_at, slot_among, HasSlots}
use Rattle.quench_report.specs.States.{plan_among, state_at}
use Rattle.quench_report.specs.declared.measuring.KeptSums.{KeptSums}

-- ---- places

-- slot t of bank w of state j
abbrev pub slot_in : List (List Stand) → ℕ → ℕ → ℕ → Duo
slot_in states j w t = slot_among (bank_at (state_at states j) w).slots t

-- a state has bank w, with so many slots, which fit the lattice
pub record HasBank (l slots w : ℕ) (stands : List Stand) : Type 0 where
  pub within : w < length stands
  pub slots_fit : HasSlots l slots (bank_at stands w)

-- it has slot t of bank w, which fits
pub record HasSlot (l w t : ℕ) (stands : List Stand) : Type 0 where
  pub bank : w < length stands
  pub slot : t < length (bank_at stands w).slots
  pub fits : FitsDuo l (slot_among (bank_at stands w).slots t)

-- there is room for so many slots, and in each for all times but the last
pub record HasRoom (count times : ℕ) (room : List KeptSums) : Type 0 where
  pub slots : count ≤ length room
  pub pairs : All (λ (sums : KeptSums). times ≤ length sums.pairs + 1) room

-- ---- what a bank has in its samples

-- what is seen of slot t of bank w of state j in sample b of the bank
abbrev pub bank_seen : Plan → List (List Stand) → ℕ → ℕ → ℕ → ℕ → Observed
bank_seen plan states j w t b = observed_in plan b (part_slot plan.size b (slot_in states j w t))

-- the fields of a slot's copies at two times in sample b
abbrev pub two_times : ℕ → Duo → Duo → ℕ → ℕ → Field
two_times l earlier later b = two_time_field (part_slot l b earlier) (part_slot l b later)

-- those of slot t of bank w of state j and of the earlier state i
abbrev pub bank_fields : ℕ → List (List Stand) → ℕ → ℕ → ℕ → ℕ → ℕ → ℕ → Field
bank_fields l states j w t i = two_times l (slot_in states i w t) (slot_in states j w t)

-- by sample of all, where they are given by slot and sample of the bank
abbrev pub of_sample : (ℕ → ℕ → Observed) → ℕ → ℕ → ℕ → Observed
of_sample seen j b t = seen t (b % 64)

abbrev pub of_earlier : (ℕ → ℕ → ℕ → ℕ → Field) → ℕ → ℕ → ℕ → ℕ → ℕ → Field
of_earlier fields i j b t = fields t i (b % 64)

-- ---- what is held

-- the sums with earlier state i
abbrev pub earlier_at : List PairSums → ℕ → PairSums
earlier_at pairs i = slice_index_or pairs i (record { first_overlaps = []; second_overlaps = []; first_links = []; second_links = [] })

-- those of the first n states are held
abbrev pub HoldPairs : ℕ → List PairSums → (ℕ → ℕ → ℕ → Field) → ℕ → Type 0
HoldPairs l pairs fields n = (i : ℕ) → i < n → TellsPair l (earlier_at pairs i) (fields i)

-- the sums of a slot of state j are held
pub record TellsKept (l j : ℕ) (sums : KeptSums) (seen : ℕ → Observed) (fields : ℕ → ℕ → ℕ → Field) : Type 0 where
  pub state : TellsState l sums.state seen
  pub pairs : HoldPairs l sums.pairs fields j

-- the sums of slot t
abbrev pub kept_at : List KeptSums → ℕ → KeptSums
kept_at room t = slice_index_or room t (record { state = nothing; pairs = [] })
  where
    nothing : StateSums
    nothing = record { first_energies = []; second_energies = []; overlaps = []; distances = [] }

-- those of the first n slots are held
abbrev pub HoldKept : ℕ → ℕ → List KeptSums → (ℕ → ℕ → Observed) → (ℕ → ℕ → ℕ → ℕ → Field) → ℕ → Type 0
HoldKept l j room seen fields n = (t : ℕ) → t < n → TellsKept l j (kept_at room t) (seen t) (fields t)

-- for bank w of state j
abbrev pub HoldBank : Plan → List (List Stand) → ℕ → ℕ → List KeptSums → ℕ → Type 0
HoldBank plan states j w room n = HoldKept plan.size j room (bank_seen plan states j w) (bank_fields plan.size states j w) n

-- those of a sample's bank are, unless the sample is the first of it
abbrev pub HoldsBankOf : QuenchHeading → List Plan → List (List Stand) → ℕ → List KeptSums → ℕ → Type 0
HoldsBankOf h plans states j room b = b % 64 ≢ 0 → HoldBank (plan_among plans b) states j (b / 64) room h.slots
