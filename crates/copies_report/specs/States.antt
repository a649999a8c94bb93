-- Two states of 64 samples a bank, bank by bank, and the four copies that they have.
use Rattle.std.specs.Prelude.{◌≡◌, ℕ, ◌*◌, ◌/◌, ◌%◌, ◌≤◌, ◌-◌, nat_lt, ◌==◌, if◌then◌else◌, List, [], All, length, slice_index_or}
use Rattle.scalar_rule.specs.declared.sample.Sample.{Sample}
use Rattle.plane_sweep.specs.Packed.{part, FitsDuo}
use Rattle.plane_sweep.specs.declared.replica.Duo.{Duo}
use Rattle.plane_sweep.specs.declared.replica.Replica.{Replica}
use Rattle.plane_sweep.specs.declared.stand.Stand.{Stand}
use Rattle.measured_sums.specs.OverlapField.{Field}
use Rattle.quenched_states.specs.Copies.{CopyPair, pair_of, copy_pairs}
use Rattle.quenched_states.specs.CrossText.{CrossHeading, copies_fields}
use Rattle.copies_report.specs.declared.head.CopiesHead.{CopiesHead}
use Rattle.copies_report.specs.declared.pairs.Pair.{Pair}

-- what the first line says
abbrev pub heading_of : CopiesHead → CrossHeading
heading_of head = record {
  size = head.lattice;
  slots = head.slots;
  samples = head.samples;
  rule = head.rule.now;
  first_seed = head.first_seed;
  second_seed = head.second_seed;
  first_epoch = head.first_epoch;
  second_epoch = head.second_epoch;
}

-- ---- states

-- bank g
abbrev pub bank_at : List Stand → ℕ → Stand
bank_at stands g = slice_index_or stands g (record { epoch = 0; slots = []; pairs = [] })

-- the state of sample b, which is sample b mod 64 of its bank
abbrev pub sample_among : ℕ → List Stand → ℕ → Sample
sample_among l stands b = part l (b % 64) (bank_at stands (b / 64))

-- the fields of each two copies of both states
abbrev pub states_fields : ℕ → List Stand → List Stand → ℕ → ℕ → CopyPair → Field
states_fields l first second = copies_fields (sample_among l first) (sample_among l second)

-- so many slots, which fit the lattice
pub record HasSlots (l slots : ℕ) (stand : Stand) : Type 0 where
  pub count : length stand.slots ≡ slots
  pub fit : All (FitsDuo l) stand.slots

-- the banks of a state have all samples
pub record AreStates (h : CrossHeading) (stands : List Stand) : Type 0 where
  pub samples : h.samples ≤ 64 * length stands
  pub slots : All (HasSlots h.size h.slots) stands

-- ---- copies

-- slot t of a state
abbrev pub slot_among : List Duo → ℕ → Duo
slot_among slots t = slice_index_or slots t (record { first = nothing; second = nothing })
  where
    nothing : Replica
    nothing = record { planes = []; labels = [] }

-- copies 0 and 1 are those of the first slot, 2 and 3 those of the second one
abbrev pub replica_of : Duo → ℕ → Replica
replica_of slot a = if a == 0 then slot.first else slot.second

abbrev pub replica_among : Duo → Duo → ℕ → Replica
replica_among first second a = if nat_lt a 2 then replica_of first a else replica_of second (a - 2)

-- pair p of them
abbrev pub pair_at : ℕ → CopyPair
pair_at p = slice_index_or copy_pairs p (pair_of 2 3)

-- the pair that is printed
abbrev pub copies_at : Pair → CopyPair
copies_at pair = record { one = pair.one; other = pair.other }
