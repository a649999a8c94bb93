-- An epoch of parallel tempering of one disorder sample: the sweeps of every slot, its record, and the exchange of the
-- pairs whose turn it is.
use Rattle.std.specs.Prelude.{ℕ, ◌+◌, ◌-◌, ◌%◌, Bool, ◌==◌, nat_lt, if◌then◌else◌, List, [], slice_index_or}
use Rattle.coupling_set.specs.CouplingWords.{bonds_of}
use Rattle.spin_model.specs.Steps.{table}
use Rattle.scalar_rule.specs.Plan.{Plan, slots_of, pairs_of, dynamics_of}
use Rattle.scalar_rule.specs.Replica.{configuration_of, with_configuration}
use Rattle.scalar_rule.specs.Sums.{energy, overlap}
use Rattle.scalar_rule.specs.Sweep.{sweeps}
use Rattle.scalar_rule.specs.Exchange.{cold_side, hot_side, drawn_pair}
use Rattle.scalar_rule.specs.declared.plain_copy.PlainCopy.{PlainCopy}
use Rattle.scalar_rule.specs.declared.sample.PlainSlot.{PlainSlot}
use Rattle.scalar_rule.specs.declared.sample.PlainPair.{PlainPair}
use Rattle.scalar_rule.specs.declared.sample.Record.{Record}
use Rattle.scalar_rule.specs.declared.sample.Sample.{Sample}

-- slot t of a list; one without spins or words where there is none
abbrev pub slot_at : List PlainSlot → ℕ → PlainSlot
slot_at slots t = slice_index_or slots t (record { first = nothing; second = nothing })
  where
    nothing : PlainCopy
    nothing = record { spins = []; wheels = []; replica = 0 }

-- pair k of a list; one without words where there is none
abbrev pub pair_at : List PlainPair → ℕ → PlainPair
pair_at pairs k = slice_index_or pairs k (record { first = []; second = [] })

-- a replica of slot t after the sweeps of an epoch; its label stays
abbrev pub swept_copy : Plan → ℕ → ℕ → PlainCopy → PlainCopy
swept_copy plan b t copy = with_configuration copy (sweeps (dynamics_of plan b t) plan.sweeps (configuration_of copy))

-- slot t after the sweeps of an epoch, before the exchange
unfoldable pub swept_slot : Plan → ℕ → ℕ → PlainSlot → PlainSlot
swept_slot plan b t slot = record { first = swept_copy plan b t slot.first; second = swept_copy plan b t slot.second }

-- what is measured of a slot after its sweeps
abbrev pub record_of : Plan → ℕ → PlainSlot → Record
record_of plan b slot = record {
  first_energy = energy plan.size (bonds_of plan.couplings b) slot.first.spins;
  second_energy = energy plan.size (bonds_of plan.couplings b) slot.second.spins;
  overlap = overlap plan.size slot.first.spins slot.second.spins;
  first_replica = slot.first.replica;
  second_replica = slot.second.replica;
}

-- pair k has its turn at epoch e: k and e are equal modulo 2; slot k is then its colder one
abbrev pub has_turn : ℕ → ℕ → Bool
has_turn k e = (k + e) % 2 == 0

-- slot t of n slots is in a pair that has its turn at epoch e
abbrev pub has_partner : ℕ → ℕ → ℕ → Bool
has_partner n t e = if has_turn t e then nat_lt (t + 1) n else nat_lt 0 t

-- that pair
abbrev pub pair_of : ℕ → ℕ → ℕ
pair_of t e = if has_turn t e then t else t - 1

-- the other slot of that pair
abbrev pub partner : ℕ → ℕ → ℕ
partner t e = if has_turn t e then t + 1 else t - 1

-- slot t after the exchange of epoch e, from itself, its partner and their pair's generators
unfoldable pub side : Plan → ℕ → ℕ → ℕ → PlainPair → PlainSlot → PlainSlot → PlainSlot
side plan b e t pair own other =
    if has_turn t e then cold_side plan b (pair_of t e) pair own other else hot_side plan b (pair_of t e) pair other own

-- slot t after the exchange of epoch e, from all slots after their sweeps
abbrev pub exchanged : Plan → ℕ → ℕ → List PlainPair → List PlainSlot → ℕ → PlainSlot
exchanged plan b e pairs slots t =
    if has_partner (slots_of plan) t e then
    side plan b e t (pair_at pairs (pair_of t e)) (slot_at slots t) (slot_at slots (partner t e))
    else slot_at slots t

-- all slots after the sweeps
abbrev pub swept_slots : Plan → Sample → List PlainSlot
swept_slots plan s = table (λ t. swept_slot plan s.bit t (slot_at s.slots t)) (slots_of plan)

-- the state after an epoch
abbrev pub epoch : Plan → Sample → Sample
epoch plan s = record {
  bit = s.bit;
  epoch = s.epoch + 1;
  slots = table (exchanged plan s.bit s.epoch s.pairs (swept_slots plan s)) (slots_of plan);
  pairs = table (λ k. if has_turn k s.epoch then drawn_pair (pair_at s.pairs k) else pair_at s.pairs k) (pairs_of plan);
}

-- the records of an epoch, slot by slot
abbrev pub epoch_records : Plan → Sample → List Record
epoch_records plan s = table (λ t. record_of plan s.bit (slot_at (swept_slots plan s) t)) (slots_of plan)
