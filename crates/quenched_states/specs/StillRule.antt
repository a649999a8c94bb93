-- Sweeps without exchange: the motion of one disorder sample after a quench.
use Rattle.std.specs.Prelude.{ℕ, ◌-◌, ◌*◌}
use Rattle.spin_model.specs.Steps.{table}
use Rattle.scalar_rule.specs.Plan.{Plan, slots_of, dynamics_of}
use Rattle.scalar_rule.specs.Replica.{configuration_of, with_configuration}
use Rattle.scalar_rule.specs.Sweep.{sweeps}
use Rattle.scalar_rule.specs.Epoch.{slot_at}
use Rattle.scalar_rule.specs.declared.plain_copy.PlainCopy.{PlainCopy}
use Rattle.scalar_rule.specs.declared.sample.PlainSlot.{PlainSlot}
use Rattle.scalar_rule.specs.declared.sample.Sample.{Sample}

-- a replica of slot t of sample b after the sweeps of n epochs; its label stays
abbrev pub still_copy : Plan → ℕ → ℕ → ℕ → PlainCopy → PlainCopy
still_copy plan b t n copy = with_configuration copy (sweeps (dynamics_of plan b t) (plan.sweeps * n) (configuration_of copy))

-- both replicas of the slot
unfoldable pub still_slot : Plan → ℕ → ℕ → ℕ → PlainSlot → PlainSlot
still_slot plan b t n slot = record { first = still_copy plan b t n slot.first; second = still_copy plan b t n slot.second }

-- the state at epoch e: each slot by itself, so no pair is exchanged, and the pairs' generators stay where they are
abbrev pub still : Plan → Sample → ℕ → Sample
still plan s e = record {
  bit = s.bit;
  epoch = e;
  slots = table (λ t. still_slot plan s.bit t (e - s.epoch) (slot_at s.slots t)) (slots_of plan);
  pairs = s.pairs;
}
