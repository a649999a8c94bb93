-- What all samples of a packed state share: the generators and the epoch. Each has its own spins and labels.
use Rattle.std.specs.Prelude.{length}
use Rattle.spin_model.specs.Steps.{table}
use Rattle.scalar_rule.specs.Epoch.{slot_at}
use Rattle.scalar_rule.specs.declared.plain_copy.PlainCopy.{PlainCopy}
use Rattle.scalar_rule.specs.declared.sample.PlainSlot.{PlainSlot}
use Rattle.scalar_rule.specs.declared.sample.Sample.{Sample}

-- a replica's spins and label with the generators of another
abbrev pub sharing_copy : PlainCopy → PlainCopy → PlainCopy
sharing_copy from own = record { spins = own.spins; wheels = from.wheels; replica = own.replica }

-- both replicas of a slot
abbrev pub sharing_slot : PlainSlot → PlainSlot → PlainSlot
sharing_slot from own = record {
  first = sharing_copy from.first own.first;
  second = sharing_copy from.second own.second;
}

-- a sample's spins and labels with the generators and the epoch of another
abbrev pub sharing : Sample → Sample → Sample
sharing from own = record {
  bit = own.bit;
  epoch = from.epoch;
  slots = table (λ t. sharing_slot (slot_at from.slots t) (slot_at own.slots t)) (length own.slots);
  pairs = from.pairs;
}
