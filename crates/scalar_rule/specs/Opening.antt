-- The states that a run begins with.
use Rattle.std.specs.Prelude.{ℕ, ◌+◌, ◌*◌, ◌/◌, ◌%◌, Bool, true, List, replicate}
use Rattle.spin_model.specs.Words.{is_set}
use Rattle.spin_model.specs.Steps.{table}
use Rattle.spin_model.specs.Stream.{draw}
use Rattle.spin_model.specs.Seeding.{sweep_words, exchange_words, start_words}
use Rattle.spin_model.specs.Lattice.{volume}
use Rattle.scalar_rule.specs.Plan.{Plan, slots_of, pairs_of}
use Rattle.scalar_rule.specs.declared.plain_copy.PlainCopy.{PlainCopy}
use Rattle.scalar_rule.specs.declared.sample.Start.{Start}
use Rattle.scalar_rule.specs.declared.sample.Start.TheVariants.{Up, Random}
use Rattle.scalar_rule.specs.declared.sample.PlainSlot.{PlainSlot}
use Rattle.scalar_rule.specs.declared.sample.PlainPair.{PlainPair}
use Rattle.scalar_rule.specs.declared.sample.Sample.{Sample}

-- every spin +1
abbrev pub all_up : ℕ → List Bool
all_up l = replicate (volume l) true

-- spins of bit b of a bank at random: +1 where bit b mod 32 of draw 2i + b div 32 is 1
abbrev pub random_spins : ℕ → List ℕ → ℕ → List Bool
random_spins l words b = table (λ i. is_set (draw words (2 * i + b / 32)) (b % 32)) (volume l)

-- the generator words of a temperature slot and replica: list colour L + z, as its label seeds it
abbrev pub seeded_words : ℕ → ℕ → ℕ → ℕ → List (List ℕ)
seeded_words l seed slot replica = table (λ k. sweep_words seed slot replica (k / l) (k % l)) (2 * l)

-- the spins of a slot and replica at the start
unfoldable pub start_spins : Plan → Start → ℕ → ℕ → ℕ → ℕ → List Bool
start_spins plan Up bank b slot replica = all_up plan.size
start_spins plan Random bank b slot replica = random_spins plan.size (start_words plan.seed slot replica bank) b

-- a replica at the start: its label is the number of its slot
abbrev pub opening_copy : Plan → Start → ℕ → ℕ → ℕ → ℕ → PlainCopy
opening_copy plan start bank b slot replica = record {
  spins = start_spins plan start bank b slot replica;
  wheels = seeded_words plan.size plan.seed slot replica;
  replica = slot;
}

-- both replicas of a slot at the start
abbrev pub opening_slot : Plan → Start → ℕ → ℕ → ℕ → PlainSlot
opening_slot plan start bank b slot = record {
  first = opening_copy plan start bank b slot 0;
  second = opening_copy plan start bank b slot 1;
}

-- the exchange generators of a pair
abbrev pub opening_pair : Plan → ℕ → ℕ → PlainPair
opening_pair plan bank pair = record {
  first = exchange_words plan.seed pair 0 bank;
  second = exchange_words plan.seed pair 1 bank;
}

-- the state that bit b of a bank begins with
abbrev pub opening : Plan → Start → ℕ → ℕ → Sample
opening plan start bank b = record {
  bit = b;
  epoch = 0;
  slots = table (opening_slot plan start bank b) (slots_of plan);
  pairs = table (opening_pair plan bank) (pairs_of plan);
}
