-- An exchange trades the configurations of the slots and makes none.
use Rattle.std.specs.Prelude.{◌≡◌, ℕ, ◌<◌, List}
use Rattle.scalar_rule.specs.Plan.{Plan, slots_of}
use Rattle.scalar_rule.specs.Epoch.{slot_at, exchanged}
use Rattle.scalar_rule.specs.declared.plain_copy.PlainCopy.{PlainCopy}
use Rattle.scalar_rule.specs.declared.sample.PlainPair.{PlainPair}
use Rattle.scalar_rule.specs.declared.sample.PlainSlot.{PlainSlot}
use Rattle.plane_sweep.specs.Packed.{Permutes}

-- of n slots, slot t has the spins and the label that slot `source t` had, where the sources are all slots, each once;
-- the generators stay with their slots
pub record AreTraded (n : ℕ) (before after : ℕ → PlainCopy) (source : ℕ → ℕ) : Type 0 where
  pub each_once : Permutes n source
  pub spins : (t : ℕ) → t < n → (after t).spins ≡ (before (source t)).spins
  pub label : (t : ℕ) → t < n → (after t).replica ≡ (before (source t)).replica
  pub generators : (t : ℕ) → t < n → (after t).wheels ≡ (before t).wheels

-- the exchange of an epoch does that in either replica, for every plan, generators and contents
abbrev pub ExchangesTrade : Type 0
ExchangesTrade = (plan : Plan) (b e : ℕ) (pairs : List PlainPair) (slots : List PlainSlot)
    → ((source : ℕ → ℕ) × AreTraded (slots_of plan) (λ t. (slot_at slots t).first) (λ t. (exchanged plan b e pairs slots t).first) source)
    × ((source : ℕ → ℕ) × AreTraded (slots_of plan) (λ t. (slot_at slots t).second) (λ t. (exchanged plan b e pairs slots t).second) source)
