-- The exchange of an epoch, one pair after the other.
use Rattle.std.specs.Prelude.{◌≡◌, ℕ, ◌+◌, true, if◌then◌else◌, List, slice_set}
use Rattle.scalar_rule.specs.Plan.{Plan}
use Rattle.scalar_rule.specs.Epoch.{slot_at, pair_at, has_turn}
use Rattle.scalar_rule.specs.Exchange.{cold_side, hot_side, drawn_pair}
use Rattle.scalar_rule.specs.Shape.{FitsSlot}
use Rattle.scalar_rule.specs.declared.sample.PlainSlot.{PlainSlot}
use Rattle.scalar_rule.specs.declared.sample.PlainPair.{PlainPair}

-- the slots of a pair that has its turn fit
pub record TurnFits (l k e : ℕ) (slots : List PlainSlot) : Type 0 where
  pub cold : has_turn k e ≡ true → FitsSlot l (slot_at slots k)
  pub hot : has_turn k e ≡ true → FitsSlot l (slot_at slots (k + 1))

-- all slots after the exchange of pair k
unfoldable pub exchanged_pair : Plan → ℕ → ℕ → PlainPair → List PlainSlot → List PlainSlot
exchanged_pair plan b k pair slots =
    slice_set (slice_set slots k (cold_side plan b k pair (slot_at slots k) (slot_at slots (k + 1)))) (k + 1)
    (hot_side plan b k pair (slot_at slots k) (slot_at slots (k + 1)))

-- all slots after pair k's place in epoch e
unfoldable pub after_turn : Plan → ℕ → ℕ → ℕ → List PlainPair → List PlainSlot → List PlainSlot
after_turn plan b k e pairs slots = if has_turn k e then exchanged_pair plan b k (pair_at pairs k) slots else slots

-- all generators after pair k's place in epoch e
unfoldable pub drawn_in_turn : ℕ → ℕ → List PlainPair → List PlainPair
drawn_in_turn k e pairs = if has_turn k e then slice_set pairs k (drawn_pair (pair_at pairs k)) else pairs
