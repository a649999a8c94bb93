-- The content of a slot whose epoch may differ from other slots': at rest at an epoch, and waiting for its partner
-- there. It speaks of one disorder sample.
use Rattle.std.specs.Prelude.{ℕ, zero, suc, Bool, not, ◌&&◌, false, ◌==◌, nat_le, if◌then◌else◌, List, slice_index_or}
use Rattle.spin_model.specs.Steps.{table}
use Rattle.scalar_rule.specs.Plan.{Plan, slots_of, pairs_of}
use Rattle.scalar_rule.specs.Epoch.{has_turn, has_partner, partner, pair_of, side, pair_at, slot_at, swept_slot}
use Rattle.scalar_rule.specs.Exchange.{drawn_pair}
use Rattle.scalar_rule.specs.declared.sample.PlainSlot.{PlainSlot}
use Rattle.scalar_rule.specs.declared.sample.PlainPair.{PlainPair}
use Rattle.scalar_rule.specs.declared.sample.Sample.{Sample}

-- an epoch, and whether the slot is swept there and waits for its partner; else it is at rest
pub record Position : Type 0 where
  pub epoch : ℕ
  pub waits : Bool

-- the positions and contents of the slots of one sample, and the words of each pair, moved on as far as the colder slot's
-- epoch asks
pub record UnevenState : Type 0 where
  pub bit : ℕ
  pub positions : List Position
  pub slots : List PlainSlot
  pub pairs : List PlainPair

-- where slot t is
abbrev pub position_at : UnevenState → ℕ → Position
position_at s t = slice_index_or s.positions t (record { epoch = 0; waits = false })

-- the generators of pair k where its colder slot has epoch e, for epochs not before its own
unfoldable pub generators : Plan → UnevenState → ℕ → ℕ → PlainPair
generators plan s k zero = pair_at s.pairs k
generators plan s k (suc e) =
    if has_turn k e && nat_le (position_at s k).epoch e then drawn_pair (generators plan s k e) else generators plan s k e

-- the content of slot t after its sweeps at epoch e, from its content at rest there
abbrev pub waiting_from : Plan → UnevenState → ℕ → ℕ → PlainSlot → PlainSlot
waiting_from plan s e t rest =
    if (position_at s t).waits && (position_at s t).epoch == e then slot_at s.slots t else swept_slot plan s.bit t rest

-- the content of slot t at rest at epoch e: its own where it is there; else, after epoch e - 1, its side of the exchange
-- with its partner, or where it had none what it was after its sweeps; for epochs not before its own position
unfoldable pub ready : Plan → UnevenState → ℕ → ℕ → PlainSlot
ready plan s zero t = slot_at s.slots t
ready plan s (suc e) t =
    if not (position_at s t).waits && (position_at s t).epoch == suc e then slot_at s.slots t
    else if has_partner (slots_of plan) t e then
    side plan s.bit e t (generators plan s (pair_of t e) e)
    (waiting_from plan s e t (ready plan s e t))
    (waiting_from plan s e (partner t e) (ready plan s e (partner t e)))
    else waiting_from plan s e t (ready plan s e t)

-- the content of slot t that waits at epoch e, for epochs not before its own position
abbrev pub arrived : Plan → UnevenState → ℕ → ℕ → PlainSlot
arrived plan s e t = waiting_from plan s e t (ready plan s e t)

-- the state with every slot at rest at epoch e, for epochs not before a position
abbrev pub all_ready : Plan → UnevenState → ℕ → Sample
all_ready plan s e = record {
  bit = s.bit;
  epoch = e;
  slots = table (λ t. ready plan s e t) (slots_of plan);
  pairs = table (λ k. generators plan s k e) (pairs_of plan);
}
