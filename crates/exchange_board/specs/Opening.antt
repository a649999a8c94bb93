-- What a board is made of when it is opened.
use Rattle.std.specs.Prelude.{◌≡◌, ℕ, ◌<◌, Some, is_some, List, length, map, slice_index_or}
use Rattle.std.specs.Arc.{arc_value}
use Rattle.plane_sweep.specs.declared.replica.Duo.{Duo}
use Rattle.plane_sweep.specs.declared.uneven.Place.{Place}
use Rattle.exchange_board.specs.declared.origin.Origin.{Origin}
use Rattle.exchange_board.specs.declared.home.Home.{Home}
use Rattle.exchange_board.specs.declared.board.Slot.{Slot}
use Rattle.slot_steps.specs.declared.totals.Totals.{Totals}
use Rattle.exchange_board.specs.Answers.{start_place}
use Rattle.exchange_board.specs.BoardKeeps.{place_of, KeepsSlot}
use Rattle.exchange_board.specs.Content.{plan_of}
use Rattle.slot_steps.specs.Totals.{AreTotals}

-- the home of a slot that begins at a place with this content
pub record Begins (o : Origin) (place : Place) (duo : Duo) (h : Home) : Type 0 where
  pub same : arc_value h.share ≡ o
  pub duo_is : h.duo ≡ duo
  pub waits : is_some h.totals ≡ place.arrived
  pub totals : (sums : Totals) → h.totals ≡ Some sums → AreTotals (plan_of o) h.duo sums

-- the slots of a board that begins
pub record AreFirst (o : Origin) (slots : List Slot) : Type 0 where
  pub count : length slots ≡ length o.base.places
  pub each : (t : ℕ) (d : Slot) → t < length slots → KeepsSlot o t (slice_index_or slots t d)
  pub places : map place_of slots ≡ map start_place o.base.places
