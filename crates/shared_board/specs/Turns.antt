-- What one turn at the shared board finds, changes and leaves, as its seat knows it.
use Rattle.std.specs.Prelude.{◌≡◌, ℕ, ◌+◌, ◌*◌, ◌<◌, ◌⊎◌, true, false, List, [], ◌∷◌, Some, length, slice_index, slice_set}
use Rattle.scalar_rule.specs.Epoch.{has_turn, has_partner, partner, pair_of}
use Rattle.exchange_board.specs.declared.origin.Origin.{Origin}
use Rattle.exchange_board.specs.declared.arrival.Arrival.{Arrival}
use Rattle.exchange_board.specs.declared.arrival.Arrival.TheVariants as arrivals
use Rattle.exchange_board.specs.declared.board.Next.{Next}
use Rattle.exchange_board.specs.declared.board.Next.TheVariants as nexts
use Rattle.exchange_board.specs.declared.board.NextPair.{NextPair}
use Rattle.exchange_board.specs.declared.board.NextPair.TheVariants as pairs
use Rattle.exchange_board.specs.Content.{taken_before}
use Rattle.exchange_board.specs.Views.{JobView}
use Rattle.turn_cell.specs.Sums.{without, AreInWork}
use Rattle.turn_cell.specs.Progress.{ArePhased, AtMost}
use Rattle.turn_cell.specs.declared.view.View.{View}
use Rattle.shared_board.specs.Words.{taken_at, IsFinished, MustWait, IsStopped, HasTakesLeft}

-- the item is in the list
abbrev pub IsAmong : ℕ × ℕ → List (ℕ × ℕ) → Type 0
IsAmong item [] = ⊥
IsAmong item (x ∷ xs) = (item ≡ x) ⊎ IsAmong item xs

-- The seat v took one turn, which found these words, and is then w, with this work in hand. What the turn left, w has seen.
pub record IsTurn (v w : View Origin) (found : List ℕ) (out : List (ℕ × ℕ)) : Type 0 where
  -- its turns rose by one; its number, numbers, base, total and refusals are as before
  pub view : w ≡ record v { holding = false; known = w.seen; out = out; seen = w.seen; turns = v.turns + 1 }
  -- no word that the turn found is below what the seat had seen, and none that it left
  pub found_most : AtMost v.seen found
  pub left_most : AtMost v.seen w.seen
  -- it found each of the seat's items still in work
  pub work : AreInWork found v.out
  -- a word for each slot, of phase 0, 1 or 2
  pub sized : length w.seen ≡ v.places
  pub found_phased : ArePhased found
  pub left_phased : ArePhased w.seen

-- a slot is handed out: its word alone was changed, from 4e to 4e + 1, and the item is in the seat's hands
pub record IsHandOut (v w : View Origin) (j : JobView) : Type 0 where
  pub base : v.base ≡ Some j.origin
  pub known : j.slot < v.places
  pub below : j.epoch < j.origin.window.until
  pub word : slice_index w.seen j.slot ≡ 4 * j.epoch + 1
  pub turn : IsTurn v w (slice_set w.seen j.slot (4 * j.epoch)) ((j.slot, j.epoch) ∷ v.out)
  pub left : HasTakesLeft j.origin (slice_set w.seen j.slot (4 * j.epoch))

-- two partners are handed out: their words alone were changed, both from 4e to 4e + 1, and both items are in the seat's
-- hands; the pair's view is that of its colder slot
pub record IsPairOut (v w : View Origin) (j : JobView) : Type 0 where
  pub base : v.base ≡ Some j.origin
  pub known : j.slot + 1 < v.places
  pub turn_is : has_turn j.slot j.epoch ≡ true
  pub below : j.epoch < j.origin.window.until
  pub low : slice_index w.seen j.slot ≡ 4 * j.epoch + 1
  pub high : slice_index w.seen (j.slot + 1) ≡ 4 * j.epoch + 1
  pub turn : IsTurn v w (slice_set (slice_set w.seen j.slot (4 * j.epoch)) (j.slot + 1) (4 * j.epoch)) ((j.slot + 1, j.epoch) ∷ (j.slot, j.epoch) ∷ v.out)
  pub left : taken_at (slice_set (slice_set w.seen j.slot (4 * j.epoch)) (j.slot + 1) (4 * j.epoch)) + 1 < taken_before j.origin + j.origin.window.takes

-- a turn that changed no word; of the words this holds, for the seat's origin
pub record IsLook (v w : View Origin) (Says : Origin → List ℕ → Type 0) : Type 0 where
  pub turn : IsTurn v w w.seen v.out
  pub says : (o : Origin) → v.base ≡ Some o → Says o w.seen

-- the seat v asked for a slot in one turn, and is then w
abbrev pub TakesSlot : View Origin → View Origin → Next → Type 0
TakesSlot v w (nexts.Job j) = IsHandOut v w j
TakesSlot v w nexts.Nothing = IsLook v w MustWait
TakesSlot v w nexts.Finished = IsLook v w IsFinished
TakesSlot v w nexts.Stopped = IsLook v w IsStopped

-- where a slot is handed out alone and its partner's word is 4 times its epoch, the last hand-out is made: the two would have
-- gone out together
abbrev pub GoesOutAlone : View Origin → JobView → Type 0
GoesOutAlone w j = has_partner (length w.seen) j.slot j.epoch ≡ true → slice_index w.seen (partner j.slot j.epoch) ≡ 4 * j.epoch
    → taken_at w.seen ≡ taken_before j.origin + j.origin.window.takes

-- the same of an answer; those without a slot say nothing more
abbrev pub GoesNextOutAlone : View Origin → Next → Type 0
GoesNextOutAlone w (nexts.Job j) = GoesOutAlone w j
GoesNextOutAlone w nexts.Nothing = Unit {0}
GoesNextOutAlone w nexts.Finished = Unit {0}
GoesNextOutAlone w nexts.Stopped = Unit {0}

-- the seat v asked for two partners in one turn, and is then w
abbrev pub TakesPairOrSlot : View Origin → View Origin → NextPair → Type 0
TakesPairOrSlot v w (pairs.Pair p) = IsPairOut v w p
TakesPairOrSlot v w (pairs.Single next) = TakesSlot v w next × GoesNextOutAlone w next

-- the words that a turn found which asked for a slot, and left the seat w: those that w has seen, but for what was handed out
abbrev pub found_slot : View Origin → Next → List ℕ
found_slot w (nexts.Job j) = slice_set w.seen j.slot (4 * j.epoch)
found_slot w nexts.Nothing = w.seen
found_slot w nexts.Finished = w.seen
found_slot w nexts.Stopped = w.seen

abbrev pub found_by : View Origin → NextPair → List ℕ
found_by w (pairs.Pair p) = slice_set (slice_set w.seen p.slot (4 * p.epoch)) (p.slot + 1) (4 * p.epoch)
found_by w (pairs.Single next) = found_slot w next

-- slot t came back at e and waits, since its partner has not come back: its word alone was changed
pub record IsWaiting (v w : View Origin) (t e : ℕ) : Type 0 where
  pub turn : IsTurn v w (slice_set w.seen t (4 * e + 1)) (without t v.out)
  pub word : slice_index w.seen t ≡ 4 * e + 2
  pub has : has_partner v.places t e ≡ true
  pub behind : slice_index w.seen (partner t e) < 4 * e + 4

-- it has no partner, and is at rest at the next epoch: its word alone was changed
pub record IsAlone (v w : View Origin) (t e : ℕ) : Type 0 where
  pub turn : IsTurn v w (slice_set w.seen t (4 * e + 1)) (without t v.out)
  pub word : slice_index w.seen t ≡ 4 * e + 4
  pub has : has_partner v.places t e ≡ false

-- its partner waited, and both are at rest at the next epoch: their two words were changed
pub record IsSettled (v w : View Origin) (t e pair : ℕ) : Type 0 where
  pub turn : IsTurn v w (slice_set (slice_set w.seen (partner t e) (4 * e + 2)) t (4 * e + 1)) (without t v.out)
  pub word : slice_index w.seen t ≡ 4 * e + 4
  pub has : has_partner v.places t e ≡ true
  pub other : slice_index w.seen (partner t e) ≡ 4 * e + 4
  pub pair_is : pair ≡ pair_of t e

-- the seat v handed slot t back at e in one turn, and is then w
abbrev pub ReturnsSlot : View Origin → View Origin → ℕ → ℕ → Arrival → Type 0
ReturnsSlot v w t e arrivals.Waiting = IsWaiting v w t e
ReturnsSlot v w t e (arrivals.Settled pair) = IsSettled v w t e pair
ReturnsSlot v w t e arrivals.Alone = IsAlone v w t e

-- the seat v handed the slots t and t + 1 back at e in one turn, which were handed out as partners, and is then w: both are
-- at rest at the next epoch, and their words alone were changed
pub record ReturnsPair (v w : View Origin) (t e : ℕ) : Type 0 where
  pub low : slice_index w.seen t ≡ 4 * e + 4
  pub high : slice_index w.seen (t + 1) ≡ 4 * e + 4
  pub turn : IsTurn v w (slice_set (slice_set w.seen t (4 * e + 1)) (t + 1) (4 * e + 1)) (without (t + 1) (without t v.out))

-- the seat v handed the slots t and t + 1 back at e and then asked for two partners, and is then w: as in two turns, which
-- count as one, and between which no other seat changes a word
pub record ReturnsPairAndTakes (v w : View Origin) (t e : ℕ) (next : NextPair) : Type 0 where
  pub between : View Origin
  pub returned : ReturnsPair v between t e
  pub taken : TakesPairOrSlot (record between { turns = v.turns }) w next
  pub found : found_by w next ≡ between.seen
