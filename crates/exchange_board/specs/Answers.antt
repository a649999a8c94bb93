-- What the board's calls answer.
use Rattle.std.specs.Prelude.{◌≡◌, ℕ, ◌+◌, ◌<◌, true, if◌then◌else◌, List, length, map, slice_set}
use Rattle.std.specs.Arc.{arc_value}
use Rattle.scalar_rule.specs.Plan.{Plan}
use Rattle.scalar_rule.specs.Epoch.{has_partner, has_turn, partner, pair_of}
use Rattle.plane_sweep.specs.declared.uneven.Place.{Place}
use Rattle.plane_sweep.specs.declared.uneven.RaggedStand.{RaggedStand}
use Rattle.exchange_board.specs.declared.arrival.Arrival.{Arrival}
use Rattle.exchange_board.specs.declared.arrival.Arrival.TheVariants as arrivals
use Rattle.exchange_board.specs.declared.board.Next.{Next}
use Rattle.exchange_board.specs.declared.board.Next.TheVariants as nexts
use Rattle.exchange_board.specs.declared.board.NextPair.{NextPair}
use Rattle.exchange_board.specs.declared.board.NextPair.TheVariants as pairs
use Rattle.exchange_board.specs.declared.origin.Window.{Window}
use Rattle.exchange_board.specs.Views.{Stage, BoardView, JobView, place_at, ready_at, arrived_at, out_at, placed}
use Rattle.exchange_board.specs.Machine.{met, taken, NoneReady, NoneOut, AllEnded}
use Rattle.exchange_board.specs.Content.{taken_before}

-- what a hand-back answers
abbrev pub answer : List Stage → ℕ → ℕ → Arrival
answer ps t e =
    if has_partner (length ps) t e then (if met ps t e then arrivals.Settled (pair_of t e) else arrivals.Waiting) else arrivals.Alone

-- all hand-outs of the window are made
abbrev pub IsSpent : BoardView → Type 0
IsSpent b = taken b.places ≡ taken_before b.origin + b.origin.window.takes

-- a hand-out of a slot that is at rest below until; all else stays
pub record Takes (b c : BoardView) (j : JobView) : Type 0 where
  pub origin : j.origin ≡ b.origin
  pub known : j.slot < length b.places
  pub ready : place_at b.places j.slot ≡ ready_at j.epoch
  pub below : j.epoch < b.origin.window.until
  pub after : c ≡ placed b (slice_set b.places j.slot (out_at j.epoch))
  pub left : taken b.places < taken_before b.origin + b.origin.window.takes

-- the places once the slots t and t + 1 are out at e
abbrev pub with_pair_out : List Stage → ℕ → ℕ → List Stage
with_pair_out ps t e = slice_set (slice_set ps t (out_at e)) (t + 1) (out_at e)

-- and once both are back, exchanged
abbrev pub with_pair_back : List Stage → ℕ → ℕ → List Stage
with_pair_back ps t e = slice_set (slice_set ps t (ready_at (e + 1))) (t + 1) (ready_at (e + 1))

-- a hand-out of two partners at rest at one epoch below until; all else stays
pub record TakesPair (b c : BoardView) (p : JobView) : Type 0 where
  pub origin : p.origin ≡ b.origin
  pub known : p.slot + 1 < length b.places
  pub turn : has_turn p.slot p.epoch ≡ true
  pub low : place_at b.places p.slot ≡ ready_at p.epoch
  pub high : place_at b.places (p.slot + 1) ≡ ready_at p.epoch
  pub below : p.epoch < b.origin.window.until
  pub after : c ≡ placed b (with_pair_out b.places p.slot p.epoch)
  pub left : taken b.places + 1 < taken_before b.origin + b.origin.window.takes

-- Finished where every slot has ended; else Stopped where all hand-outs are made; else Nothing where no slot is at rest below
-- until, and then some slot is in work; else a hand-out
abbrev pub Nexts : BoardView → BoardView → Next → Type 0
Nexts b c (nexts.Job j) = Takes b c j
Nexts b c nexts.Nothing = (c ≡ b) × NoneReady b.origin.window.until b.places × (AllEnded b.origin.window.until b.places → ⊥)
    × (taken b.places < taken_before b.origin + b.origin.window.takes) × (NoneOut b.places → ⊥)
Nexts b c nexts.Finished = (c ≡ b) × AllEnded b.origin.window.until b.places
Nexts b c nexts.Stopped = (c ≡ b) × IsSpent b × (AllEnded b.origin.window.until b.places → ⊥)

-- the place of a slot of a stopped run
abbrev pub start_place : Place → Stage
start_place p = if p.arrived then arrived_at p.epoch else ready_at p.epoch

-- the places of a state's slots, none of them in work
abbrev pub stages_of : RaggedStand → List Stage
stages_of stand = map start_place stand.places

-- where a slot goes out alone: it has no partner at its epoch, or that one is not at rest there, or no hand-out is left
abbrev pub GoesAlone : BoardView → JobView → Type 0
GoesAlone c j = has_partner (length c.places) j.slot j.epoch ≡ true → place_at c.places (partner j.slot j.epoch) ≡ ready_at j.epoch → IsSpent c

-- the same of an answer; those without a slot say nothing more
abbrev pub GoesNextAlone : BoardView → Next → Type 0
GoesNextAlone c (nexts.Job j) = GoesAlone c j
GoesNextAlone c nexts.Nothing = Unit {0}
GoesNextAlone c nexts.Finished = Unit {0}
GoesNextAlone c nexts.Stopped = Unit {0}

-- two partners, or one slot that goes out alone, or why there is none
abbrev pub NextPairs : BoardView → BoardView → NextPair → Type 0
NextPairs b c (pairs.Pair p) = TakesPair b c p
NextPairs b c (pairs.Single next) = Nexts b c next × GoesNextAlone c next

-- a board of this plan, starting state and window, at the state's places
pub record Opened (plan : Plan) (base : RaggedStand) (window : Window) (b : BoardView) : Type 0 where
  pub plan_is : arc_value b.origin.plan ≡ plan
  pub base_is : b.origin.base ≡ base
  pub window_is : b.origin.window ≡ window
  pub places_are : b.places ≡ stages_of base
