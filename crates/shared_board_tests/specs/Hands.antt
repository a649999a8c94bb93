-- Two seats at a shared board, and the slots that they have in work.
use Rattle.std.specs.Prelude.{◌≡◌, ◌≢◌, ℕ, ◌+◌, Bool, true, false, List, [], ◌∷◌, Some, IsSomeAnd, length}
use Rattle.atomic_table.specs.Seated.{TableId}
use Rattle.scalar_rule.specs.Plan.{Plan}
use Rattle.turn_cell.specs.Seats.{seat_view, IsSeatOf, IsIdle}
use Rattle.turn_cell.specs.declared.pass.Pass.{Pass}
use Rattle.turn_cell.specs.declared.view.View.{View}
use Rattle.exchange_board.specs.declared.origin.Origin.{Origin}
use Rattle.exchange_board.specs.declared.board.Next.TheVariants as nexts
use Rattle.exchange_board.specs.declared.board.NextPair.{NextPair}
use Rattle.exchange_board.specs.declared.board.NextPair.TheVariants as pairs
use Rattle.exchange_board.specs.Content.{plan_of}
use Rattle.exchange_board.specs.Views.{BoardView, JobView}
use Rattle.shared_board.specs.Turns.{IsAmong}

-- a seat at a shared board
abbrev pub Seat : Type 0
Seat = Pass BoardView Origin

-- the seat v has had a turn, and is then w, with this work in hand
abbrev pub IsAfter : View Origin → View Origin → List (ℕ × ℕ) → Type 0
IsAfter v w out = (w.holding ≡ false) × (w.out ≡ out) × (w.numbers ≡ v.numbers) × (w.total ≡ v.total) × (w.base ≡ v.base)

-- seat k of two of this lock, of a board of this plan, which doesn't hold the lock
pub record IsSeat (id : TableId) (plan : Plan) (k : ℕ) (p : Seat) : Type 0 where
  pub own : IsSeatOf id p
  pub free : (seat_view p).holding ≡ false
  pub number : (seat_view p).numbers ≡ k ∷ []
  pub total : (seat_view p).total ≡ 2
  pub base : IsSomeAnd (seat_view p).base (λ o. plan_of o ≡ plan)

-- both seats of this lock
pub record AreTwo (id : TableId) (plan : Plan) (p q : Seat) : Type 0 where
  pub first : IsSeat id plan 0 p
  pub second : IsSeat id plan 1 q
  pub base : (seat_view q).base ≡ (seat_view p).base

-- the first of two seats, or the second
abbrev pub seat_of : Bool → Seat → Seat → Seat
seat_of false p q = p
seat_of true p q = q

-- the seat has nothing but these two partners in work, of a board of this plan
pub record HasPair (plan : Plan) (j : JobView) (p : Seat) : Type 0 where
  pub free : (seat_view p).holding ≡ false
  pub work : (seat_view p).out ≡ (j.slot + 1, j.epoch) ∷ (j.slot, j.epoch) ∷ []
  pub base : (seat_view p).base ≡ Some j.origin
  pub plan_is : plan_of j.origin ≡ plan

-- the seat has this slot in work
pub record HasInWork (j : JobView) (p : Seat) : Type 0 where
  pub work : IsAmong (j.slot, j.epoch) (seat_view p).out
  pub base : (seat_view p).base ≡ Some j.origin

-- where the seat was given one slot it has that in work, of a board of this plan
abbrev pub IsGivenOne : TableId → Plan → NextPair → Seat → Type 0
IsGivenOne id plan (pairs.Single (nexts.Job j)) p =
    IsSeatOf id p × ((seat_view p).holding ≡ false) × HasInWork j p × (plan_of j.origin ≡ plan)
IsGivenOne id plan next p = Unit {0}

-- each of these slots is in work with the first seat, or with the second where its mark is set
abbrev pub AreEach : List (Bool × JobView) → Seat → Seat → Type 0
AreEach [] p q = Unit {0}
AreEach (h ∷ hs) p q = HasInWork h.1 (seat_of h.0 p q) × AreEach hs p q

-- these are the slots that the two seats have in work, in any order
pub record AreHeld (hs : List (Bool × JobView)) (p q : Seat) : Type 0 where
  pub each : AreEach hs p q
  pub count : length (seat_view p).out + length (seat_view q).out ≡ length hs

-- none of these is slot t
abbrev pub AreOther : ℕ → List (Bool × JobView) → Type 0
AreOther t [] = Unit {0}
AreOther t (h ∷ hs) = (h.1.slot ≢ t) × AreOther t hs

-- both seats can be handed back
abbrev pub AreBothIdle : TableId → Seat → Seat → Type 0
AreBothIdle id p q = IsIdle id (seat_view p).base 2 p × IsIdle id (seat_view p).base 2 q
