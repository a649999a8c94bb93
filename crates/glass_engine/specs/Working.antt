-- What a worker asks of its seat, and how it hands it back.
use Rattle.std.specs.Prelude.{◌≡◌, ℕ, ◌+◌, ◌⊎◌, false, List, [], ◌∷◌, Some, IsSomeAnd, length}
use Rattle.atomic_table.specs.Seated.{TableId}
use Rattle.scalar_rule.specs.Plan.{Plan}
use Rattle.turn_cell.specs.Seats.{seat_view, IsSeatOf}
use Rattle.turn_cell.specs.declared.pass.Pass.{Pass}
use Rattle.turn_cell.specs.declared.view.View.{View}
use Rattle.exchange_board.specs.declared.board.Next.{Next}
use Rattle.exchange_board.specs.declared.board.Next.TheVariants as nexts
use Rattle.exchange_board.specs.declared.board.NextPair.{NextPair}
use Rattle.exchange_board.specs.declared.board.NextPair.TheVariants as pairs
use Rattle.exchange_board.specs.declared.origin.Origin.{Origin}
use Rattle.exchange_board.specs.Content.{plan_of}
use Rattle.exchange_board.specs.Views.{BoardView, JobView}
use Rattle.shared_board.specs.Words.{IsFinished, IsStopped}

-- a seat at a shared board
abbrev pub Seat : Type 0
Seat = Pass BoardView Origin

-- a seat of this lock, of a board of this plan, that doesn't hold the lock and has these items in work
pub record IsFreeFor (id : TableId) (plan : Plan) (items : List (ℕ × ℕ)) (p : Seat) : Type 0 where
  pub own : IsSeatOf id p
  pub free : (seat_view p).holding ≡ false
  pub work : (seat_view p).out ≡ items
  pub base : IsSomeAnd (seat_view p).base (λ o. plan_of o ≡ plan)

-- and has nothing in work
abbrev pub IsAtRest : TableId → Plan → Seat → Type 0
IsAtRest id plan p = IsFreeFor id plan [] p

-- and has just this job
abbrev pub IsTaker : TableId → Plan → JobView → Seat → Type 0
IsTaker id plan j p = IsFreeFor id plan ((j.slot, j.epoch) ∷ []) p × ((seat_view p).base ≡ Some j.origin)

-- and has just these two partners
abbrev pub IsPairTaker : TableId → Plan → JobView → Seat → Type 0
IsPairTaker id plan j p = IsFreeFor id plan ((j.slot + 1, j.epoch) ∷ (j.slot, j.epoch) ∷ []) p × ((seat_view p).base ≡ Some j.origin)

-- the same seat, later on
pub record IsSame (v w : View Origin) : Type 0 where
  pub number : w.number ≡ v.number
  pub numbers : w.numbers ≡ v.numbers
  pub total : w.total ≡ v.total
  pub base : w.base ≡ v.base
  pub places : w.places ≡ v.places

-- by the words that the seat has seen, every slot is at rest at until, or all hand-outs are made
pub record HasLeft (v : View Origin) : Type 0 where
  pub sized : length v.seen ≡ v.places
  pub over : (o : Origin) → v.base ≡ Some o → IsFinished o v.seen ⊎ IsStopped o v.seen

-- a seat that was given this answer
abbrev pub IsGiven : TableId → Plan → Next → Seat → Type 0
IsGiven id plan (nexts.Job j) p = IsTaker id plan j p
IsGiven id plan nexts.Nothing p = IsAtRest id plan p
IsGiven id plan nexts.Finished p = IsAtRest id plan p × HasLeft (seat_view p)
IsGiven id plan nexts.Stopped p = IsAtRest id plan p × HasLeft (seat_view p)

-- the same where the answer may be two partners
abbrev pub IsPairGiven : TableId → Plan → NextPair → Seat → Type 0
IsPairGiven id plan (pairs.Pair j) p = IsPairTaker id plan j p
IsPairGiven id plan (pairs.Single next) p = IsGiven id plan next p

abbrev pub AreAtRest : TableId → Plan → List Seat → Type 0
AreAtRest id plan [] = Unit {0}
AreAtRest id plan (p ∷ ps) = IsAtRest id plan p × AreAtRest id plan ps

-- each worker hands back its own seat, with nothing in work, once there is no more to do
abbrev pub HaveLeft : TableId → Plan → List Seat → List Seat → Type 0
HaveLeft id plan [] [] = Unit {0}
HaveLeft id plan (p ∷ ps) (q ∷ qs) =
    (IsAtRest id plan q × IsSame (seat_view p) (seat_view q) × HasLeft (seat_view q)) × HaveLeft id plan ps qs
HaveLeft id plan _ _ = ⊥
