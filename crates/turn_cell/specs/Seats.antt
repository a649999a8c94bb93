-- What the calls ask of a seat, and what they tell.
use Rattle.std.specs.Prelude.{◌≡◌, ℕ, ◌+◌, ◌<◌, true, false, Bool, List, [], ◌∷◌, Option, None, All, length}
use Rattle.atomic_table.specs.Seated.{TableId}
use Rattle.turn_cell.specs.Progress.{opened_view, AtMost}
use Rattle.turn_cell.specs.declared.view.View.{View}
use Rattle.turn_cell.specs.declared.cell.TurnCell.{TurnCell}
use Rattle.turn_cell.specs.declared.pass.Pass.{Pass}
use Rattle.turn_cell.specs.declared.pass.Tried.{Tried}
use Rattle.turn_cell.specs.declared.pass.Tried.TheVariants.{Turn, Busy}

-- the value's place while the seat holds the lock, else nothing
abbrev pub carried : {T : Type 0} → Bool → List (ℕ × Option T)
carried true = (0, None) ∷ []
carried false = []

module _ {T O : Type 0} where
  -- which lock it is
  abbrev pub cell_id : TurnCell T O → TableId
  cell_id c = c.table.shared.table_id

  -- what the seat knows
  abbrev pub seat_view : Pass T O → View O
  seat_view p = p.seat.me.0

  -- a seat of this lock
  pub record IsSeatOf (id : TableId) (p : Pass T O) : Type 0 where
    pub same : p.seat.table_id ≡ id
    -- it isn't spent
    pub stands : 0 < length (seat_view p).numbers
    -- it knows how many places there are, and as holder a word for each
    pub sized : (seat_view p).places + 1 ≡ id.words
    pub knows : (seat_view p).holding ≡ true → length (seat_view p).known ≡ (seat_view p).places
    -- it carries the value's place exactly while it holds the lock
    pub carries : p.seat.me.1 ≡ carried (seat_view p).holding

  -- the seats from number k on, of n in all, as the lock is opened
  abbrev pub AreOpened : TableId → O → ℕ → ℕ → ℕ → List (Pass T O) → Type 0
  AreOpened id base places n k [] = Unit {0}
  AreOpened id base places n k (p ∷ ps) =
      IsSeatOf id p
      × (seat_view p ≡ opened_view base places n k)
      × AreOpened id base places n (k + 1) ps

  -- the base of the first seat
  abbrev pub base_of : List (Pass T O) → Option O
  base_of [] = None
  base_of (p ∷ ps) = (seat_view p).base

  -- one of n seats, which doesn't hold the lock and has these items in work
  pub record IsFree (id : TableId) (common : Option O) (n : ℕ) (items : List (ℕ × ℕ)) (p : Pass T O) : Type 0 where
    pub own : IsSeatOf id p
    pub alone : length (seat_view p).numbers ≡ 1
    pub total : (seat_view p).total ≡ n
    pub base : (seat_view p).base ≡ common
    pub free : (seat_view p).holding ≡ false
    pub work : (seat_view p).out ≡ items

  -- and has nothing in work
  abbrev pub IsIdle : TableId → Option O → ℕ → Pass T O → Type 0
  IsIdle id common n p = IsFree id common n [] p

  -- so is each of these, in any order
  abbrev pub AreIdle : TableId → Option O → ℕ → List (Pass T O) → Type 0
  AreIdle id common n [] = Unit {0}
  AreIdle id common n (p ∷ ps) = IsIdle id common n p × AreIdle id common n ps

module _ {T O : Type 0} where
  -- an idle seat that stands for all these, and has seen what any of them had seen
  pub record IsGathered (id : TableId) (ps : List (Pass T O)) (p : Pass T O) : Type 0 where
    pub own : IsSeatOf id p
    pub whole : length (seat_view p).numbers ≡ length ps
    pub total : (seat_view p).total ≡ length ps
    pub base : (seat_view p).base ≡ base_of ps
    pub free : (seat_view p).holding ≡ false
    pub done : (seat_view p).out ≡ []
    pub seen : All (λ q. AtMost (seat_view q).seen (seat_view p).seen) ps

module _ {T : Type 0} where
  -- a fact of the value, where the lock was taken
  abbrev pub IfTurn : Tried T → (T → Type 0) → Type 0
  IfTurn (Turn value) P = P value
  IfTurn Busy P = Unit {0}

  -- a fact, where the try was refused
  abbrev pub OnBusy : Tried T → Type 0 → Type 0
  OnBusy (Turn value) P = Unit {0}
  OnBusy Busy P = P
