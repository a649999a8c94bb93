-- The progress words of a board in a lock, and what they tell of its slots.
-- A word is 4 * epoch + phase; phase 0 is at rest, 1 in work, 2 waiting for the partner.
use Rattle.std.specs.Prelude.{◌≡◌, ℕ, ◌+◌, ◌*◌, ◌%◌, ◌<◌, ◌≤◌, List, length, slice_index}
use Rattle.scalar_rule.specs.Positions.{sum_below}
use Rattle.exchange_board.specs.declared.origin.Origin.{Origin}
use Rattle.exchange_board.specs.Content.{taken_before}
use Rattle.exchange_board.specs.Machine.{begun}
use Rattle.turn_cell.specs.Progress.{NoneIsInWork}

-- how many hand-outs lead to these words
abbrev pub taken_at : List ℕ → ℕ
taken_at words = sum_below (λ t. begun (slice_index words t)) (length words)

-- every slot is at rest at until
abbrev pub AreEnded : ℕ → List ℕ → Type 0
AreEnded until words = (t : ℕ) → t < length words → slice_index words t ≡ 4 * until

-- every slot of this origin's board is at rest at until
abbrev pub IsFinished : Origin → List ℕ → Type 0
IsFinished o words = AreEnded o.window.until words

-- no slot is at rest below until
abbrev pub NoneIsReady : ℕ → List ℕ → Type 0
NoneIsReady until words =
    (t : ℕ) → t < length words → slice_index words t % 4 ≡ 0 → 4 * until ≤ slice_index words t

-- fewer hand-outs are made than the window of this origin allows
abbrev pub HasTakesLeft : Origin → List ℕ → Type 0
HasTakesLeft o words = taken_at words < taken_before o + o.window.takes

-- no slot is at rest below until, but some slot is in work, and hand-outs are left
pub record MustWait (o : Origin) (words : List ℕ) : Type 0 where
  pub none : NoneIsReady o.window.until words
  pub unended : AreEnded o.window.until words → ⊥
  pub working : NoneIsInWork words → ⊥
  pub left : HasTakesLeft o words

-- all hand-outs of the window are made, and some slot has not ended
pub record IsStopped (o : Origin) (words : List ℕ) : Type 0 where
  pub spent : taken_at words ≡ taken_before o + o.window.takes
  pub unended : AreEnded o.window.until words → ⊥
