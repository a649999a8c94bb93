-- The places of the slots alone: a hand-out, a hand-back, and what they keep.
use Rattle.std.specs.Prelude.{◌≡◌, ℕ, ◌+◌, ◌*◌, ◌/◌, ◌%◌, ◌<◌, ◌≤◌, Bool, true, if◌then◌else◌, ◌==◌, ◌&&◌, List, length, slice_set}
use Rattle.scalar_rule.specs.Epoch.{has_partner, partner}
use Rattle.scalar_rule.specs.Positions.{sum_below, turns}
use Rattle.exchange_board.specs.Views.{Stage, place_at, ready_at, arrived_at}

-- for the epochs E and phases P of n slots, from the starting state's progress numbers B on: each epoch is at most until, and
-- below it where the slot isn't at rest; none is before its start; a slot that waits has a partner; a pair's
-- two slots have as many of its turns behind them; and no two partners wait at one epoch
pub record Ruled (n until : ℕ) (B E P : ℕ → ℕ) : Type 0 where
  pub below : (t : ℕ) → t < n → E t ≤ until
  pub working : (t : ℕ) → t < n → 0 < P t → E t < until
  pub phased : (t : ℕ) → t < n → P t < 3
  pub since : (t : ℕ) → t < n → B t ≤ 4 * E t + P t
  pub partnered : (t : ℕ) → t < n → P t ≡ 2 → has_partner n t (E t) ≡ true
  pub level : (k : ℕ) → k + 1 < n → turns k (E k) ≡ turns k (E (k + 1))
  pub lone : (k : ℕ) → k + 1 < n → P k ≡ 2 → P (k + 1) ≡ 2 → E k ≡ E (k + 1) → (k + E k) % 2 ≡ 1

-- epoch, phase and progress number of slot t
abbrev pub epochs : List Stage → ℕ → ℕ
epochs ps t = (place_at ps t).epoch

abbrev pub phases : List Stage → ℕ → ℕ
phases ps t = (place_at ps t).phase

abbrev pub numbers : List Stage → ℕ → ℕ
numbers ps t = 4 * epochs ps t + phases ps t

-- how many epochs a slot has begun, and how many it has completed and has records of, at a progress number
abbrev pub begun : ℕ → ℕ
begun p = (p + 3) / 4

abbrev pub recorded : ℕ → ℕ
recorded p = (p + 2) / 4

-- how many hand-outs lead to these places
abbrev pub taken : List Stage → ℕ
taken ps = sum_below (λ t. begun (numbers ps t)) (length ps)

-- the partner of t waits at e
abbrev pub met : List Stage → ℕ → ℕ → Bool
met ps t e = (phases ps (partner t e) == 2) && (epochs ps (partner t e) == e)

-- the places after t, in work at e, is handed back
abbrev pub after : List Stage → ℕ → ℕ → List Stage
after ps t e =
    if has_partner (length ps) t e then
    (if met ps t e then slice_set (slice_set ps (partner t e) (ready_at (e + 1))) t (ready_at (e + 1))
    else slice_set ps t (arrived_at e))
    else slice_set ps t (ready_at (e + 1))

-- slot t is at rest below until
abbrev pub IsReady : ℕ → List Stage → ℕ → Type 0
IsReady until ps t = (phases ps t ≡ 0) × (epochs ps t < until)

-- none of the slots from one on to before another is
abbrev pub NoneReadyBetween : ℕ → ℕ → ℕ → List Stage → Type 0
NoneReadyBetween first end until ps = (t : ℕ) → first ≤ t → t < end → phases ps t ≡ 0 → until ≤ epochs ps t

-- no slot is
abbrev pub NoneReady : ℕ → List Stage → Type 0
NoneReady until ps = (t : ℕ) → t < length ps → phases ps t ≡ 0 → until ≤ epochs ps t

-- no slot is in work
abbrev pub NoneOut : List Stage → Type 0
NoneOut ps = (t : ℕ) → t < length ps → phases ps t ≡ 1 → ⊥

-- every slot is at rest at until
abbrev pub AllEnded : ℕ → List Stage → Type 0
AllEnded until ps = (t : ℕ) → t < length ps → (phases ps t ≡ 0) × (epochs ps t ≡ until)

-- each phase is 0, 1 or 2
abbrev pub IsPhased : List Stage → Type 0
IsPhased ps = (t : ℕ) → t < length ps → phases ps t < 3

-- the partner of a slot in work at e is not past e
abbrev pub IsBehind : List Stage → ℕ → ℕ → Type 0
IsBehind ps t e = has_partner (length ps) t e ≡ true → 4 * epochs ps (partner t e) + phases ps (partner t e) < 4 * e + 4
