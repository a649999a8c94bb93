-- How many events a schedule has: slots are handed out and handed back, in any order.
use Rattle.std.specs.Prelude.{◌≡◌, ℕ, zero, suc, ◌+◌, ◌*◌, ◌<◌, ◌≤◌, ◌⊎◌, List, length, slice_set}
use Rattle.scalar_rule.specs.Positions.{sum_below}
use Rattle.exchange_board.specs.Machine.{Ruled, epochs, phases, numbers, after, IsReady, NoneOut, AllEnded}
use Rattle.exchange_board.specs.Views.{Stage, out_at}

-- the sum of the progress numbers: four for each epoch of each slot
abbrev pub progress_of : List Stage → ℕ
progress_of ps = sum_below (numbers ps) (length ps)

-- the places keep the rule of the schedule, from the progress numbers `since` on
abbrev pub KeepRule : ℕ → (ℕ → ℕ) → List Stage → Type 0
KeepRule until since ps = Ruled (length ps) until since (epochs ps) (phases ps)

-- a slot at rest below the last epoch is handed out
pub record IsHandOut (until : ℕ) (before later : List Stage) : Type 0 where
  pub slot : ℕ
  pub known : slot < length before
  pub rests : IsReady until before slot
  pub places : later ≡ slice_set before slot (out_at (epochs before slot))

-- a slot in work is handed back: it waits for its partner, or goes on to the next epoch, with the partner where that waits
pub record IsHandBack (before later : List Stage) : Type 0 where
  pub slot : ℕ
  pub known : slot < length before
  pub out : phases before slot ≡ 1
  pub places : later ≡ after before slot (epochs before slot)

abbrev pub IsEvent : ℕ → List Stage → List Stage → Type 0
IsEvent until before later = IsHandOut until before later ⊎ IsHandBack before later

-- so many events lead from places to others
unfoldable pub Lead : ℕ → ℕ → List Stage → List Stage → Type 0
Lead until zero first last = last ≡ first
Lead until (suc n) first last = (before : List Stage) × (Lead until n first before × IsEvent until before last)

-- ---- the laws

-- what n events leave: the rule is kept, and each of them added at least 1 to the progress, which never exceeds four times the
-- last epoch for each slot
pub record AreFew (until : ℕ) (since : ℕ → ℕ) (n : ℕ) (first last : List Stage) : Type 0 where
  pub rule : KeepRule until since last
  pub sized : length last ≡ length first
  pub risen : progress_of first + n ≤ progress_of last
  pub bounded : progress_of last ≤ length first * (4 * until)

-- so no schedule has more events than that, in whatever order they come
abbrev pub EventsAreFew : Type 0
EventsAreFew = (until : ℕ) (since : ℕ → ℕ) (n : ℕ) (first last : List Stage) → KeepRule until since first → Lead until n first last → AreFew until since n first last

-- and while no slot is in work, either every slot is at the last epoch, or some slot can be handed out
abbrev pub NoScheduleStops : Type 0
NoScheduleStops = (until : ℕ) (since : ℕ → ℕ) (ps : List Stage) → KeepRule until since ps → NoneOut ps
    → AllEnded until ps ⊎ ((t : ℕ) × ((t < length ps) × IsReady until ps t))
