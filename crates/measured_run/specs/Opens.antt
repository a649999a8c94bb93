-- The slots of a bank before its first epoch, and behind its last.
use Rattle.std.specs.Prelude.{◌≡◌, ℕ, ◌+◌, ◌<◌, ◌≤◌, pos, List, length, map}
use Rattle.measured_sums.specs.MeasuredSums.{Quantity}
use Rattle.plane_sums.specs.Bins.{SumsView, bin_at, sum_in}
use Rattle.plane_sweep.specs.declared.replica.Duo.{Duo}
use Rattle.measured_run.specs.Keeps.{HaveBins}
use Rattle.measured_run.specs.declared.cell.Cell.{Cell}

-- the replicas of slots
abbrev pub duos_in : List Cell → List Duo
duos_in cells = map (λ (cell : Cell). cell.duo) cells

-- nothing is summed up yet, in the bins of the epochs from c on and below e
pub record IsNew (c e : ℕ) (sums : SumsView) : Type 0 where
  pub bins : HaveBins c e sums
  pub zero : (k b : ℕ) (quantity : Quantity) → sums.first ≤ k → k < sums.first + length sums.bins → sum_in (bin_at sums k) b quantity ≡ pos 0
