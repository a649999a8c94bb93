-- The table of epochs, samples and slots whose places have the records ahead of the least completed epoch.
use Rattle.std.specs.Prelude.{◌≡◌, ℕ, ◌/◌, ◌%◌, Bool, List, length, map}
use Rattle.scalar_rule.specs.Positions.{position_in, done, cell_epoch, is_pending}
use Rattle.plane_sweep.specs.Uneven.{position_of}
use Rattle.plane_sweep.specs.declared.cells.Cell.{Cell}
use Rattle.plane_sweep.specs.declared.uneven.Place.{Place}

-- place i of the table of epochs from c on, samples and n slots
pub record IsCell (c samples n i : ℕ) (cell : Cell) : Type 0 where
  pub epoch : cell.epoch ≡ cell_epoch c samples n i
  pub sample : cell.sample ≡ i / n % samples
  pub slot : cell.slot ≡ i % n

-- it has a record ahead of c
abbrev pub is_kept : List Place → ℕ → ℕ → ℕ → ℕ → Bool
is_kept places c samples every i = is_pending (λ t. done (position_in (map position_of places) t)) c samples every (length (map position_of places)) i
