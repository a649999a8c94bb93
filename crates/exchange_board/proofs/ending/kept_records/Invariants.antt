use Rattle.std.proofs.Common.{◌≡◌, ◌+◌, ◌*◌, length, map, All}
use Rattle.plane_sweep.specs.Uneven.{position_of, FitsRecord}
use Rattle.exchange_board.specs.Content.{slots_in}
use Rattle.exchange_board.specs.Stops.{IsKeeping}
use Rattle.exchange_board.proofs.ending.kept_records.Given as goal

abbrev pub invariant-cells : goal.invariant-cells
invariant-cells l = record {
  spare : l.room.spare + length l.room.items ≡ l.origin.window.samples * slots_in l.origin * slots_in l.origin;
  kept : IsKeeping l.origin (map position_of l.places) l.index l.room.items;
  fits : All FitsRecord l.room.items;
}
