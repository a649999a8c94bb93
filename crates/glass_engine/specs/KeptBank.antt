-- What the run of one bank keeps.
use Rattle.std.specs.Prelude.{◌≡◌, ◌<◌, length}
use Rattle.exchange_board.specs.Answers.{stages_of}
use Rattle.exchange_board.specs.Content.{plan_of, IsLawfulOrigin}
use Rattle.turn_cell.specs.Seats.{AreOpened}
use Rattle.shared_board.specs.Shared.{lock_id}
use Rattle.glass_engine.specs.Runs.{RunView, AreRunOrders, DoneView, IsOriginOf, IsEnd}
use Rattle.glass_engine.specs.declared.run.BankRun.TheInside as run
use Rattle.glass_engine.specs.declared.done.BankDone.TheInside as done

abbrev pub bank_view : run.Inside → RunView
bank_view r = record {
  plan = plan_of r.opened.value.origin;
  base = r.opened.value.origin.base;
  orders = r.orders;
  until = r.opened.value.origin.window.until;
  takes = r.opened.value.origin.window.takes;
  saves = r.saves;
}

-- it has a shared board that was opened at the places of its starting state, with its seats, which nobody took yet
pub record KeepsBank (r : run.Inside) : Type 0 where
  pub orders : AreRunOrders r.orders
  pub lawful : IsLawfulOrigin r.opened.value.origin
  pub origin : IsOriginOf (bank_view r) r.opened.value.origin
  pub places : r.opened.value.places ≡ stages_of r.opened.value.origin.base
  pub some_seats : 0 < length r.seats.items
  pub seats : AreOpened (lock_id r.board) r.opened.value.origin (length r.opened.value.places) (length r.seats.items) 0 r.seats.items

abbrev pub bank_done_view : done.Inside → DoneView
bank_done_view d = record {
  run = record {
    plan = plan_of d.ended.origin;
    base = d.ended.origin.base;
    orders = d.orders;
    until = d.ended.origin.window.until;
    takes = d.ended.origin.window.takes;
    saves = d.saves;
  };
  ended = d.ended;
}

-- at its end it has what the rule gives at its places
pub record KeepsBankDone (d : done.Inside) : Type 0 where
  pub orders : AreRunOrders d.orders
  pub ended : IsEnd (bank_done_view d).run d.ended
