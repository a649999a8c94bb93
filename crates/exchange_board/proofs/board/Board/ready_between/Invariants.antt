use Rattle.std.proofs.Common.{◌≡◌, ◌*◌, ◌<◌, length}
use Rattle.std.specs.Prelude.{IfSome, IfNone}
use Rattle.exchange_board.specs.Machine.{IsReady, NoneReadyBetween}
use Rattle.exchange_board.proofs.board.Board.ready_between.Given as goal

abbrev pub invariant-slots : goal.invariant-slots
invariant-slots l = record {
  until_is : l.until ≡ 4 * l.fn.self.origin.window.until;
  some : IfSome l.found (λ s. (s < length l.fn.self.places) × IsReady l.fn.self.origin.window.until l.fn.self.places s);
  none : IfNone l.found ((l.least ≡ 2 * l.until) × NoneReadyBetween l.fn.first l.t l.fn.self.origin.window.until l.fn.self.places);
}
