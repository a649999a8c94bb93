use Rattle.std.proofs.Common.{◌≡◌, ◌+◌, length}
use Rattle.measured_run.proofs.driven.drive_on.Given as goal

abbrev pub invariant-epochs : goal.invariant-epochs
invariant-epochs g l = record {
  bank : l.bank.bank ≡ l.fn.bank.bank;
  rooms : length l.rooms ≡ length l.fn.rooms;
  epoch : l.bank.epoch ≡ l.fn.bank.epoch + l.k;
}
