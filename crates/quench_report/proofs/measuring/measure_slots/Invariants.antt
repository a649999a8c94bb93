-- The slots before this one are measured, there is as much room, and the states are as before.
use Rattle.std.proofs.Common.{◌≡◌, ℕ}
use Rattle.quench_report.specs.Held.{HasRoom, HoldBank}
use Rattle.quench_report.proofs.measuring.measure_slots.Given as goal

abbrev pub invariant-slots : goal.invariant-slots
invariant-slots l = record {
  held : HoldBank l.plan l.fn.states l.state l.bank l.room l.slot;
  kept : (few times : ℕ) → HasRoom few times l.fn.room → HasRoom few times l.room;
  same : l.states ≡ l.fn.states;
}
