-- The states before i are measured, and all are as before.
use Rattle.std.proofs.Common.{◌≡◌, length}
use Rattle.quench_report.specs.Held.{bank_fields, HoldPairs}
use Rattle.quench_report.proofs.measuring.measure_pairs.Given as goal

abbrev pub invariant-earlier : goal.invariant-earlier
invariant-earlier l = record {
  held : HoldPairs l.lattice l.pairs (bank_fields l.lattice l.fn.states l.place.state l.place.bank l.place.slot) l.i;
  long : length l.pairs ≡ length l.fn.pairs;
  same : l.states ≡ l.fn.states;
}
