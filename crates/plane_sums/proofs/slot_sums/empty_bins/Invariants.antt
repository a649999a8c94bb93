-- The bins so far have no epoch.
use Rattle.std.proofs.Common.{◌≡◌, length}
use Rattle.plane_sums.specs.Bins.{AreBins, AreEmpty}
use Rattle.plane_sums.proofs.slot_sums.empty_bins.Given as goal

abbrev pub invariant-bins : goal.invariant-bins
invariant-bins l = record {
  long : length l.bins.items ≡ l.bin;
  bins : AreBins l.bins.items;
  zero : AreEmpty l.bins.items;
}
