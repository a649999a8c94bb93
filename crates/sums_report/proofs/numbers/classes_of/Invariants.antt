-- The classes before c are written.
use Rattle.std.proofs.Common.{◌≡◌, ℕ, ◌<◌, [], length, get_or, pos}
use Rattle.plane_sums.specs.Correlations.{signed_at}
use Rattle.sums_report.proofs.numbers.classes_of.Given as goal

abbrev pub invariant-classes : goal.invariant-classes
invariant-classes l = record {
  long : length l.counts ≡ 32;
  written : (c : ℕ) → c < l.c → signed_at l.counts c ≡ pos (get_or (get_or l.bin.classes l.b []) c 0);
}
