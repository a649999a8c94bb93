-- The totals so far are zero.
use Rattle.std.proofs.Common.{◌≡◌, length}
use Rattle.std.specs.List.{AllWithin}
use Rattle.bench_kernels.specs.Totals.{IsZero}
use Rattle.bench_kernels.proofs.bit_passes.clear.Given as goal

abbrev pub invariant-totals : goal.invariant-totals
invariant-totals l = record {
  long : length l.totals ≡ length l.fn.totals;
  zero : AllWithin IsZero l.totals 0 l.i;
}
