-- The totals to come are zero.
use Rattle.std.proofs.Common.{◌≡◌, length}
use Rattle.std.specs.List.{AllWithin}
use Rattle.bench_kernels.specs.Totals.{IsZero}
use Rattle.bench_kernels.proofs.bit_passes.add_all.Given as goal

abbrev pub invariant-totals : goal.invariant-totals
invariant-totals l = record {
  long : length l.totals ≡ length l.fn.totals;
  rest : AllWithin IsZero l.totals l.i (length l.totals);
}
