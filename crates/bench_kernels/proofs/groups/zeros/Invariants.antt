-- As many planes as turns.
use Rattle.std.proofs.Common.{◌≡◌, vec_len}
use Rattle.bench_kernels.proofs.groups.zeros.Given as goal

abbrev pub invariant-planes : goal.invariant-planes
invariant-planes g l = vec_len l.planes ≡ l._i
