-- As many groups as turns.
use Rattle.std.proofs.Common.{◌≡◌, vec_len}
use Rattle.bench_kernels.proofs.groups.random_groups.Given as goal

abbrev pub invariant-groups : goal.invariant-groups
invariant-groups l = vec_len l.groups ≡ l._i
