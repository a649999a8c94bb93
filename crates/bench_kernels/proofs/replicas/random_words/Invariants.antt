use Rattle.std.proofs.Common.{◌≡◌, length}
use Rattle.bench_kernels.proofs.replicas.random_words.Given as goal

abbrev pub invariant-words : goal.invariant-words
invariant-words l = length l.words.items ≡ l.counter
