use Rattle.std.proofs.Common.{◌≡◌, ◌*◌, take, length}
use Rattle.sha2.specs.Sha256.{word_at}
use Rattle.spin_model.specs.Steps.{table}
use Rattle.pr_generator.proofs.seeding.words_of_digest.Given as goal

abbrev pub invariant-words : goal.invariant-words
invariant-words l = record {
  sized : length l.words ≡ 8;
  read : take l.n l.words ≡ table (λ n. word_at l.digest (4 * n)) l.n;
}
