use Rattle.std.proofs.Common.{◌≡◌, ◌*◌, take, flat_map}
use Rattle.sha2.specs.Sha256.{sha256}
use Rattle.spin_model.specs.Seeding.{block_message, digest_words}
use Rattle.spin_model.specs.Steps.{table}
use Rattle.pr_generator.proofs.seeding.fill_blocks.Given as goal

abbrev pub invariant-digests : goal.invariant-digests
invariant-digests l =
    take (8 * l.j) l.words ≡ flat_map (λ j. digest_words (sha256 (block_message l.seed l.kind l.a l.b l.c j))) (table (λ j. j) l.j)
