use Rattle.std.proofs.Common.{◌≡◌, ℕ, ◌+◌, ◌*◌, ◌-◌, ◌++◌, [], List, ◌∙◌, ap, refl, sym, arith, length, flat_map}
use Rattle.std.proofs.lemmas.List.{take_all, flat_map_more}
use Rattle.std.proofs.lemmas.Slice.{take-put_mid}
use Rattle.sha2.specs.Sha256.{sha256}
use Rattle.spin_model.specs.Seeding.{block_message, digest_words}
use Rattle.spin_model.specs.Steps.{table}
use Rattle.spin_model.proofs.Tables.{table-zero, table-more, length-table}
use Rattle.pr_generator.proofs.seeding.fill_blocks.Goals as goal

-- one block more
blocks-more : (words_of : ℕ → List ℕ) (j : ℕ) → flat_map words_of (table (λ j. j) (j + 1)) ≡ flat_map words_of (table (λ j. j) j) ++ words_of j
blocks-more words_of j = rw (table-more (λ (j : ℕ). j) j) (sym (flat_map_more words_of [] (table (λ j. j) j) j))

pub digests-init : goal.digests-init
digests-init c = rw (table-zero (λ (j : ℕ). j)) refl

pub digests-preserved : goal.digests-preserved
digests-preserved c =
    let xs = c.digests.words in
    let j = c.digests.j in
    let ys = c.copy_from_slice.new.self in
    let words_of : ℕ → List ℕ = λ j. digest_words (sha256 (block_message c.args.seed c.args.kind c.args.a c.args.b c.args.c j)) in
    let written : ys ≡ words_of j = c.copy_from_slice.ensures.after ∙ c.words_of_digest-block.ensures ∙ ap digest_words c.block_digest.ensures in
    let eight : length ys ≡ 8 = ap length written ∙ length-table _ 8 in
    take-put_mid (8 * j) (8 * j + 8 - 8 * j) xs ys (8 * (j + 1)) (omega arith) (omega arith)
    ∙ rw (c.digests.invariant, written) (sym (blocks-more words_of j))

pub returns : goal.returns
returns c =
    let last : c.digests.j ≡ 8 = omega arith in
    sym (take_all 64 c.digests.words (omega arith)) ∙ rw last at c.digests.invariant
