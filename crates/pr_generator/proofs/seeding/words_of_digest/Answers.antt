use Rattle.std.proofs.Common.{◌≡◌, ℕ, ◌*◌, ◌∙◌, refl, sym, arith}
use Rattle.std.proofs.lemmas.List.{take_more_set, take_all, length-set}
use Rattle.sha2.specs.Sha256.{word_at}
use Rattle.spin_model.proofs.Tables.{table-zero, table-more}
use Rattle.pr_generator.proofs.seeding.words_of_digest.Goals as goal

pub words-init : goal.words-init
words-init c = record { sized = refl; read = sym (table-zero _) }

pub words-preserved : goal.words-preserved
words-preserved c =
    let more = table-more (λ (n : ℕ). word_at c.args.digest.now (4 * n)) c.words.n in
    record {
      sized = simp length-set c.words.invariant.sized;
      read = take_more_set c.words.words c.words.n _ (omega (arith, c.words.invariant.sized)) ∙ rw (c.words.invariant.read, more, c.from_be_bytes.ensures) refl;
    }

pub returns : goal.returns
returns c =
    let last : c.words.n ≡ 8 = omega arith in
    sym (take_all 8 c.words.words (omega (arith, c.words.invariant.sized))) ∙ rw last at c.words.invariant.read
