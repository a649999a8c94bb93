-- The words are the given ones, and a generator of zeros is one.
use Rattle.std.proofs.Common.{◌≡◌, ℕ, length, replicate, refl, ap, ◌∙◌, arith}
use Rattle.std.proofs.lemmas.List.{get_or-replicate, get_or_default}
use Rattle.spin_model.specs.Words.{AreGeneratorWords}
use Rattle.bench_kernels.proofs.replicas.plane_of.Goals as goal

zeros : AreGeneratorWords (replicate 61 0)
zeros = record {
  sized = refl;
  in_range = λ k d h. let zero = get_or-replicate {A = ℕ} 61 k 0 d h in omega arith;
}

pub returns : goal.returns
returns c =
    let words : c.of.result ≡ c.args.words.now = c.of.ensures ∙ c.in_ok-from_slice.ensures.items in
    let generator : c.from_words.result ≡ replicate 61 0 = c.from_words.ensures in
    record {
      sized = ap length words ∙ c.requires;
      in_range = rw words (λ k d h. rw (get_or_default c.args.words.now k d 0 h) (c.type_inv.words k).fits);
      generator = rw generator zeros;
    }
