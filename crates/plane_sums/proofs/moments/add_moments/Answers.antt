-- A sample more has its terms.
use Rattle.std.proofs.Common.{ℕ, List, [], ℤ, ◌+ℤ◌, get_or, length-set, ap, ◌∙◌, arith}
use Rattle.std.proofs.lemmas.List.{get_or-set_other}
use Rattle.plane_sums.specs.Correlations.{signed_at}
use Rattle.plane_sums.specs.Measured.{terms_of}
use Rattle.plane_sums.proofs.BinnedSums.{rows-more}
use Rattle.plane_sums.proofs.moments.add_moments.Goals as goal

pub samples-preserved : goal.samples-preserved
samples-preserved c =
    let known = c.samples.invariant in
    let now = c.samples.sums in
    let at = c.samples.b in
    let old = c.args.sums.now in
    let value = λ (b k : ℕ). signed_at (get_or old b []) k +ℤ signed_at (terms_of c.args.seen.now b) k in
    record {
      long = length-set now at _ ∙ known.long;
      added = rows-more now at _ value 11 (omega (arith, known.long)) known.added (λ k few.
          c.add_terms.ensures k few
          ∙ ap (λ (row : List ℤ). signed_at row k +ℤ signed_at c.sample_terms-terms.result k) (known.rest at (omega arith))
          ∙ ap (λ (row : List ℤ). signed_at (get_or old at []) k +ℤ signed_at row k) c.sample_terms-terms.ensures);
      rest = λ b past. get_or-set_other now at b _ [] (λ e. omega (arith, e, past)) ∙ known.rest b (omega arith);
    }
