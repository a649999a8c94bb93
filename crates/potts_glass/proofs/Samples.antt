-- The texts of the samples, which are put one after the other.
use Rattle.std.proofs.Common.{◌≡◌, ℕ, ◌+◌, ◌-◌, ◌<◌, [], ◌++◌}
use Rattle.std.specs.Prelude.{flat_map}
use Rattle.spin_model.specs.Steps.{table}
use Rattle.spin_model.proofs.Joined.{joined-zero, joined-more, joined-at}
use Rattle.potts_glass.specs.PottsStates.{PottsView}
use Rattle.potts_glass.specs.PottsText.{sample_text, samples_text}

pub samples-none : (potts : PottsView) → samples_text potts 0 ≡ []
unfolding samples_text
samples-none potts = joined-zero _ _

pub samples-more : (potts : PottsView) (n : ℕ) → samples_text potts (n + 1) ≡ samples_text potts n ++ sample_text potts n
unfolding samples_text
samples-more potts n = joined-more _ _ n

-- those before one of them, it, and those behind it
pub samples-at : (potts : PottsView) (n all : ℕ) → n < all
    → samples_text potts all ≡ (samples_text potts n ++ sample_text potts n) ++ flat_map (sample_text potts) (table (λ k. n + 1 + k) (all - (n + 1)))
unfolding samples_text
samples-at potts n all below = joined-at _ _ n all below
