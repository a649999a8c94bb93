-- The bonds so far have the sample's bit, and each has the bits of the other samples that it had.
use Rattle.std.proofs.Common.{◌≡◌, ◌≢◌, ℕ, ◌<◌, get_or}
use Rattle.spin_model.specs.Words.{is_set}
use Rattle.coupling_set.proofs.drawing.set_sample.Given as goal

abbrev pub invariant-bonds : goal.invariant-bonds
invariant-bonds l = record {
  bits : (j : ℕ) → j < l.k → is_set (get_or l.row j 0) l.sample ≡ is_set (get_or l.draws j 0) 31;
  others : (b j : ℕ) → b < 64 → b ≢ l.sample → is_set (get_or l.row j 0) b ≡ is_set (get_or l.fn.row j 0) b;
}
