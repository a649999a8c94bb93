-- The families so far are summed.
use Rattle.std.proofs.Common.{◌≡◌, ℕ, ◌<◌, Bool, length}
use Rattle.plane_sums.specs.Counts.{count_at, line_at}
use Rattle.plane_sums.specs.Families.{family_at, HasLines}
use Rattle.plane_sums.specs.Lines.{family_count}
use Rattle.plane_sums.proofs.families.sum_families.Given as goal

abbrev pub invariant-families : goal.invariant-families
invariant-families l = record {
  long : length l.totals ≡ 9;
  summed : (test : ℕ → ℕ → Bool) → HasLines l.size test l.lines → (f m b : ℕ) → f < l.family → m < l.size → b < 64
      → count_at (line_at l.totals f) m b ≡ family_count l.size (test b) (family_at f) m;
}
