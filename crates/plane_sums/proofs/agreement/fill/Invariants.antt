-- The rows below y are written.
use Rattle.std.proofs.Common.{◌≡◌, ℕ, ◌<◌, length}
use Rattle.multispin_word.specs.Planes.{is_set}
use Rattle.spin_model.specs.Lattice.{site_at}
use Rattle.plane_sums.specs.Lines.{agrees, word_in}
use Rattle.plane_sums.proofs.agreement.fill.Given as goal

abbrev pub invariant-rows : goal.invariant-rows
invariant-rows l = record {
  long : length l.rows ≡ 64;
  shown : (y x b : ℕ) → y < l.y → x < l.size → b < 64
      → is_set (word_in l.rows y x) b ≡ agrees l.size l.first.planes l.second.planes b (site_at l.size x y l.z);
}
