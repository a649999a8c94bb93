-- The columns below k are written.
use Rattle.std.proofs.Common.{◌≡◌, ℕ, ◌<◌, length}
use Rattle.plane_sums.specs.Lines.{word_in}
use Rattle.plane_sums.proofs.agreement.turn.Given as goal

abbrev pub invariant-columns : goal.invariant-columns
invariant-columns l = record {
  long : length l.turned ≡ 64;
  written : (j k : ℕ) → j < l.size → k < l.k → word_in l.turned k j ≡ word_in l.rows j k;
}
