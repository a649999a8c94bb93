-- The rows below j are written.
use Rattle.std.proofs.Common.{◌≡◌, ℕ, ◌<◌, length, get_or}
use Rattle.plane_sums.specs.Lines.{word_in}
use Rattle.plane_sums.proofs.agreement.turn_column.Given as goal

abbrev pub invariant-rows : goal.invariant-rows
invariant-rows l = record {
  long : length l.column ≡ 64;
  written : (j : ℕ) → j < l.j → get_or l.column j 0 ≡ word_in l.rows j l.k;
}
