-- The lane's words of the rows below w.
use Rattle.std.proofs.Common.{◌≡◌, ℕ, ◌<◌, [], length, get_or}
use Rattle.bit_totals.proofs.tally.column.Given as goal

abbrev pub invariant-rows : goal.invariant-rows
invariant-rows l = record {
  long : length l.words ≡ 20;
  done : (j : ℕ) → j < l.w → get_or l.words j 0 ≡ get_or (get_or l.rows j []) l.lane 0;
}
