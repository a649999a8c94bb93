-- The words below i, and zeros from there on.
use Rattle.std.proofs.Common.{◌≡◌, ℕ, ◌+◌, ◌<◌, ◌≤◌, length, get_or}
use Rattle.bit_totals.specs.Tallies.{mixed}
use Rattle.bit_totals.proofs.tally.last_row.Given as goal

abbrev pub invariant-words : goal.invariant-words
invariant-words l = record {
  long : length l.row ≡ 4;
  done : (j : ℕ) → j < l.i → get_or l.row j 0 ≡ mixed l.first l.second l.third (l.at + j);
  rest : (j : ℕ) → l.i ≤ j → get_or l.row j 0 ≡ 0;
}
