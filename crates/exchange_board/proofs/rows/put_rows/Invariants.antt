use Rattle.std.proofs.Common.{◌≡◌, ◌≢◌, ℕ, ◌+◌, ◌*◌, ◌<◌, length}
use Rattle.exchange_board.specs.Content.{record_at}
use Rattle.exchange_board.proofs.rows.put_rows.Given as goal

abbrev pub invariant-samples : goal.invariant-samples
invariant-samples l = record {
  sized : length l.records ≡ length l.fn.records;
  written : (k : ℕ) → k < l.i → record_at l.records ((l.rows.at + k) * l.rows.slots + l.rows.slot) ≡ record_at l.made k;
  others : (j : ℕ) → ((k : ℕ) → k < l.i → j ≢ (l.rows.at + k) * l.rows.slots + l.rows.slot) → record_at l.records j ≡ record_at l.fn.records j;
}
