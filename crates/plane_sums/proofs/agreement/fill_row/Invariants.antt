-- The columns below k are filled.
use Rattle.std.proofs.Common.{◌≡◌, ℕ, ◌+◌, ◌*◌, ◌<◌, length, get_or}
use Rattle.multispin_word.specs.Planes.{is_set}
use Rattle.scalar_rule.specs.Neighbours.{agree}
use Rattle.plane_sums.proofs.agreement.fill_row.Given as goal

abbrev pub invariant-columns : goal.invariant-columns
invariant-columns l = record {
  long : length l.row ≡ 64;
  even : (k b : ℕ) → k < l.k → b < 64 → is_set (get_or l.row (2 * k) 0) b ≡ agree (is_set (get_or l.even k 0) b) (is_set (get_or l.other_even k 0) b);
  odd : (k b : ℕ) → k < l.k → b < 64 → is_set (get_or l.row (2 * k + 1) 0) b ≡ agree (is_set (get_or l.odd k 0) b) (is_set (get_or l.other_odd k 0) b);
}
