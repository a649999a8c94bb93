-- The places below k are added, those from k on are as before.
use Rattle.std.proofs.Common.{◌≡◌, ℕ, ◌+◌, ◌*◌, ◌<◌, ◌≤◌, length, get_or}
use Rattle.std.specs.Int.{bit_at}
use Rattle.plane_sums.proofs.counts.add_plane.Given as goal

abbrev pub invariant-places : goal.invariant-places
invariant-places g l = record {
  own_long : length l.own ≡ 128;
  carry_long : length l.carry ≡ 64;
  added : (k b : ℕ) → k < l.k → bit_at (get_or l.own k 0) b + 2 * bit_at (get_or l.carry k 0) b
      ≡ bit_at (get_or l.fn.own k 0) b + bit_at (get_or l.other (l.from + k) 0) b + bit_at (get_or l.fn.carry k 0) b;
  own_rest : (j : ℕ) → l.k ≤ j → get_or l.own j 0 ≡ get_or l.fn.own j 0;
  carry_rest : (j : ℕ) → l.k ≤ j → get_or l.carry j 0 ≡ get_or l.fn.carry j 0;
}
