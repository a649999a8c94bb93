-- What is carried to plane w is worth what is missing to the sum.
use Rattle.std.proofs.Common.{◌≡◌, ℕ, ◌+◌, ◌*◌, ◌^◌, ◌<◌, length, get_or}
use Rattle.std.specs.Int.{bit_at}
use Rattle.plane_sums.specs.Counts.{count_at}
use Rattle.plane_sums.proofs.counts.Counts.carry_up.Given as goal

abbrev pub invariant-planes : goal.invariant-planes
invariant-planes g l = record {
  long : length l.self.planes ≡ g.row.W;
  added : (k b : ℕ) → k < l.places → count_at l.self.planes k b + 2 ^ l.w * bit_at (get_or l.carry k 0) b
      ≡ count_at l.fn.self.planes k b + 2 ^ l.from * bit_at (get_or l.fn.carry k 0) b;
}
