-- After w planes: the numbers, with what is carried, are the old ones and those of the first w planes.
use Rattle.std.proofs.Common.{◌≡◌, ℕ, ◌+◌, ◌*◌, ◌^◌, ◌<◌, length, get_or}
use Rattle.std.specs.Int.{bit_at}
use Rattle.local_rule.specs.SiteBits.{lane_words}
use Rattle.multispin_word.specs.Planes.{first}
use Rattle.plane_sums.specs.Counts.{count_at}
use Rattle.plane_sums.proofs.counts.Counts.add_counts.Given as goal

abbrev pub invariant-planes : goal.invariant-planes
invariant-planes g l = record {
  long : length l.self.planes ≡ g.row.W;
  other_long : length l.other.planes ≡ g.row.V;
  added : (k b : ℕ) → k < l.places → count_at l.self.planes k b + 2 ^ l.w * bit_at (get_or l.carry k 0) b
      ≡ count_at l.fn.self.planes k b + first (lane_words l.other.planes (l.from + k)) l.w b;
}
