-- Two adders in each lane, over the bonds ahead and those behind, whose sums and carries are compared with the spins.
use Rattle.std.proofs.Common.{◌≡◌, ℕ, ◌+◌, ◌*◌, ◌<◌, get_or, arith}
use Rattle.std.specs.Int.{bit_at}
use Rattle.local_rule.specs.SiteBits.{lane_words}
use Rattle.bit_totals.specs.RowBonds.{against_count}
use Rattle.bit_totals.proofs.RowCounts.{lane-compared}
use Rattle.bit_totals.proofs.Tallying.{set_lanes-is}
use Rattle.bit_totals.proofs.bonds.count_bonds.Goals as goal

pub returns-clause-sum : goal.returns-clause-sum
returns-clause-sum c = λ b.
    let six = c.args.six.now in
    let words = c.args.words in
    let lane : (i : ℕ) → i < 4 → bit_at (get_or c.against.result i 0) b + bit_at (get_or c.against-2.result i 0) b
    + 2 * (bit_at (get_or c.against-3.result i 0) b + bit_at (get_or c.against-4.result i 0) b) ≡ against_count (lane_words six i) (get_or words i 0) b = λ i h.
    let front = rw (c.load.ensures.same, c.load-2.ensures.same, c.load-3.ensures.same) at (c.full_adder_lanes-front.ensures.sum i b h) in
    let back = rw (c.load-4.ensures.same, c.load-5.ensures.same, c.load-6.ensures.same) at (c.full_adder_lanes-back.ensures.sum i b h) in
    lane-compared six i (get_or words i 0) b _ _ _ _ _ _ _ _ (omega arith) front back
    (c.against.ensures.differing i b h) (c.against-2.ensures.differing i b h) (c.against-3.ensures.differing i b h) (c.against-4.ensures.differing i b h) in
    omega (
      arith,
      lane 0 (omega arith),
      lane 1 (omega arith),
      lane 2 (omega arith),
      lane 3 (omega arith),
      set_lanes-is c.against.result b,
      set_lanes-is c.against-2.result b,
      set_lanes-is c.against-3.result b,
      set_lanes-is c.against-4.result b,
    )
