-- In each lane the row is replaced by the low bit of the three, and the high bit is worth twice as much.
use Rattle.std.proofs.Common.{◌≡◌, ℕ, ◌^◌, List, length, get_or, set, ap, sym, ◌∙◌, arith}
use Rattle.std.proofs.lemmas.List.{length-map, map-set}
use Rattle.local_rule.specs.SiteBits.{lane_words}
use Rattle.bit_totals.proofs.LaneNumbers.{lane-word, number-written, taken-up}
use Rattle.bit_totals.proofs.Tallying.{tallied-two}
use Rattle.bit_totals.proofs.lanes.add_two.Goals as goal

pub returns-clause-sum : goal.returns-clause-sum
returns-clause-sum c = λ b.
    let rows = c.args.rows.now in
    let w = c.args.w in
    let row = c.full_adder_lanes.result.0 in
    tallied-two rows (set rows w row) c.full_adder_lanes.result.1 c.args.first c.args.second (2 ^ w) b (λ i h.
    let lane = λ (words : List ℕ). get_or words i 0 in
    let long : length (lane_words rows i) ≡ length rows = length-map rows lane in
    let mine : get_or c.row_of.result i 0 ≡ get_or (lane_words rows i) w 0 = ap lane c.row_of.ensures.same ∙ sym (lane-word rows i w) in
    let adder = rw mine at (c.full_adder_lanes.ensures.sum i b h) in
    let written = number-written (lane_words rows i) w (lane row) b (omega (arith, long)) in
    rw (map-set lane rows w row) (taken-up (2 ^ w) _ _ _ _ _ _ _ written adder))
