-- Each plane takes up one of the other numbers; what is left is carried on, and nothing comes out of the last plane.
use Rattle.std.proofs.Common.{◌≡◌, ◌+◌, ◌^◌, ap, sym, length-set, ◌∙◌, rules, arith, get_or}
use Rattle.std.specs.Int.{bit_at}
use Rattle.std.proofs.lemmas.Nat.Bits.{bit_at-lt}
use Rattle.local_rule.specs.SiteBits.{lane_words}
use Rattle.multispin_word.proofs.Numbers.{first-none, first-more, whole}
use Rattle.bit_compare.proofs.Adding.{no-carry}
use Rattle.bit_totals.proofs.LaneNumbers.{lane-word}
use Rattle.plane_sums.specs.Counts.{count_at}
use Rattle.plane_sums.proofs.PlaceNumbers.{plane-added, planes-long}
use Rattle.plane_sums.proofs.counts.Counts.add_counts.Goals as goal

pub planes-init : goal.planes-init
planes-init g c = record {
  long = search rules;
  other_long = search rules;
  added = λ k b h. omega (arith, c.no_carry-carry.ensures k b, first-none (lane_words c.args.other.now.planes (c.args.from + k)) b);
}

pub planes-preserved : goal.planes-preserved
planes-preserved g c = record {
  long = length-set c.planes.self.planes c.planes.w c.add_plane.new.own ∙ c.planes.invariant.long;
  other_long = c.planes.invariant.other_long;
  added = λ k b h.
      let other = lane_words c.args.other.now.planes (c.args.from + k) in
      let w = c.planes.w in
      let read = rw (lane-word c.args.other.now.planes (c.args.from + k) w) at (first-more other w b) in
      let more = plane-added c.planes.self.planes w c.add_plane.new.own k b _ (bit_at (get_or c.planes.carry k 0) b) (bit_at (get_or c.add_plane.new.carry k 0) b)
      (omega (arith, c.planes.invariant.long)) (c.add_plane.ensures k b h) in
      omega (arith, more, read, c.planes.invariant.added k b h);
}

pub returns : goal.returns
returns g c = λ k b h l.
    let other = lane_words c.args.other.now.planes (c.args.from + k) in
    let last : c.planes.w ≡ g.row.V = omega arith in
    let all = whole other c.planes.w b (last ∙ sym (planes-long c.args.other.now.planes (c.args.from + k) ∙ c.planes.invariant.other_long)) in
    let carried = c.carry_up.ensures k b h in
    let before = rw last at (c.planes.invariant.added k b h) in
    no-carry (count_at c.carry_up.new.self.planes k b) (2 ^ c.args.width) (bit_at (get_or c.carry_up.new.carry k 0) b) _ (bit_at-lt _ b)
    (carried ∙ before ∙ ap (λ n. count_at c.args.self.now.planes k b + n) (rw last at all)) (c.requires.room k b h l)
