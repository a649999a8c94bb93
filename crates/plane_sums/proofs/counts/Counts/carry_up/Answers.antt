-- Each plane hands on what it carries.
use Rattle.std.proofs.Common.{length-set, ◌∙◌, arith, get_or}
use Rattle.std.specs.Int.{bit_at}
use Rattle.plane_sums.proofs.PlaceNumbers.{plane-carried}
use Rattle.plane_sums.proofs.counts.Counts.carry_up.Goals as goal

pub planes-preserved : goal.planes-preserved
planes-preserved g c = record {
  long = length-set c.planes.self.planes c.planes.w c.add_carry.new.own ∙ c.planes.invariant.long;
  added = λ k b h.
      plane-carried c.planes.self.planes c.planes.w c.add_carry.new.own k b (bit_at (get_or c.planes.carry k 0) b) (bit_at (get_or c.add_carry.new.carry k 0) b)
      (omega (arith, c.planes.invariant.long)) (c.add_carry.ensures k b h)
      ∙ c.planes.invariant.added k b h;
}
