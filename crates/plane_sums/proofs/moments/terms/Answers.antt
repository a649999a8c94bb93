-- Each term is that of the definition.
use Rattle.std.specs.Int.{w128}
use Rattle.std.proofs.Common.{w32, refl}
use Rattle.std.proofs.lemmas.Int.{to_z-of_z}
use Rattle.plane_sums.proofs.moments.terms.Goals as goal

pub returns : goal.returns
returns c = rw (
  to_z-of_z w128 c.energy_sum.result (record { sfits = c.energy_sum.type_inv }),
  to_z-of_z w128 c.sum_of_squares.result (record { sfits = c.sum_of_squares.type_inv }),
  to_z-of_z w128 c.energy_pair.result (record { sfits = c.energy_pair.type_inv }),
  to_z-of_z w128 c.wide.result (record { sfits = c.wide.type_inv }),
  to_z-of_z w128 c.link_square.result (record { sfits = c.link_square.type_inv }),
  to_z-of_z w128 c.wide-2.result (record { sfits = c.wide-2.type_inv }),
  to_z-of_z w128 c.size_of.result (record { sfits = c.size_of.type_inv }),
  to_z-of_z w128 c.square_of.result (record { sfits = c.square_of.type_inv }),
  to_z-of_z w128 c.fourth_of.result (record { sfits = c.fourth_of.type_inv }),
  to_z-of_z w128 c.energy_by_square.result (record { sfits = c.energy_by_square.type_inv }),
  to_z-of_z w128 c.energy_by_fourth.result (record { sfits = c.energy_by_fourth.type_inv }),
  c.energy_sum.ensures.value,
  c.sum_of_squares.ensures,
  c.energy_pair.ensures,
  c.wide.ensures,
  c.link_square.ensures,
  c.wide-2.ensures,
  c.size_of.ensures,
  c.square_of.ensures.value,
  c.fourth_of.ensures.value,
  c.energy_by_square.ensures,
  c.energy_by_fourth.ensures,
  to_z-of_z w32 c.args.first c.ranges.first,
  to_z-of_z w32 c.args.second c.ranges.second,
  to_z-of_z w32 c.args.links c.ranges.links,
  to_z-of_z w32 c.args.overlap c.ranges.overlap,
) refl
