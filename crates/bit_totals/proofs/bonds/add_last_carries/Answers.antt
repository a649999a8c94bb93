-- The carries of sixteen go up from the row of sixteen.
use Rattle.std.proofs.Common.{arith}
use Rattle.bit_totals.proofs.Tallying.{set_lanes-none}
use Rattle.bit_totals.proofs.bonds.add_last_carries.Goals as goal

pub add_one-requires-clause-room : goal.add_one-requires-clause-room
add_one-requires-clause-room c = λ b h.
    omega (arith, set_lanes-none b, c.requires.room b h, c.add_two-more.ensures.sum b, c.add_two-most.ensures.sum b)

pub returns : goal.returns
returns c = λ b h.
    omega (arith, set_lanes-none b, c.add_two-more.ensures.sum b, c.add_two-most.ensures.sum b, c.add_one.ensures b h)
