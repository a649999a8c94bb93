-- The carries of 32 go up from the row of 32.
use Rattle.std.proofs.Common.{arith}
use Rattle.bit_totals.proofs.Tallying.{set_lanes-none}
use Rattle.bit_totals.proofs.bonds.add_carries.Goals as goal

pub add_one-requires-clause-room : goal.add_one-requires-clause-room
add_one-requires-clause-room c = λ b h.
    omega (
      arith,
      set_lanes-none b,
      c.requires.room b h,
      c.add_two-last.ensures.sum b,
      c.add_two-front.ensures.sum b,
      c.add_two-back.ensures.sum b,
      c.add_two-most.ensures.sum b,
    )

pub returns : goal.returns
returns c = λ b h.
    omega (
      arith,
      set_lanes-none b,
      c.add_two-last.ensures.sum b,
      c.add_two-front.ensures.sum b,
      c.add_two-back.ensures.sum b,
      c.add_two-most.ensures.sum b,
      c.add_one.ensures b h,
    )
