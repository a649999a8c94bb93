-- Each row hands on what it carries; a sum below 2^20 carries nothing out of the last.
use Rattle.std.proofs.Common.{◌≡◌, refl, arith}
use Rattle.multispin_word.proofs.Numbers.{power-more}
use Rattle.bit_totals.proofs.Tallying.{set_lanes-none}
use Rattle.bit_totals.proofs.lanes.add_one.Goals as goal

pub ripple-init : goal.ripple-init
ripple-init c = record {
  long = c.requires.length;
  added = λ b. refl;
}

pub ripple-preserved : goal.ripple-preserved
ripple-preserved c = record {
  long = c.add_two-carry.ensures.length;
  added = λ b.
      let one = rw (set_lanes-none b) at (c.add_two-carry.ensures.sum b) in
      rw (power-more c.ripple.w) (omega (arith, one, c.ripple.invariant.added b));
}

pub returns : goal.returns
returns c = λ b h.
    let last : c.ripple.w ≡ 20 = omega arith in
    let added = rw last at (c.ripple.invariant.added b) in
    omega (arith, added, c.requires.room b h)
