-- The lanes are added one by one, and no sum of some is above that of all.
use Rattle.std.proofs.Common.{◌≡◌, ◌+◌, ◌-◌, ◌≤◌, sym, ◌∙◌, arith}
use Rattle.bit_totals.specs.Tallies.{in_lanes}
use Rattle.bit_totals.proofs.Tallying.{in_lanes-none, in_lanes-more, in_lanes-le}
use Rattle.bit_totals.proofs.tally.Tally.total.Goals as goal

pub lanes-init : goal.lanes-init
lanes-init c = λ b h. c.zero-total.ensures b ∙ sym (in_lanes-none c.args.self.now.rows b)

pub add-requires : goal.add-requires
add-requires c = (
  omega arith,
  (
    omega arith,
    (
      omega arith,
      λ b h.
          let rows = c.args.self.now.rows in
          let lane = c.lanes.lane in
          let before = c.lanes.invariant b h in
          let column = c.column.ensures b in
          let more = in_lanes-more rows b lane in
          let rest : in_lanes rows b (lane + 1) ≤ in_lanes rows b (3 - lane + (lane + 1)) = in_lanes-le rows b (lane + 1) (3 - lane) in
          let all : 3 - lane + (lane + 1) ≡ 4 = omega arith in
          let most = rw all at rest in
          omega (arith, c.requires b h),
    ),
  ),
)

pub lanes-preserved : goal.lanes-preserved
lanes-preserved c = λ b h.
    let rows = c.args.self.now.rows in
    omega (arith, c.add.ensures b h, c.lanes.invariant b h, c.column.ensures b, in_lanes-more rows b c.lanes.lane)
