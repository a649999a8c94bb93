-- In each lane the bits of three cases within one another are put together.
use Rattle.std.proofs.Common.{ℕ, slice_index, ◌-◌, ◌^◌}
use Rattle.multispin_word.specs.Planes.{is_set}
use Rattle.multispin_word.proofs.Bits.{is_set-ones}
use Rattle.std.proofs.lemmas.Simd.{get_or-replicate}
use Rattle.local_rule.proofs.RowOrder.{fall}
use Rattle.local_rule.proofs.vectors.fallen_lanes.Goals as goal

pub returns-clause-fallen : goal.returns-clause-fallen
returns-clause-fallen g c = λ i b h l.
    let bit : _ → _ = λ ws. is_set (slice_index ws i) b in
    let ones = get_or-replicate {A = ℕ} g.row.N i (2 ^ 64 - 1) 0 h in
    rw (
      c.joined_lanes.ensures.joined i b h,
      c.shared_lanes-2.ensures.shared i b h,
      c.joined_lanes-up_to_five.ensures.joined i b h,
      c.shared_lanes.ensures.shared i b h,
      c.differing_lanes-no_ones.ensures.differing i b h,
      ones,
      is_set-ones b l,
    )
    (fall (bit c.args.ones) (bit c.args.no_twos) (bit c.args.four) (bit c.args.five) (bit c.args.six))
