-- In each lane a bit is one of the outer, or of the inner in the mask.
use Rattle.std.proofs.Common.{slice_index}
use Rattle.multispin_word.specs.Planes.{is_set}
use Rattle.local_rule.proofs.RowOrder.{raise}
use Rattle.local_rule.proofs.vectors.raised_lanes.Goals as goal

pub returns-clause-raised : goal.returns-clause-raised
returns-clause-raised g c = λ i b h.
    let bit : _ → _ = λ ws. is_set (slice_index ws i) b in
    rw (c.joined_lanes.ensures.joined i b h, c.shared_lanes.ensures.shared i b h)
    (raise (bit c.args.mask) (bit c.args.inside) (bit c.args.outside))
