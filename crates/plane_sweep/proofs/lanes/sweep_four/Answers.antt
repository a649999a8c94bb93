use Rattle.local_rule.specs.SiteBits.{lane_words}
use Rattle.plane_sweep.proofs.RowSweeps.{row-sites}
use Rattle.plane_sweep.proofs.lanes.sweep_four.Goals as goal

pub returns : goal.returns
returns c =
    row-sites c.args.around.now c.args.rule.now c.args.draws.now c.args.row.now 4 c.args.k (lane_words c.pulls_of_four-six.result) c.args.own.now c.update_sites.new.own
    c.pulls_of_four-six.ensures c.update_sites.ensures
