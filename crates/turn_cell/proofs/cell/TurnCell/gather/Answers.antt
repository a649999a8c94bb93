-- Each pop gathers one seat more.
use Rattle.std.proofs.Common.{rules}
use Rattle.turn_cell.specs.Seats.{cell_id}
use Rattle.turn_cell.proofs.Ending.{gathering-one, gathering-last, gathering-more, gathering-all}
use Rattle.turn_cell.proofs.cell.TurnCell.gather.Goals as goal

pub loop-other-init : goal.loop-other-init
loop-other-init g c = gathering-one (cell_id c.args.self.now) c.args.passes.items c.pop.new.self.items c.in-Some.kept (search rules) c.requires.idle

pub join-requires-clause-own : goal.join-requires-clause-own
join-requires-clause-own g c =
    let now = c.loop-other.invariant in
    let last = gathering-last (cell_id c.args.self.now) c.args.passes.items c.loop-other.passes.items c.pop-in-loop-other.new.self.items c.in-Some-pop.other c.loop-other.kept (search rules) now in
    (now.own, last.own)

pub join-requires-clause-other : goal.join-requires-clause-other
join-requires-clause-other g c =
    let last = gathering-last (cell_id c.args.self.now) c.args.passes.items c.loop-other.passes.items c.pop-in-loop-other.new.self.items c.in-Some-pop.other c.loop-other.kept (search rules) c.loop-other.invariant in
    (last.free, last.work)

pub loop-other-preserved : goal.loop-other-preserved
loop-other-preserved g c = gathering-more (cell_id c.args.self.now) c.args.passes.items c.loop-other.passes.items c.pop-in-loop-other.new.self.items c.in-Some-pop.other c.loop-other.kept c.join.new.kept (search rules) c.loop-other.invariant c.join.ensures.own c.join.ensures.joined

pub returns : goal.returns
returns g c = gathering-all (cell_id c.args.self.now) c.args.passes.items c.loop-other.passes.items c.loop-other.kept c.loop-other.invariant (search rules)
