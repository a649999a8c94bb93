-- Both sums are those of the rows, and a block has no more of them than its slot.
use Rattle.std.proofs.Common.{arith, ◌∙◌, ap}
use Rattle.sample_average.specs.Averages.{sums_of, rows_without}
use Rattle.sample_average.proofs.Slots.{slot-sums}
use Rattle.sample_average.proofs.averages.Averages.sums_without.Goals as goal

pub without-requires-clause-rows : goal.without-requires-clause-rows
without-requires-clause-rows c = (slot-sums c.self.inside c.args.slot c.args.block _ _ c.self.invariant (omega (arith, c.requires.slot, ap (λ a. a.header.slots) c.self.view_is)) (omega (arith, c.requires.block, ap (λ a. a.blocks) c.self.view_is)) c.at.ensures c.at-part.ensures).less.rows

pub without-requires-clause-squares : goal.without-requires-clause-squares
without-requires-clause-squares c = (slot-sums c.self.inside c.args.slot c.args.block _ _ c.self.invariant (omega (arith, c.requires.slot, ap (λ a. a.header.slots) c.self.view_is)) (omega (arith, c.requires.block, ap (λ a. a.blocks) c.self.view_is)) c.at.ensures c.at-part.ensures).less.squares

pub without-requires-clause-fourths : goal.without-requires-clause-fourths
without-requires-clause-fourths c = (slot-sums c.self.inside c.args.slot c.args.block _ _ c.self.invariant (omega (arith, c.requires.slot, ap (λ a. a.header.slots) c.self.view_is)) (omega (arith, c.requires.block, ap (λ a. a.blocks) c.self.view_is)) c.at.ensures c.at-part.ensures).less.fourths

pub returns : goal.returns
returns c =
    let s = slot-sums c.self.inside c.args.slot c.args.block _ _ c.self.invariant (omega (arith, c.requires.slot, ap (λ a. a.header.slots) c.self.view_is)) (omega (arith, c.requires.block, ap (λ a. a.blocks) c.self.view_is)) c.at.ensures c.at-part.ensures in
    c.without.ensures ∙ s.told ∙ ap (λ a. sums_of (rows_without a c.args.slot c.args.block)) c.self.view_is
