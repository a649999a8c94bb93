use Rattle.std.proofs.Common.{sym}
use Rattle.sample_average.proofs.Progress.{kept-first, kept-more, shorter}
use Rattle.sample_average.proofs.WrongLine.{stopped, finished}
use Rattle.sample_average.proofs.scan.scan_lines.Goals as goal

pub lines-init : goal.lines-init
lines-init c = kept-first c.args.header.now c.args.bytes.now c.args.out.now c.args.behind.now c.requires.lawful c.requires.header c.requires.shorter

pub lines-smaller : goal.lines-smaller
lines-smaller c = shorter c.args.header.now c.lines.place c.lines.rest.now (c.in-Some.step, c.in-Some.after.now) c.requires.lawful c.lines.invariant.read.fits (sym c.in-Some.ensures)

pub lines-preserved : goal.lines-preserved
lines-preserved c = kept-more c.args.header.now c.args.bytes.now c.args.out.now c.lines.place c.lines.rest.now c.lines.line c.lines.rows c.lines.out (c.in-Some.step, c.in-Some.after.now) c.keep-rows.result c.keep-rows.new.out
    c.requires.lawful c.lines.invariant (sym c.in-Some.ensures) c.keep-rows.ensures.count c.keep-rows.ensures.sized c.keep-rows.ensures.kept

pub returns-then-ends_here-clause-found : goal.returns-then-ends_here-clause-found
returns-then-ends_here-clause-found c =
    let k = c.lines.invariant in
    let e = c.ends_here.ensures.whole c.if-ends_here.true in
    (k.seen, finished c.args.header.now c.args.bytes.now c.lines.place c.lines.rest.now c.lines.line k.seen c.requires.lawful k.read e.0 e.1, k.number, k.kept)

pub returns-else-ends_here-clause-wrong : goal.returns-else-ends_here-clause-wrong
returns-else-ends_here-clause-wrong c =
    stopped c.args.header.now c.args.bytes.now c.lines.place c.lines.rest.now c.lines.line c.lines.invariant.seen c.requires.lawful c.lines.invariant.read (sym c.in_default.ensures) (c.ends_here.ensures.part c.if-ends_here.false)
