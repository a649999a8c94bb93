-- The text of the packed state is that of the opening states.
use Rattle.std.proofs.Common.{take}
use Rattle.glass_edges.proofs.Writing.{writes-same}
use Rattle.scalar_rule.specs.Opening.{opening}
use Rattle.glass_main.proofs.age.put_aging.Goals as goal

pub returns : goal.returns
returns g c =
    let planned = c.args.planned.now in
    let order = c.args.order.now in
    let same = c.text_is_of_the_states.ensures planned.plan (opening planned.plan planned.orders.start 0) c.args.aging planned.orders.samples order.wait (take order.count order.values)
    c.requires.opening c.requires.orders.few_samples in
    writes-same same c.write_aging.ensures
