-- Each sample's replica is traded, since its planes and its label are.
use Rattle.scalar_rule.proofs.PlaneSweeps.{written_over}
use Rattle.masked_swap.proofs.Trading.{copy-traded}
use Rattle.masked_swap.proofs.trade.exchange.Goals as goal

pub returns-clause-cold : goal.returns-clause-cold
returns-clause-cold c =
    let own = c.args.cold.now in
    let other = c.args.hot.now in
    let planes = c.swap_planes.new.cold in
    let traded = rw (c.as_mut_slice.ensures.value, c.as_mut_slice-2.ensures.value) at c.swap_planes.ensures.cold in
    let whole = written_over own.planes planes traded.sized in
    rw whole (λ l b h. copy-traded l c.args.mask b own other (record { planes = planes; labels = c.swap_labels.new.cold }) traded h (c.swap_labels.ensures.cold b h))

pub returns-clause-hot : goal.returns-clause-hot
returns-clause-hot c =
    let own = c.args.hot.now in
    let other = c.args.cold.now in
    let planes = c.swap_planes.new.hot in
    let traded = rw (c.as_mut_slice.ensures.value, c.as_mut_slice-2.ensures.value) at c.swap_planes.ensures.hot in
    let whole = written_over own.planes planes traded.sized in
    rw whole (λ l b h. copy-traded l c.args.mask b own other (record { planes = planes; labels = c.swap_labels.new.hot }) traded h (c.swap_labels.ensures.hot b h))
