-- One pair more.
use Rattle.std.proofs.Common.{ap, ◌∙◌, drop, ◌*◌, ◌-◌, arith}
use Rattle.run_checkpoint.specs.Reading.{items_at, pair_in, pairs_in}
use Rattle.run_checkpoint.proofs.Items.{filled-none, filled-more, filled-all}
use Rattle.run_checkpoint.proofs.reading.fill_pairs.Goals as goal

pub pairs-init : goal.pairs-init
pairs-init c = filled-none _ _

pub pairs-preserved : goal.pairs-preserved
pairs-preserved c =
    let count = c.requires.count in
    filled-more (λ i. pair_in (drop (488 * i) c.behind-rest.result.now)) c.pairs.k c.args.pairs.now c.pairs.pairs c.pair_of.result (omega arith) c.pairs.invariant
    (c.pair_of.ensures ∙ ap pair_in c.behind.ensures.value)

pub returns : goal.returns
unfolding pairs_in
returns c =
    filled-all _ c.pairs.k (c.args.count - 1) c.args.pairs.now c.pairs.pairs c.pairs.invariant c.requires.count (omega arith)
    ∙ ap (items_at pair_in 488 (c.args.count - 1)) (c.behind-rest.ensures.value ∙ ap (λ n. drop (n * c.args.count) c.args.bytes.now) c.slot_len.ensures.value)
