-- One position more.
use Rattle.std.proofs.Common.{ap, ◌∙◌, drop, ◌*◌, arith}
use Rattle.run_checkpoint.specs.UnevenDecoding.{place_in, places_in}
use Rattle.run_checkpoint.proofs.Items.{filled-none, filled-more, filled-all}
use Rattle.run_checkpoint.proofs.reading.fill_places.Goals as goal

pub places-init : goal.places-init
places-init c = filled-none _ _

pub places-preserved : goal.places-preserved
places-preserved c =
    let count = c.requires.count in
    filled-more (λ i. place_in (drop (9 * i) c.args.bytes.now)) c.places.t c.args.places.now c.places.places c.place_of.result (omega arith) c.places.invariant
    (c.place_of.ensures ∙ ap place_in c.behind.ensures.value)

pub returns : goal.returns
unfolding places_in
returns c = filled-all _ c.places.t c.args.count c.args.places.now c.places.places c.places.invariant c.requires.count (omega arith)
