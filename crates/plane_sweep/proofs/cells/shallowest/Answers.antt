use Rattle.std.proofs.Common.{arith, rules, min, map, ◌∙◌, sym, ap, ap₂, ◌<◌, ◌≡◌, length}
use Rattle.std.proofs.lemmas.List.{length-map}
use Rattle.scalar_rule.specs.Positions.{least, done, position_in}
use Rattle.scalar_rule.proofs.Extremes.{least-zero, least-more}
use Rattle.plane_sweep.specs.Uneven.{position_of}
use Rattle.plane_sweep.proofs.LevelStands.{position-read}
use Rattle.plane_sweep.proofs.cells.shallowest.Goals as goal

pub places-init : goal.places-init
places-init c =
    c.done-shallowest.ensures ∙ (sym (ap done (position-read c.args.places.now 0 c.at.result.now c.requires.some c.at.ensures))
    ∙ sym (least-zero (λ k. done (position_in (map position_of c.args.places.now) k))))

pub places-preserved : goal.places-preserved
places-preserved c =
    let known : c.places.t < length c.args.places.now = search (rules, arith) in
    let at = position-read c.args.places.now c.places.t c.at-in-places.result.now known c.at-in-places.ensures in
    c.lesser-shallowest.ensures ∙ (ap₂ min c.places.invariant (c.done.ensures ∙ sym (ap done at)) ∙ sym (least-more (λ k. done (position_in (map position_of c.args.places.now) k)) c.places.t))

pub returns : goal.returns
returns c =
    let end : c.places.t ≡ length (map position_of c.args.places.now) = omega (arith, length-map c.args.places.now position_of) in
    c.places.invariant ∙ ap (least (λ k. done (position_in (map position_of c.args.places.now) k))) end
