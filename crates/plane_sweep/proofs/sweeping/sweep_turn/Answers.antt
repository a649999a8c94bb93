use Rattle.std.proofs.Common.{take, drop, ap, ◌∙◌, arith}
use Rattle.std.proofs.lemmas.List.{get_or_default}
use Rattle.plane_sweep.proofs.BothColours.{halves, turn-ahead, turn-behind}
use Rattle.plane_sweep.proofs.sweeping.sweep_turn.Goals as goal

pub returns-then-sites-eq0 : goal.returns-then-sites-eq0
returns-then-sites-eq0 g c =
    let sites = c.args.sites.now in
    let planes = c.args.planes.now in
    let is_front = c.split_at_mut-first.ensures.front ∙ ap (λ n. take n planes) c.side_of.ensures.value in
    let is_back = c.split_at_mut-first.ensures.back ∙ ap (λ n. drop n planes) c.side_of.ensures.value in
    let long = (halves sites.couplings.now.size planes _ _ c.requires.planes is_front is_back).front_long in
    turn-ahead sites.couplings.now sites.rule.now sites.colour sites.z planes _ _ _ c.sweep_plane.new.plane (omega arith) c.requires.planes c.requires.plane is_front is_back
    (get_or_default _ sites.z c.index-first-z.result _ (omega arith)) c.sweep_plane.ensures

pub returns-else-sites-eq0 : goal.returns-else-sites-eq0
returns-else-sites-eq0 g c =
    let sites = c.args.sites.now in
    let planes = c.args.planes.now in
    let is_front = c.split_at_mut-first.ensures.front ∙ ap (λ n. take n planes) c.side_of.ensures.value in
    let is_back = c.split_at_mut-first.ensures.back ∙ ap (λ n. drop n planes) c.side_of.ensures.value in
    let long = (halves sites.couplings.now.size planes _ _ c.requires.planes is_front is_back).back_long in
    turn-behind sites.couplings.now sites.rule.now sites.colour sites.z planes _ _ _ c.sweep_plane-else-sites-eq0.new.plane (omega arith) c.requires.planes c.requires.plane is_front is_back
    (get_or_default _ sites.z c.index-second-z.result _ (omega arith)) c.sweep_plane-else-sites-eq0.ensures
