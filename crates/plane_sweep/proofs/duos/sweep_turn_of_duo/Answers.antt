use Rattle.std.proofs.Common.{take, drop, ap, ◌∙◌, arith}
use Rattle.std.proofs.lemmas.List.{get_or_default}
use Rattle.plane_sweep.proofs.BothColours.{halves, turn-ahead, turn-behind}
use Rattle.plane_sweep.proofs.duos.sweep_turn_of_duo.Goals as goal

pub returns-then-sites-eq0-clause-first : goal.returns-then-sites-eq0-clause-first
returns-then-sites-eq0-clause-first g c =
    let sites = c.args.sites.now in
    let planes = c.args.first.now in
    let is_front = c.split_at_mut-first_ahead.ensures.front ∙ ap (λ n. take n planes) c.side_of-size.ensures.value in
    let is_back = c.split_at_mut-first_ahead.ensures.back ∙ ap (λ n. drop n planes) c.side_of-size.ensures.value in
    let long = (halves sites.couplings.now.size planes _ _ c.requires.first is_front is_back).front_long in
    turn-ahead sites.couplings.now sites.rule.now sites.colour sites.z planes _ _ _ c.sweep_plane.new.first (omega arith) c.requires.first c.requires.plane is_front is_back
    (get_or_default _ sites.z c.index-first_ahead-z.result _ (omega arith)) c.sweep_plane.ensures.first

pub returns-then-sites-eq0-clause-second : goal.returns-then-sites-eq0-clause-second
returns-then-sites-eq0-clause-second g c =
    let sites = c.args.sites.now in
    let planes = c.args.second.now in
    let is_front = c.split_at_mut-second_ahead.ensures.front ∙ ap (λ n. take n planes) c.side_of-size.ensures.value in
    let is_back = c.split_at_mut-second_ahead.ensures.back ∙ ap (λ n. drop n planes) c.side_of-size.ensures.value in
    let long = (halves sites.couplings.now.size planes _ _ c.requires.second is_front is_back).front_long in
    turn-ahead sites.couplings.now sites.rule.now sites.colour sites.z planes _ _ _ c.sweep_plane.new.second (omega arith) c.requires.second c.requires.plane is_front is_back
    (get_or_default _ sites.z c.index-second_ahead-z.result _ (omega arith)) c.sweep_plane.ensures.second

pub returns-else-sites-eq0-clause-first : goal.returns-else-sites-eq0-clause-first
returns-else-sites-eq0-clause-first g c =
    let sites = c.args.sites.now in
    let planes = c.args.first.now in
    let is_front = c.split_at_mut-first_ahead.ensures.front ∙ ap (λ n. take n planes) c.side_of-size.ensures.value in
    let is_back = c.split_at_mut-first_ahead.ensures.back ∙ ap (λ n. drop n planes) c.side_of-size.ensures.value in
    let long = (halves sites.couplings.now.size planes _ _ c.requires.first is_front is_back).back_long in
    turn-behind sites.couplings.now sites.rule.now sites.colour sites.z planes _ _ _ c.sweep_plane-else-sites-eq0.new.first (omega arith) c.requires.first c.requires.plane is_front is_back
    (get_or_default _ sites.z c.index-first_behind-z.result _ (omega arith)) c.sweep_plane-else-sites-eq0.ensures.first

pub returns-else-sites-eq0-clause-second : goal.returns-else-sites-eq0-clause-second
returns-else-sites-eq0-clause-second g c =
    let sites = c.args.sites.now in
    let planes = c.args.second.now in
    let is_front = c.split_at_mut-second_ahead.ensures.front ∙ ap (λ n. take n planes) c.side_of-size.ensures.value in
    let is_back = c.split_at_mut-second_ahead.ensures.back ∙ ap (λ n. drop n planes) c.side_of-size.ensures.value in
    let long = (halves sites.couplings.now.size planes _ _ c.requires.second is_front is_back).back_long in
    turn-behind sites.couplings.now sites.rule.now sites.colour sites.z planes _ _ _ c.sweep_plane-else-sites-eq0.new.second (omega arith) c.requires.second c.requires.plane is_front is_back
    (get_or_default _ sites.z c.index-second_behind-z.result _ (omega arith)) c.sweep_plane-else-sites-eq0.ensures.second
