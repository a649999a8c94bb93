use Rattle.std.proofs.Common.{◌≡◌, ℕ, ◌+◌, take, drop, ap, subst, ◌∙◌, arith}
use Rattle.std.proofs.lemmas.List.{get_or_default}
use Rattle.spin_model.specs.Lattice.{half_plane}
use Rattle.plane_sweep.proofs.BothColours.{halves, turn-behind}
use Rattle.bit_totals.specs.RowBonds.{plane_count}
use Rattle.bit_totals.specs.Tallies.{tallied}
use Rattle.bit_totals.proofs.DuoCounts.{behind-counted}
use Rattle.bit_totals.proofs.duo_sweep.sweep_behind.Goals as goal

pub returns-clause-swept : goal.returns-clause-swept
returns-clause-swept g c =
    let sites = c.args.sites.now in
    let planes = c.args.planes.now in
    let is_front = c.split_at_mut-ahead.ensures.front ∙ ap (λ n. take n planes) c.side_of.ensures.value in
    let is_back = c.split_at_mut-ahead.ensures.back ∙ ap (λ n. drop n planes) c.side_of.ensures.value in
    let long = (halves sites.couplings.now.size planes _ _ c.requires.planes is_front is_back).back_long in
    turn-behind sites.couplings.now sites.rule.now sites.colour sites.z planes _ _ _ c.sweep_plane_counted.new.plane c.requires.colour c.requires.planes c.requires.plane is_front is_back
    (get_or_default _ sites.z c.index-behind-sites.result _ (omega arith)) c.sweep_plane_counted.ensures.swept

pub returns-clause-counted : goal.returns-clause-counted
returns-clause-counted g c =
    let sites = c.args.sites.now in
    let couplings = sites.couplings.now in
    let planes = c.args.planes.now in
    let is_front = c.split_at_mut-ahead.ensures.front ∙ ap (λ n. take n planes) c.side_of.ensures.value in
    let is_back = c.split_at_mut-ahead.ensures.back ∙ ap (λ n. drop n planes) c.side_of.ensures.value in
    let two = halves couplings.size planes _ _ c.requires.planes is_front is_back in
    let long = two.back_long in
    let plane = c.sweep_plane_counted.new.plane in
    record {
      ahead = λ zero. absurd (omega (arith, c.requires.colour));
      behind = λ one b h.
          let S : ℕ → Type 0 = λ i. tallied c.sweep_plane_counted.new.counts b ≡ tallied c.args.tally.now.rows b + plane_count couplings c.split_at_mut-ahead.result.0.now i sites.z plane.words b (half_plane couplings.size) in
          subst S one (c.sweep_plane_counted.ensures.counted b h)
          ∙ ap (λ n. tallied c.args.tally.now.rows b + n) (behind-counted couplings sites.z b _ _ plane two.front_long (omega arith));
    }
