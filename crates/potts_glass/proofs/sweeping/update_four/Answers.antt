-- In each lane the packed update is each sample's.
use Rattle.std.proofs.Common.{◌≡◌, ℕ, ◌+◌, ◌*◌, ◌/◌, ◌<◌, [], get_or, slice_index, slice_index_or, ap, sym, ◌∙◌, refl, arith}
use Rattle.coupling_set.specs.CouplingWords.{bonds_of}
use Rattle.spin_model.specs.Lattice.{volume, site_at, place_in_plane}
use Rattle.spin_model.proofs.Sites.{site_at-below}
use Rattle.potts_glass.specs.Potts.{around, joint, neighbour, new_colour, step_of, updated}
use Rattle.potts_glass.specs.PackedColours.{colour_in, colours_of}
use Rattle.potts_glass.specs.PottsStates.{dynamics_on}
use Rattle.potts_glass.specs.SitesBeside.{renewed, seen_in, site_in}
use Rattle.potts_glass.proofs.NeighbourPlaces.{neighbour-below, place-site_at}
use Rattle.potts_glass.proofs.Sites.{colour-at, colours-written-four}
use Rattle.potts_glass.proofs.Sweeps.{AgreeAround, new_colour-same, four-draws, step-below}
use Rattle.potts_glass.proofs.sweeping.update_four.Goals as goal

pub returns-clause-colours : goal.returns-clause-colours
unfolding renewed
returns-clause-colours c = λ b h.
    let l = c.args.sweep.now.lattice.now in
    let sites = c.args.sites.now in
    let couplings = c.args.sweep.now.couplings.now in
    let values = c.args.sweep.now.row.now.values in
    let draws = c.args.draws.now in
    let x = c.args.at.0 in
    let y = c.args.at.1 in
    let z = c.args.at.2 in
    let s = c.size-half.result in
    let size = c.size-half.ensures.value in
    let old = colours_of l sites b in
    let d = dynamics_on l couplings values b in
    let drawn = λ (i m : ℕ). slice_index draws (2 * place_in_plane l i + m) in
    let first = c.site-first.result in
    let at : first ≡ site_at l x y z = c.site-first.ensures.value in
    let new = c.update_sites-new.result in
    let near = c.near_four-near.result in
    let negative = c.negative_four-negative.result in
    let row : y * (s / 2) ≡ y * (l / 2) = ap (λ n. y * (n / 2)) size in
    let place : (i : ℕ) → first + 2 * i ≡ site_at l (x + 2 * i) y z = λ i. omega (arith, at) in
    let column : (i : ℕ) → i < 4 → x + 2 * i < l = λ i lane. omega (arith, c.requires.x) in
    let inside : (i : ℕ) → i < 4 → site_at l (x + 2 * i) y z < volume l = λ i lane. site_at-below l (x + 2 * i) y z (column i lane) c.requires.y c.requires.z in
    let read : (i m : ℕ) → i < 4 → 2 * (y * (s / 2) + x / 2) + 2 * i + m ≡ 2 * place_in_plane l (site_at l (x + 2 * i) y z) + m =
    λ i m lane. omega (arith, row, place-site_at l (x + 2 * i) y z (column i lane) c.requires.y) in
    let draw : (i m : ℕ) → i < 4 → m < 2 → slice_index (slice_index_or c.four_draws.result m []) i ≡ drawn (site_at l (x + 2 * i) y z) m =
    λ i m lane two. c.four_draws.ensures i m lane two ∙ ap (slice_index draws) (read i m lane) in
    let lane : (i : ℕ) → i < 4 → colour_in (site_in new i) b ≡ updated d drawn old (site_at l (x + 2 * i) y z) = λ i four.
    let j = site_at l (x + 2 * i) y z in
    let sees = seen_in near negative i b in
    let view = around l (bonds_of couplings b) old j in
    let u = drawn j 0 in
    let v = drawn j 1 in
    let own : colour_in (site_in c.words_from-own.result i) b ≡ get_or old j 0 =
    c.words_from-own.ensures i b four ∙ ap (λ n. colour_in (get_or sites n []) b) (place i) ∙ sym (colour-at l sites b j (inside i four)) in
    let agree : AgreeAround sees view = record {
      colours = λ k six. c.near_four-near.ensures i k b four six ∙ sym (colour-at l sites b (neighbour l j k) (neighbour-below l (x + 2 * i) y z k (column i four) c.requires.y c.requires.z six));
      bonds = λ k six. c.negative_four-negative.ensures i k b four six ∙ ap (λ n. bonds_of couplings b (joint n (site_at n (x + 2 * i) y z) k)) (sym c.requires.size);
    } in
    c.update_sites-new.ensures i b (step_of (slice_index (slice_index_or c.four_draws.result 0 []) i)) four h (rw (draw i 0 four (omega arith)) (step-below u (c.type_inv.draws (2 * place_in_plane l j + 0)).fits)) (c.steps_of-steps.ensures i four)
    ∙ ap (λ n. new_colour values (step_of n) (slice_index (slice_index_or c.four_draws.result 1 []) i) sees (colour_in (site_in c.words_from-own.result i) b)) (draw i 0 four (omega arith))
    ∙ ap (λ n. new_colour values (step_of u) n sees (colour_in (site_in c.words_from-own.result i) b)) (draw i 1 four (omega arith))
    ∙ ap (new_colour values (step_of u) v sees) own
    ∙ new_colour-same values (step_of u) v sees view (get_or old j 0) agree in
    let within : (i : ℕ) → i < 4 → first + 2 * i < volume l = λ i four. rw (place i) (inside i four) in
    let zero : first + 0 ≡ first = omega arith in
    ap (λ t. colours_of l t b) c.put_from.ensures
    ∙ colours-written-four l sites b first (first + 2) (first + 4) (first + 6) _ _ _ _ c.requires.sites (rw zero at (within 0 (omega arith))) (within 1 (omega arith)) (within 2 (omega arith)) (within 3 (omega arith))
    ∙ rw (lane 0 (omega arith), lane 1 (omega arith), lane 2 (omega arith), lane 3 (omega arith), place 3, place 2, place 1, sym zero ∙ place 0) refl

pub four_draws-requires : goal.four_draws-requires
four_draws-requires c =
    let l = c.args.sweep.now.lattice.now in
    let lawful = c.size-half.ensures.lawful in
    let within = four-draws l c.args.at.1 (c.args.at.0 / 2) lawful c.requires.y (omega (arith, c.requires.x, lawful.2)) in
    rw c.size-half.ensures.value (omega (arith, within, c.requires.draws))
