use Rattle.std.proofs.Common.{rules, ◌≡◌, ◌-◌, ◌*◌, ◌/◌, ◌^◌, true, false, get_or, replicate, ap, sym, ◌∙◌}
use Rattle.std.proofs.lemmas.List.{get_or-replicate}
use Rattle.spin_model.specs.Words.{is_set}
use Rattle.spin_model.specs.Lattice.{volume, half_plane}
use Rattle.multispin_word.proofs.Bits.{is_set-ones}
use Rattle.plane_sweep.specs.Beginnings.{site_of}
use Rattle.plane_sweep.proofs.PlaneSites.{site_of-below}
use Rattle.plane_sweep.proofs.opening.words_up.Goals as goal

pub returns-clause-up : goal.returns-clause-up
returns-clause-up c = λ b k below within.
    let l = c.args.lattice.now in
    let i = site_of l c.args.colour c.args.z k in
    let up = get_or-replicate (volume l) i true false (site_of-below l c.args.colour c.args.z k c.size-size.ensures.lawful) in
    let ones = get_or-replicate (half_plane l) k (2 ^ 64 - 1) 0 within in
    let size : c.size-size.result * (c.size-size.result / 2) ≡ half_plane l = ap (λ n. n * (n / 2)) c.size-size.ensures.value in
    let made : c.in_ok-vec.field-0.items ≡ replicate (c.size-size.result * (c.size-size.result / 2)) (2 ^ 64 - 1) = search rules in
    let items : c.of.result ≡ replicate (half_plane l) (2 ^ 64 - 1) = c.of.ensures ∙ made ∙ ap (λ n. replicate n (2 ^ 64 - 1)) size in
    ap (λ words. is_set (get_or words k 0) b) items ∙ ap (λ w. is_set w b) ones ∙ is_set-ones b below ∙ sym up
