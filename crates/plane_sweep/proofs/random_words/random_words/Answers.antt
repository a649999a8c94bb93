use Rattle.std.proofs.Common.{rules, ◌≡◌, ◌+◌, ◌*◌, ◌/◌, ◌%◌, ◌<◌, length, ap, ◌∙◌, arith}
use Rattle.std.proofs.lemmas.Nat.{mod_below, mul-lt}
use Rattle.std.proofs.lemmas.Result.{IfOk-weaker}
use Rattle.spin_model.specs.Words.{is_set}
use Rattle.plane_sweep.specs.Beginnings.{site_of}
use Rattle.plane_sweep.proofs.BeginningPlanes.{get_or-draws}
use Rattle.plane_sweep.proofs.random_words.random_words.Goals as goal

pub returns-clause-bits : goal.returns-clause-bits
returns-clause-bits c =
    let l = c.args.lattice.now in
    let long : length c.fill.new.out ≡ 2 * (l * l) = search rules in
    let some : 0 < l * l = mul-lt 0 0 l l (omega (arith, c.size.ensures.lawful)) (omega (arith, c.size.ensures.lawful)) in
    IfOk-weaker c.words_by.result _ _ (λ words same b k below within.
    let site = mod_below (site_of l c.args.colour c.args.z k) (l * l) some in
    same b k below within
    ∙ ap (λ w. is_set w (b % 32)) (get_or-draws c.args.wheel.now c.fill.new.out _ (2 * (site_of l c.args.colour c.args.z k % (l * l)) + b / 32) c.fill.ensures.drawn (omega arith)))
    c.words_by.ensures.bits
