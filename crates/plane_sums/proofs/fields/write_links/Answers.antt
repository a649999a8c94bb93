-- The bonds whose ends agree are counted.
use Rattle.std.proofs.Common.{◌*◌, ◌∙◌, ap, ap₂, sym}
use Rattle.std.specs.Prelude.{pos, ◌-ℤ◌}
use Rattle.plane_sweep.specs.Packed.{spins_of}
use Rattle.plane_sums.proofs.Links.{links-counted}
use Rattle.plane_sums.proofs.fields.write_links.Goals as goal

pub returns : goal.returns
returns c = λ b h.
    let l = c.args.lattice in
    let first = spins_of l b c.args.first.now.planes in
    let second = spins_of l b c.args.second.now.planes in
    let all = ap (λ v. 3 * v) c.sites-bonds.ensures.value in
    c.write_excesses.ensures b h
    ∙ ap₂ (λ n m. pos (2 * n) -ℤ pos m) (c.agreeing_bonds_between.ensures.value b h) all
    ∙ sym (links-counted l first second)
