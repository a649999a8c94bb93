-- The bonds at both ends of which the replicas agree or both differ are counted.
use Rattle.std.proofs.Common.{◌*◌, ◌∙◌, ap, ap₂, sym}
use Rattle.std.specs.Prelude.{pos, ◌-ℤ◌}
use Rattle.plane_sweep.specs.Packed.{spins_of}
use Rattle.plane_sums.proofs.Links.{links-counted}
use Rattle.quenched_sums.proofs.fields.write_links.Goals as goal

pub returns : goal.returns
returns c = λ b h.
    let l = c.args.lattice in
    c.write_excesses.ensures b h
    ∙ ap₂ (λ n m. pos (2 * n) -ℤ pos m) (c.agreeing_bonds.ensures.value b h) (ap (λ v. 3 * v) c.sites-bonds.ensures.value)
    ∙ sym (links-counted l (spins_of l b c.args.duo.now.first.planes) (spins_of l b c.args.duo.now.second.planes))
