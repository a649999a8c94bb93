-- The sites at which the replicas agree are counted.
use Rattle.std.proofs.Common.{◌*◌, ◌∙◌, ap₂, sym}
use Rattle.std.specs.Prelude.{pos, ◌-ℤ◌}
use Rattle.plane_sweep.specs.Packed.{spins_of}
use Rattle.measured_sums.proofs.Planes.{total-overlap}
use Rattle.quenched_sums.proofs.fields.write_overlaps.Goals as goal

pub returns : goal.returns
returns c = λ b h.
    let l = c.args.lattice in
    c.write_excesses.ensures b h
    ∙ ap₂ (λ n m. pos (2 * n) -ℤ pos m) (c.agreeing.ensures.value l b c.requires.first h) c.sites-sites.ensures.value
    ∙ sym (total-overlap l (spins_of l b c.args.duo.now.first.planes) (spins_of l b c.args.duo.now.second.planes))
