-- The energy in the list is the sample's.
use Rattle.std.proofs.Common.{◌≡◌, get_or, refl, ap, ◌∙◌}
use Rattle.std.specs.Prelude.{pos}
use Rattle.glass_edges.proofs.Writing.{writes-more, writes-failed, writes-same}
use Rattle.spin_model.proofs.Tables.{get_or-table}
use Rattle.potts_glass.specs.PottsStates.{energy_of}
use Rattle.potts_glass.specs.PottsText.{energy_line}
use Rattle.potts_glass.proofs.report.put_sample.Goals as goal
use Rattle.potts_glass.proofs.report.put_sample.Goals.{After-put_energy}

-- so is its line
same : (g : _) (c : After-put_energy g) → energy_line c.args.sample (get_or c.args.energies.now c.args.sample (pos 0)) ≡ energy_line c.args.sample (energy_of c.args.potts.now c.args.sample)
same g c =
    let b = c.args.sample in
    ap (energy_line b) (ap (λ es. get_or es b (pos 0)) c.requires.energies ∙ get_or-table (energy_of c.args.potts.now) 64 b (pos 0) c.requires.sample)

pub returns-in_err-put_energy : goal.returns-in_err-put_energy
returns-in_err-put_energy g c =
    let at = (goal.at.returns-in_err-put_energy g c).After-put_energy in
    writes-failed _ c.from_residual.ensures.0 (writes-same (same g at) c.in_err-put_energy.ensures) refl

pub returns : goal.returns
returns g c =
    let at = (goal.at.returns g c).After-put_energy in
    writes-more (writes-same (same g at) c.in_ok-put_energy.ensures) c.put_colours.ensures refl
