-- What was put before is put, and of the next part a prefix.
use Rattle.std.proofs.Common.{ℕ, refl, ap}
use Rattle.glass_edges.specs.Writes.{HasPut}
use Rattle.glass_edges.proofs.Writing.{writes-more, writes-stopped, writes-same}
use Rattle.potts_glass.specs.PottsText.{header_line}
use Rattle.potts_glass.proofs.report.write_potts.Goals as goal
use Rattle.potts_glass.proofs.report.write_potts.Goals.{In_ok-put_header}

-- the first line has the size of the couplings
first : (g : _) (c : In_ok-put_header g) → HasPut g.O.Sink c.args.out.now c.put_header.new.out (header_line c.args.potts.now.couplings.size c.args.sweeps c.args.seed c.args.samples)
first g c = writes-same (ap (λ (l : ℕ). header_line l c.args.sweeps c.args.seed c.args.samples) c.size.ensures.value) c.in_ok-put_header.ensures

pub returns-in_err-put_samples : goal.returns-in_err-put_samples
returns-in_err-put_samples g c =
    let at = (goal.at.returns-in_err-put_samples g c).In_ok-put_header in
    writes-stopped _ c.from_residual-in_err-put_samples.ensures.0 (first g at) c.in_err-put_samples.ensures refl

pub returns : goal.returns
returns g c =
    let at = (goal.at.returns g c).In_ok-put_header in
    writes-more (writes-more (first g at) c.in_ok-put_samples.ensures refl) c.put_all.ensures.written refl
