use Rattle.std.proofs.Common.{◌++◌, ap}
use Rattle.glass_edges.proofs.Writing.{fronts-same, fronts-put}
use Rattle.aging_run.specs.Aging.{time_lines}
use Rattle.aging_run.specs.Measuring.{overlap_in}
use Rattle.aging_run.proofs.writing.write_time.Goals as goal

pub returns : goal.returns
returns g c =
    let rows = time_lines c.args.measured.now.place.slot c.args.measured.now.place.copy c.args.measured.now.time (overlap_in c.args.measured.now.agreeing.now.words c.args.measured.now.sites) c.args.samples in
    fronts-put (fronts-same (ap (λ xs. xs ++ rows) c.new-line.ensures) c.in_ok-add_time.ensures) c.put.ensures.written
