use Rattle.sample_average.proofs.Fitting.{reading-fit}
use Rattle.sample_average.proofs.reading.tallied.Goals as goal

pub tally-requires-clause-rows : goal.tally-requires-clause-rows
tally-requires-clause-rows c = reading-fit c.args.bytes.now c.args.header.now c.args.rows.now c.requires.found
