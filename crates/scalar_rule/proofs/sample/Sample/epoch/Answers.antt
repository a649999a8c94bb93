use Rattle.std.proofs.Common.{length, ap, ◌∙◌}
use Rattle.spin_model.proofs.Tables.{length-table}
use Rattle.scalar_rule.proofs.sample.Sample.epoch.Goals as goal

pub returns-clause-fits : goal.returns-clause-fits
returns-clause-fits c = record {
  sample = c.requires.fits.sample;
  slots = c.exchange_pairs.ensures.fits;
  pairs = ap length c.exchange_pairs.ensures.pairs ∙ length-table _ _;
}
