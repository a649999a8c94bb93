use Rattle.std.proofs.Common.{rules, arith, refl}
use Rattle.sample_average.proofs.Fitting.{reading-fit}
use Rattle.sample_average.proofs.ReadReports.{averages-found}
use Rattle.sample_average.proofs.reading.read_report.Goals as goal

pub invariant_of-result : goal.invariant_of-result
invariant_of-result c = record {
  lawful = c.in_ok-found.ensures.lawful;
  some = c.requires.some;
  few = c.in_ok-found.ensures.enough;
  short = omega (arith, c.in_ok-rows.ensures.count, c.in_ok-found.ensures.few, c.requires.limit);
  fit = reading-fit c.args.bytes.now c.in_ok-found.found.header c.in_ok-rows.rows c.in_ok-rows.ensures.rows;
  slots = omega (arith, c.in_ok-totals.ensures.sized);
  cells = c.in_ok-parts.ensures.sized;
  totals_told = search rules;
  parts_told = search rules;
}

pub returns-clause-gives : goal.returns-clause-gives
returns-clause-gives c = averages-found c.args.bytes.now c.args.blocks (record { header = c.in_ok-found.found.header; rows = c.in_ok-rows.rows; blocks = c.args.blocks }) c.in_ok-rows.ensures.rows refl c.in_ok-found.ensures.enough
