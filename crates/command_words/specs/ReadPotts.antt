-- The order of `potts` as an order of the definitions, and the limits of its numbers.
use Rattle.std.specs.Prelude.{◌≤◌}
use Rattle.command_words.specs.PottsWords as model
use Rattle.command_words.specs.declared.potts_words.PottsOrder.{PottsOrder}

abbrev pub read_potts_order : PottsOrder → model.PottsOrder
read_potts_order order = record {
  size = order.lattice;
  sweeps = order.sweeps;
  seed = order.seed;
  samples = order.samples;
  couplings = order.couplings;
  start = order.start;
  thresholds = order.row.values;
}

-- 1 to 64 samples
pub record IsLawfulPotts (order : PottsOrder) : Type 0 where
  pub some : 1 ≤ order.samples
  pub few : order.samples ≤ 64
