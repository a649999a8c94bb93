use Rattle.std.specs.Prelude.{All}
use Rattle.std.proofs.Common.{◌≡◌, ℕ, ◌<◌, length}
use Rattle.scalar_rule.specs.Plan.{slots_of, pairs_of}
use Rattle.scalar_rule.proofs.PairTurns.{Exchanging}
use Rattle.plane_sweep.specs.Packed.{ArePairGenerators}
use Rattle.measured_run.specs.Cells.{slots_in, pairs_in, sums_in, FitCells, AreCounted}
use Rattle.measured_run.proofs.exchanging.exchange_pairs.Given as goal

abbrev pub invariant-turns : goal.invariant-turns
invariant-turns l = record {
  slots : (b : ℕ) → b < 64 → Exchanging l.plan b l.epoch (pairs_in l.fn.pairs) (slots_in l.plan.size b l.fn.cells) (pairs_in l.pairs) (slots_in l.plan.size b l.cells) l.pair;
  count : length l.cells ≡ slots_of l.plan;
  pairs : length l.pairs ≡ pairs_of l.plan;
  fits : FitCells l.plan l.cells;
  wheels : All ArePairGenerators l.pairs;
  sums : sums_in l.cells ≡ sums_in l.fn.cells;
  counted : AreCounted l.plan l.epoch l.pair l.cells;
}
