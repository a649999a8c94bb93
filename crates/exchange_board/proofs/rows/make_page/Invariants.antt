-- The records of the first b samples are made.
use Rattle.std.proofs.Common.{◌≡◌, ℕ, ◌<◌, length}
use Rattle.scalar_rule.specs.Epoch.{record_of}
use Rattle.plane_sweep.specs.Packed.{part_slot}
use Rattle.exchange_board.specs.Content.{record_at}
use Rattle.exchange_board.proofs.rows.make_page.Given as goal

abbrev pub invariant-samples : goal.invariant-samples
invariant-samples l = record {
  sized : length l.page ≡ 64;
  made : (k : ℕ) → k < l.b → record_at l.page k ≡ record_of l.plan k (part_slot l.plan.size k l.duo);
}
