-- After w planes each sample has the value modulo 2 ^ w.
use Rattle.std.proofs.Common.{◌≡◌, ℕ, ◌%◌, ◌^◌, ◌<◌, length}
use Rattle.multispin_word.specs.Planes.{first}
use Rattle.bit_compare.proofs.comparison.constant.Given as goal

abbrev pub invariant-planes : goal.invariant-planes
invariant-planes g l = record {
  long : length l.same.words ≡ g.row.W;
  number : (k : ℕ) → k < 64 → first l.same.words l.w k ≡ l.value % 2 ^ l.w;
}
