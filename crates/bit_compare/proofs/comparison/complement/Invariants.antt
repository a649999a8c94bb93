-- After w planes each sample in the word has what its number in the first w planes lacks.
use Rattle.std.proofs.Common.{◌≡◌, ℕ, ◌-◌, ◌^◌, ◌<◌, if◌then◌else◌, length}
use Rattle.multispin_word.specs.Planes.{is_set, first}
use Rattle.bit_compare.proofs.comparison.complement.Given as goal

abbrev pub invariant-planes : goal.invariant-planes
invariant-planes g l = record {
  long : length l.lacking.words ≡ g.row.W;
  number : (k : ℕ) → k < 64
      → first l.lacking.words l.w k ≡ (if is_set l.samples k then 2 ^ l.w - 1 - first l.numbers l.w k else 0);
}
