-- The samples so far have their bits, and their generators have given the draws; the other generators stand where they did.
use Rattle.std.proofs.Common.{◌≡◌, ℕ, ◌<◌, ◌≤◌, [], length, get_or}
use Rattle.spin_model.specs.Stream.{advanced, draw}
use Rattle.spin_model.specs.Words.{is_set}
use Rattle.coupling_set.proofs.drawing.next_row.Given as goal

abbrev pub invariant-samples : goal.invariant-samples
invariant-samples l = record {
  samples : length l.wheels ≡ 64;
  moved : (s : ℕ) → s < l.b → get_or l.wheels s [] ≡ advanced (get_or l.fn.wheels s []) (length l.fn.draws);
  still : (s : ℕ) → l.b ≤ s → get_or l.wheels s [] ≡ get_or l.fn.wheels s [];
  bits : (s k : ℕ) → s < l.b → k < length l.fn.draws → is_set (get_or l.row k 0) s ≡ is_set (draw (get_or l.fn.wheels s []) k) 31;
}
