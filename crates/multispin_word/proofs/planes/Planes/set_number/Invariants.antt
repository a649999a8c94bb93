-- After w planes the sample has the low w bits of the value; the others and the planes above are as
-- before.
use Rattle.std.proofs.Common.{◌≡◌, ℕ, ◌^◌, ◌%◌, ◌<◌, ◌≤◌, ◌==◌, false, length, get_or}
use Rattle.multispin_word.specs.Planes.{first}
use Rattle.multispin_word.proofs.planes.Planes.set_number.Given as goal

abbrev pub invariant-planes : goal.invariant-planes
invariant-planes g l = record {
  long : length l.self.words ≡ length l.fn.self.words;
  number : first l.self.words l.w l.sample ≡ l.value % 2 ^ l.w;
  others : (b : ℕ) → b < 64 → (b == l.sample) ≡ false
      → first l.self.words l.w b ≡ first l.fn.self.words l.w b;
  rest : (j : ℕ) → l.w ≤ j → get_or l.self.words j 0 ≡ get_or l.fn.self.words j 0;
}
