-- The rows so far have their couplings, and each generator has given their draws.
use Rattle.std.proofs.Common.{◌≡◌, ℕ, ◌*◌, ◌<◌, [], length, get_or}
use Rattle.coupling_set.specs.CouplingWords.{bonds_of}
use Rattle.coupling_set.specs.KeptWords.{kept_on}
use Rattle.spin_model.specs.Stream.{advanced, draw}
use Rattle.spin_model.specs.Words.{is_set}
use Rattle.coupling_set.proofs.drawing.draw_rows.Given as goal

abbrev pub invariant-rows : goal.invariant-rows
invariant-rows l = record {
  samples : length l.wheels ≡ 64;
  moved : (b : ℕ) → b < 64 → get_or l.wheels b [] ≡ advanced (get_or l.fn.wheels b []) (3 * l.lattice * l.r);
  drawn : (b n : ℕ) → b < 64 → n < 3 * l.lattice * l.r
      → bonds_of (kept_on l.lattice l.words) b n ≡ is_set (draw (get_or l.fn.wheels b []) n) 31;
}
