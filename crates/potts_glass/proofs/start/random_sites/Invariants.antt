use Rattle.std.proofs.Common.{◌≡◌, ℕ, ◌*◌, ◌<◌, [], length, get_or}
use Rattle.spin_model.specs.Stream.{advanced}
use Rattle.potts_glass.specs.PackedColours.{colour_in}
use Rattle.potts_glass.specs.PottsStates.{random_colour}
use Rattle.potts_glass.proofs.start.random_sites.Given as goal

abbrev pub invariant-sites : goal.invariant-sites
invariant-sites l = record {
  moved : l.wheel ≡ advanced l.fn.wheel (4 * l.counter);
  count : length l.sites.items ≡ l.counter;
  colours : (b i : ℕ) → b < 64 → i < l.counter → colour_in (get_or l.sites.items i []) b ≡ random_colour l.fn.wheel b i;
}
