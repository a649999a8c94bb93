use Rattle.std.proofs.Common.{◌≡◌, ℕ, ◌<◌, [], length, get_or}
use Rattle.potts_glass.specs.PackedColours.{colour_in}
use Rattle.potts_glass.proofs.start.zero_sites.Given as goal

abbrev pub invariant-sites : goal.invariant-sites
invariant-sites l = record {
  count : length l.sites.items ≡ l.counter;
  colours : (b i : ℕ) → i < l.counter → colour_in (get_or l.sites.items i []) b ≡ 0;
}
