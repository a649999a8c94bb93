-- The overlaps of all samples at one time, from their agreeing sites.
use Rattle.std.specs.Prelude.{ℕ, ◌*◌, ℤ, pos, ◌-ℤ◌, List}
use Rattle.multispin_word.specs.Planes.{number}

-- of a sample, twice the agreeing sites less all sites
abbrev pub overlap_in : List ℕ → ℕ → ℕ → ℤ
overlap_in totals sites b = pos (2 * number totals b) -ℤ pos sites
