-- Totals before anything is added.
use Rattle.std.specs.Prelude.{◌≡◌, ℕ, ◌<◌}
use Rattle.multispin_word.specs.Planes.{number}
use Rattle.multispin_word.specs.declared.planes.Planes.{Planes}

-- the number of every sample is 0
abbrev pub IsZero : Planes 20 → Type 0
IsZero total = (k : ℕ) → k < 64 → number total.words k ≡ 0
