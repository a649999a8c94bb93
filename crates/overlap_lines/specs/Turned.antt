-- Words in the order of a plane's sites, turned by a number of places.
use Rattle.std.specs.Prelude.{◌≡◌, ℕ, ◌+◌, ◌%◌, ◌<◌, List, length, slice_index}

-- each word is the one so many places on, around the end
abbrev pub Turned : ℕ → List ℕ → List ℕ → Type 0
Turned step words out = (k : ℕ) → k < length words → slice_index out k ≡ slice_index words ((k + step) % length words)
