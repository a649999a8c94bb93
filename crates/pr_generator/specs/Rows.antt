-- Eight rows of eight words: three words that are past, and then the 61 of a state, oldest first.
use Rattle.std.specs.Prelude.{ℕ, ◌≡◌, ◌++◌, List, length, take, drop, flat_map, All}

abbrev pub joined : List (List ℕ) → List ℕ
joined rows = flat_map (λ row. row) rows

abbrev pub state_of : List (List ℕ) → List ℕ
state_of rows = drop 3 (joined rows)

-- the rows from a place on, and then those before it
abbrev pub from_row : ℕ → List (List ℕ) → List (List ℕ)
from_row place rows = drop place rows ++ take place rows

pub record AreRows (rows : List (List ℕ)) : Type 0 where
  pub sized : length rows ≡ 8
  pub eight : All (λ row. length row ≡ 8) rows
