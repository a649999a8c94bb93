-- What room for the sums over planes always has, and the numbers that are read from it.
use Rattle.std.specs.Prelude.{ℕ, ◌≡◌, List, [], length, slice_index_or, ℤ, pos}
use Rattle.plane_sums.specs.declared.room.Planes3.TheInside as room
use Rattle.plane_sums.specs.Families.{HasRoom}
use Rattle.plane_sums.specs.Projected.{AreSheets}

pub record IsRoom (r : room.Inside) : Type 0 where
  pub lines : HasRoom r.lines
  pub sheets : AreSheets r.sheets
  pub totals : length r.totals ≡ 9

-- of numbers by family, plane and sample
abbrev pub number_in : List (List (List ℤ)) → ℕ → ℕ → ℕ → ℤ
number_in numbers f m b = slice_index_or (slice_index_or (slice_index_or numbers f []) m []) b (pos 0)
