-- The bytes that an output took.
use Rattle.std.specs.Prelude.{ℕ, List, [], ◌∷◌, ◌++◌}
use Rattle.glass_edges.specs.declared.taken_bytes.TakenBytes.{TakenBytes, fold-TakenBytes}
use Rattle.glass_edges.specs.declared.taken_bytes.TakenBytes.TheOpen.{TakenBytes-F}

-- the bytes of one value, where those of the snapshot in it are known
abbrev pub bytes_step : TakenBytes-F (List ℕ) → List ℕ
bytes_step TakenBytes-F.Nothing = []
bytes_step (TakenBytes-F.Byte before byte) = before.value ++ byte ∷ []

-- all of them, in their order
abbrev pub bytes_of : TakenBytes → List ℕ
bytes_of = fold-TakenBytes (List ℕ) bytes_step
