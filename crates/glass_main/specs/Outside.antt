-- An output and a store of files at one moment, as far as they are observable.
use Rattle.std.specs.Prelude.{ℕ, List, Option}
use Rattle.glass_edges.specs.Contents.{Files}
use Rattle.glass_edges.specs.declared.shelf.Shelf.{Ghosts as Shelf}
use Rattle.glass_edges.specs.declared.sink.Sink.{Ghosts as Sink}

-- what an output has taken, and how often it has failed
pub record Output : Type 0 where
  pub taken : Option (List ℕ)
  pub faults : ℕ

-- what a store holds, how often it has failed, and the length that it tells of a name's file within a limit, where it says that
-- beforehand
pub record Store : Type 0 where
  pub holds : Option Files
  pub faults : ℕ
  pub lengths : List ℕ → ℕ → Option ℕ

-- an output, by what its trait says of it
abbrev pub output : {S : Type 0} → Sink S → S → Output
output sink s = record { taken = sink.taken s; faults = sink.faults s }

-- a store, by what its trait says of it
abbrev pub store : {S : Type 0} → Shelf S → S → Store
store shelf s = record { holds = shelf.holds s; faults = shelf.faults s; lengths = shelf.lengths s }
