-- The checkpoint that a command reads, as a list of bytes: what the laws on checkpoints ask of it.
use Rattle.std.specs.Prelude.{ℕ, ◌<◌, List, slice_index, Option, Some, None, IfSome}
use Rattle.std.specs.FinMap as finmap
use Rattle.glass_edges.specs.Contents.{Files}
use Rattle.command_words.specs.CommandLine.{Command, Plain, Check, Run, Average, Demo, Lines, Potts, Age, Measure, Cross}

-- numbers below 256
abbrev pub AreBytes : List ℕ → Type 0
AreBytes bytes = (i : ℕ) → slice_index bytes i < 256

-- the file of a name is one of them, where it is observable
abbrev pub HasBytes : Option Files → List ℕ → Type 0
HasBytes held name = IfSome held (λ files. IfSome (finmap.get files name) AreBytes)

-- and so is the checkpoint that is named, where one is
abbrev pub ResumesBytes : Option (List ℕ) → Option Files → Type 0
ResumesBytes name held = IfSome name (HasBytes held)

-- that of a command: a run may go on from one, also one that is measured, `lines` prints of one, and `cross` of two
abbrev pub ReadsBytes : Option Command → Option Files → Type 0
ReadsBytes None held = Unit {0}
ReadsBytes (Some (Plain order)) held = Unit {0}
ReadsBytes (Some (Check name)) held = Unit {0}
ReadsBytes (Some (Run order)) held = ResumesBytes order.from held
ReadsBytes (Some (Average order)) held = Unit {0}
ReadsBytes (Some (Demo n)) held = Unit {0}
ReadsBytes (Some (Lines order)) held = HasBytes held order.checkpoint
ReadsBytes (Some (Potts order)) held = Unit {0}
ReadsBytes (Some (Age order)) held = Unit {0}
ReadsBytes (Some (Measure order)) held = ResumesBytes order.from held
ReadsBytes (Some (Cross order)) held = HasBytes held order.first × HasBytes held order.second
