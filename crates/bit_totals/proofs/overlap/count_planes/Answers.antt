-- Each list has ones alone, and a plane's words of them.
use Rattle.std.proofs.Common.{ℕ, ◌-◌, ◌^◌}
use Rattle.std.proofs.lemmas.List.{get_or-replicate}
use Rattle.bit_totals.proofs.PlaceCounts.{plane-room, size-lawful}
use Rattle.bit_totals.proofs.overlap.count_planes.Goals as goal

pub count_by-requires-clause-ones : goal.count_by-requires-clause-ones
count_by-requires-clause-ones c = λ j h. get_or-replicate {A = ℕ} 128 j (2 ^ 64 - 1) 0 h

pub count_by-requires-else-len-le32-clause-room : goal.count_by-requires-else-len-le32-clause-room
count_by-requires-else-len-le32-clause-room c = λ l f. plane-room l (size-lawful l c.args.a.now c.args.b.now f c.requires)

pub count_by-requires-else-len-le32-clause-ones : goal.count_by-requires-else-len-le32-clause-ones
count_by-requires-else-len-le32-clause-ones c = λ j h. get_or-replicate {A = ℕ} 2048 j (2 ^ 64 - 1) 0 h
