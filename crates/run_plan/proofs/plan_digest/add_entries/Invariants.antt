use Rattle.std.proofs.Common.{ℕ, List, ◌++◌, take}
use Rattle.std.specs.List.{flat_map}
use Rattle.sha2.specs.Hashers.{Holds256}
use Rattle.byteorder.specs.Endian.{big_bytes}
use Rattle.threshold_table.specs.Tables.{entries_of}
use Rattle.run_plan.proofs.plan_digest.add_entries.Given as goal

abbrev pub invariant-entries : goal.invariant-entries
invariant-entries l = (m : List ℕ) → Holds256 l.fn.hasher m → Holds256 l.hasher (m ++ flat_map (big_bytes 8) (take l.entry (entries_of l.swaps l.pair)))
