use Rattle.std.proofs.Common.{ℕ, List, ◌++◌, take}
use Rattle.std.specs.List.{flat_map}
use Rattle.sha2.specs.Hashers.{Holds256}
use Rattle.run_plan.specs.CanonicalPlan.{pair_bytes}
use Rattle.run_plan.proofs.plan_digest.add_swaps.Given as goal

abbrev pub invariant-pairs : goal.invariant-pairs
invariant-pairs l = (m : List ℕ) → Holds256 l.fn.hasher m → Holds256 l.hasher (m ++ flat_map pair_bytes (take l.pair l.swaps))
