use Rattle.std.proofs.Common.{ℕ, List, ◌++◌, take}
use Rattle.std.specs.List.{flat_map}
use Rattle.sha2.specs.Hashers.{Holds256}
use Rattle.byteorder.specs.Endian.{big_bytes}
use Rattle.run_plan.specs.CanonicalPlan.{bond_words}
use Rattle.run_plan.proofs.plan_digest.add_couplings.Given as goal

abbrev pub invariant-bonds : goal.invariant-bonds
invariant-bonds l = (m : List ℕ) → Holds256 l.fn.hasher m → Holds256 l.hasher (m ++ flat_map (big_bytes 8) (take l.bond (bond_words l.couplings)))
