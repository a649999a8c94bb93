use Rattle.std.proofs.Common.{ℕ, List, ◌++◌, take}
use Rattle.std.specs.List.{flat_map}
use Rattle.sha2.specs.Hashers.{Holds256}
use Rattle.spin_model.specs.Words.{words_64}
use Rattle.run_plan.proofs.plan_digest.add_rules.Given as goal

abbrev pub invariant-slots : goal.invariant-slots
invariant-slots l = (m : List ℕ) → Holds256 l.fn.hasher m → Holds256 l.hasher (m ++ flat_map words_64 (take l.slot l.rules.rows))
