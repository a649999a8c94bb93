use Rattle.std.proofs.Common.{◌≡◌, drop}
use Rattle.glass_edges.specs.Refusals.{first_found}
use Rattle.toml.specs.View.{members_view}
use Rattle.run_plan.specs.RunFile.{key_refusal}
use Rattle.run_plan.proofs.lawful.refuse_keys.Given as goal

abbrev pub invariant-keys : goal.invariant-keys
invariant-keys l =
    first_found (λ _ key. key_refusal (members_view l.table.entries) key) l.key-index (drop l.key-index l.key-items)
    ≡ first_found (λ _ key. key_refusal (members_view l.table.entries) key) 0 l.key-items
