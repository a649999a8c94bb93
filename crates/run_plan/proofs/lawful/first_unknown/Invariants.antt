use Rattle.std.proofs.Common.{◌≡◌}
use Rattle.toml.specs.View.{members_view}
use Rattle.run_plan.specs.RunFile.{first_unknown}
use Rattle.run_plan.proofs.lawful.first_unknown.Given as goal

abbrev pub invariant-members : goal.invariant-members
invariant-members l =
    (goal.iterator-members).can_next l.text-iterator × (goal.iterator-members).is_finite l.text-iterator
    × (first_unknown (members_view l.text-iterator) ≡ first_unknown (members_view l.table.entries))
