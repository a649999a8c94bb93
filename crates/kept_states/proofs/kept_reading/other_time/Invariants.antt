use Rattle.std.proofs.Common.{◌≡◌, drop}
use Rattle.glass_edges.specs.Refusals.{first_found}
use Rattle.kept_states.specs.Steps.{other_time_at, other_time}
use Rattle.kept_states.proofs.kept_reading.other_time.Given as goal

abbrev pub invariant-states : goal.invariant-states
invariant-states l = first_found (other_time_at l.times) l.j (drop l.j l.states) ≡ other_time l.times l.states
