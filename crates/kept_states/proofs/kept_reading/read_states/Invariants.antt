use Rattle.std.proofs.Common.{map}
use Rattle.std.specs.Arc.{arc_value}
use Rattle.kept_states.specs.Steps.{AreReadTo}
use Rattle.quenched_states.specs.KeptTests.{state_bytes}
use Rattle.spin_model.specs.Steps.{table}
use Rattle.kept_states.proofs.kept_reading.read_states.Given as goal

abbrev pub invariant-states : goal.invariant-states
invariant-states l = AreReadTo (map arc_value l.plans) (table (state_bytes l.level l.bytes) l.count) l.j l.states.items
