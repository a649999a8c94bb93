use Rattle.std.proofs.Common.{◌≡◌, ◌*◌, take}
use Rattle.spin_model.specs.Stream.{advanced, draws}
use Rattle.pr_generator.specs.Rows.{state_of, AreRows}
use Rattle.pr_generator.proofs.rows.fill_rows.Given as goal

abbrev pub invariant-rounds : goal.invariant-rounds
invariant-rounds l = record {
  rows : AreRows l.rows;
  moved : state_of l.rows ≡ advanced (state_of l.fn.rows) (64 * l.i);
  drawn : take (64 * l.i) l.out ≡ draws (state_of l.fn.rows) (64 * l.i);
}
