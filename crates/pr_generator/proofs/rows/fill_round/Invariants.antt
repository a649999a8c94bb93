use Rattle.std.proofs.Common.{◌≡◌, ◌*◌, [], take, get_or}
use Rattle.spin_model.specs.Stream.{advanced, draws}
use Rattle.pr_generator.specs.Rows.{state_of, from_row, AreRows}
use Rattle.pr_generator.proofs.rows.fill_round.Given as goal

abbrev pub invariant-turns : goal.invariant-turns
invariant-turns l = record {
  rows : AreRows l.rows;
  old : l.old ≡ get_or (from_row l.k l.rows) 0 [];
  far : l.far ≡ get_or (from_row l.k l.rows) 1 [];
  moved : state_of (from_row l.k l.rows) ≡ advanced (state_of l.fn.rows) (8 * l.k);
  drawn : take (8 * l.k) l.out ≡ draws (state_of l.fn.rows) (8 * l.k);
}
