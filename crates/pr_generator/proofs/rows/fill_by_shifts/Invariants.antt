use Rattle.std.proofs.Common.{◌≡◌, ◌*◌, [], ◌∷◌, take}
use Rattle.spin_model.specs.Stream.{advanced, draws}
use Rattle.pr_generator.specs.Rows.{state_of, AreRows}
use Rattle.pr_generator.proofs.rows.fill_by_shifts.Given as goal

abbrev pub invariant-turns : goal.invariant-turns
invariant-turns l = record {
  rows : AreRows (l.a ∷ l.b ∷ l.c ∷ l.d ∷ l.e ∷ l.f ∷ l.g ∷ l.h ∷ []);
  moved : state_of (l.a ∷ l.b ∷ l.c ∷ l.d ∷ l.e ∷ l.f ∷ l.g ∷ l.h ∷ []) ≡ advanced (state_of l.fn.rows) (8 * l.i);
  drawn : take (8 * l.i) l.out ≡ draws (state_of l.fn.rows) (8 * l.i);
}
