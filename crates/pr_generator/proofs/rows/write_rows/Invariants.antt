use Rattle.std.proofs.Common.{◌≡◌, ◌*◌, take}
use Rattle.pr_generator.specs.Rows.{joined}
use Rattle.pr_generator.proofs.rows.write_rows.Given as goal

abbrev pub invariant-each : goal.invariant-each
invariant-each l = take (8 * l.q) l.out ≡ joined (take l.q l.rows)
