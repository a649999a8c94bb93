use Rattle.std.proofs.Common.{rules, ◌≡◌, length, ap, sym, ◌∙◌}
use Rattle.std.proofs.lemmas.List.{nil_from_length}
use Rattle.spin_model.specs.Stream.{advanced, draw, draws}
use Rattle.spin_model.proofs.Streams.{advanced-zero}
use Rattle.spin_model.proofs.Tables.{table-zero}
use Rattle.pr_generator.specs.Rows.{state_of}
use Rattle.pr_generator.proofs.rows.fill_last.Goals as goal

pub returns-then-is_empty-clause-moved : goal.returns-then-is_empty-clause-moved
returns-then-is_empty-clause-moved c =
    let none : length c.args.out.now ≡ 0 = search rules in
    sym (ap (advanced (state_of c.args.rows.now)) none ∙ advanced-zero (state_of c.args.rows.now))

pub returns-then-is_empty-clause-drawn : goal.returns-then-is_empty-clause-drawn
returns-then-is_empty-clause-drawn c =
    let none : length c.args.out.now ≡ 0 = search rules in
    nil_from_length c.args.out.now none ∙ sym (ap (draws (state_of c.args.rows.now)) none ∙ table-zero (draw (state_of c.args.rows.now)))
