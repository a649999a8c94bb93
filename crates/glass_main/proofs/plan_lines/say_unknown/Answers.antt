use Rattle.std.proofs.Common.{◌≡◌, ◌++◌, inl, codes, map, ap, ◌∙◌}
use Rattle.glass_edges.specs.Contents.{appended}
use Rattle.glass_main.specs.Lines.{printable}
use Rattle.glass_main.specs.Statuses.{Says}
use Rattle.glass_main.proofs.plan_lines.say_unknown.Goals as goal

pub returns-in-Ok : goal.returns-in-Ok
unfolding Says
returns-in-Ok g c =
    let front : c.add.new.self ≡ codes "glass: unknown key " = c.add.ensures ∙ ap (λ xs. xs ++ codes "glass: unknown key ") c.new-line.ensures in
    inl (
      c.in-Ok.ensures.whole
          ∙ ap (λ xs. appended (g.E.Sink.taken c.args.err.now) (xs ++ map printable c.as_bytes.result.now ++ codes "\n")) front
          ∙ ap (λ xs. appended (g.E.Sink.taken c.args.err.now) (codes "glass: unknown key " ++ map printable xs ++ codes "\n")) c.as_bytes.ensures.value,
      c.in-Ok.ensures.cause.passed,
    )
