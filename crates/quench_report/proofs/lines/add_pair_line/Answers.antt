-- The numbers that are held are those of both states.
use Rattle.std.proofs.Common.{List, ℕ, ◌++◌, ap, refl, ◌∙◌}
use Rattle.glass_edges.proofs.Writing.{fronts-placed}
use Rattle.quench_report.proofs.Shown.{pair-shown}
use Rattle.quench_report.proofs.lines.add_pair_line.Goals as goal

pub returns : goal.returns
returns g c = λ l field told.
    fronts-placed _ c.in_ok-make_room.ensures.written
    (c.fill_pair.ensures ∙ ap (λ (xs : List ℕ). c.make_room.new.self ++ xs) (pair-shown l c.args.waited c.args.place c.args.sums.now field told)) refl
