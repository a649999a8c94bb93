-- The numbers that are held are those of the state.
use Rattle.std.proofs.Common.{List, ℕ, ◌++◌, ap, refl, ◌∙◌}
use Rattle.glass_edges.proofs.Writing.{fronts-placed}
use Rattle.quench_report.proofs.Shown.{state-shown}
use Rattle.quench_report.proofs.lines.add_state_line.Goals as goal

pub returns : goal.returns
returns g c = λ seen told.
    fronts-placed _ c.in_ok-make_room.ensures.written
    (c.fill_state.ensures ∙ ap (λ (xs : List ℕ). c.make_room.new.self ++ xs) (state-shown c.args.lattice c.args.place c.args.sums.now seen told)) refl
