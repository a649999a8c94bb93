use Rattle.std.proofs.Common.{length, drop, take, ap, sym, ◌∙◌, arith}
use Rattle.std.proofs.lemmas.List.{take_all}
use Rattle.pr_generator.specs.Rows.{state_of}
use Rattle.pr_generator.proofs.RowTurns.{length-state_of}
use Rattle.pr_generator.proofs.wheel.Wheel.words.Goals as goal

pub returns-clause-state : goal.returns-clause-state
returns-clause-state c =
    let sized = length-state_of c.self.inside.rows c.self.invariant in
    c.copy_from_slice.ensures.after
    ∙ ap (λ v. take 61 (drop 3 v)) c.write_rows.ensures
    ∙ take_all 61 (state_of c.self.inside.rows) (omega arith)
    ∙ c.self.view_is

pub returns-clause-sized : goal.returns-clause-sized
returns-clause-sized c = ap length (sym c.self.view_is) ∙ length-state_of c.self.inside.rows c.self.invariant
