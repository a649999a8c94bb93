-- What was put is a prefix of the text: of its lines, or of all of it.
use Rattle.std.proofs.Common.{ℕ, List, ◌++◌, length, map, ap, refl, sym, append-nil}
use Rattle.std.specs.Arc.{arc_value}
use Rattle.std.specs.Prelude.{codes}
use Rattle.glass_edges.specs.Writes.{HasPutFront}
use Rattle.glass_edges.proofs.Writing.{fronts-added, fronts-broken, fronts-put, fronts-same, fronts-then}
use Rattle.scalar_rule.specs.Plan.{Plan}
use Rattle.plane_sweep.specs.declared.stand.Stand.{Stand}
use Rattle.quenched_states.specs.QuenchText.{QuenchHeading, lines_between, quench_heading_line, quench_text}
use Rattle.quench_report.specs.States.{heading_of, kept_fields, kept_seen}
use Rattle.quench_report.proofs.writer.write_quench.Goals as goal
use Rattle.quench_report.proofs.writer.write_quench.Goals.{In_ok-add_states}

-- the lines between the first and the last
abbrev all : QuenchHeading → List Plan → List (List Stand) → List ℕ
all h plans states = lines_between h (kept_seen h.size plans states) (kept_fields h.size states) h.held (length h.times)

-- they are put, but for what is in the line, and an end is to follow
lines-put : (g : _) (c : In_ok-add_states g)
    → HasPutFront g.O.Sink c.args.out.now c.add_states.new.out
    ((quench_heading_line (heading_of c.args.head.now) ++ all (heading_of c.args.head.now) (map arc_value c.args.plans.now) c.args.states.now) ++ codes "end\n")
    (c.add_states.new.line ++ codes "end\n")
lines-put g c =
    let lines = all (heading_of c.args.head.now) (map arc_value c.args.plans.now) c.args.states.now in
    fronts-added _ (fronts-same (ap (λ (xs : List ℕ). xs ++ lines) c.add_heading.ensures) c.in_ok-add_states.ensures.text)

pub returns-in_err-add_states-clause-text : goal.returns-in_err-add_states-clause-text
unfolding quench_text
returns-in_err-add_states-clause-text g c =
    let lines = all (heading_of c.args.head.now) (map arc_value c.args.plans.now) c.args.states.now in
    fronts-broken (codes "end\n") c.from_residual.ensures.0 (fronts-same (ap (λ (xs : List ℕ). xs ++ lines) c.add_heading.ensures) c.in_err-add_states.ensures.text) refl

pub returns-in_err-extend-clause-text : goal.returns-in_err-extend-clause-text
unfolding quench_text
returns-in_err-extend-clause-text g c =
    let at = (goal.at.returns-in_err-extend-clause-text g c).In_ok-add_states in
    fronts-broken _ c.from_residual-in_err-extend.ensures.0 (fronts-then (lines-put g at) c.in_err-extend.ensures.written) (sym (append-nil _))

pub returns-clause-text : goal.returns-clause-text
unfolding quench_text
returns-clause-text g c =
    let at = (goal.at.returns-clause-text g c).In_ok-add_states in
    fronts-put (fronts-then (lines-put g at) c.in_ok-extend.ensures.written) c.put.ensures.written
