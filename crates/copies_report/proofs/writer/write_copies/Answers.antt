-- What was put is a prefix of the text: of its lines, or of all of it.
use Rattle.std.proofs.Common.{ℕ, List, ◌++◌, ap, refl, sym, append-nil}
use Rattle.std.specs.Prelude.{codes, flat_map}
use Rattle.glass_edges.specs.Writes.{HasPutFront}
use Rattle.glass_edges.proofs.Writing.{fronts-added, fronts-broken, fronts-put, fronts-same, fronts-then}
use Rattle.spin_model.specs.Steps.{table}
use Rattle.quenched_states.specs.CrossText.{CrossHeading, cross_heading_line, cross_text, slots_lines}
use Rattle.plane_sweep.specs.declared.stand.Stand.{Stand}
use Rattle.copies_report.specs.States.{heading_of, states_fields}
use Rattle.copies_report.proofs.writer.write_copies.Goals as goal
use Rattle.copies_report.proofs.writer.write_copies.Goals.{In_ok-add_samples}

-- the lines between the first and the last
abbrev all : CrossHeading → List Stand → List Stand → List ℕ
all h first second = flat_map (slots_lines h (states_fields h.size first second)) (table (λ b. b) h.samples)

-- they are put, but for what is in the line, and an end is to follow
lines-put : (g : _) (c : In_ok-add_samples g)
    → HasPutFront g.O.Sink c.args.out.now c.add_samples.new.out ((cross_heading_line (heading_of c.args.head.now) ++ all (heading_of c.args.head.now) c.args.first.now c.args.second.now) ++ codes "end\n") (c.add_samples.new.line ++ codes "end\n")
lines-put g c =
    let lines = all (heading_of c.args.head.now) c.args.first.now c.args.second.now in
    fronts-added _ (fronts-same (ap (λ (xs : List ℕ). xs ++ lines) c.add_heading.ensures) c.in_ok-add_samples.ensures)

pub returns-in_err-add_samples : goal.returns-in_err-add_samples
unfolding cross_text
returns-in_err-add_samples g c =
    let lines = all (heading_of c.args.head.now) c.args.first.now c.args.second.now in
    fronts-broken (codes "end\n") c.from_residual.ensures.0 (fronts-same (ap (λ (xs : List ℕ). xs ++ lines) c.add_heading.ensures) c.in_err-add_samples.ensures) refl

pub returns-in_err-extend : goal.returns-in_err-extend
unfolding cross_text
returns-in_err-extend g c =
    let at = (goal.at.returns-in_err-extend g c).In_ok-add_samples in
    fronts-broken _ c.from_residual-in_err-extend.ensures.0 (fronts-then (lines-put g at) c.in_err-extend.ensures.written) (sym (append-nil _))

pub returns : goal.returns
unfolding cross_text
returns g c =
    let at = (goal.at.returns g c).In_ok-add_samples in
    fronts-put (fronts-then (lines-put g at) c.in_ok-extend.ensures.written) c.put.ensures.written
