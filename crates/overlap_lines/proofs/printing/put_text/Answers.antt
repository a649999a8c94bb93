-- What was put is a prefix of the text: of its lines, or of all of it.
use Rattle.std.proofs.Common.{ℕ, List, ◌++◌, ap, sym, append-nil}
use Rattle.std.specs.Prelude.{codes}
use Rattle.glass_edges.specs.Writes.{HasPutFront}
use Rattle.glass_edges.proofs.Writing.{fronts-added, fronts-broken, fronts-put, fronts-same, fronts-then}
use Rattle.overlap_lines.specs.LineText.{header_line}
use Rattle.overlap_lines.specs.CountedText.{counted_samples, counted_text}
use Rattle.overlap_lines.proofs.printing.put_text.Goals as goal
use Rattle.overlap_lines.proofs.printing.put_text.Goals.{In_ok-add_samples}

-- the lines are put, but for what is in the line, and an end is to follow
lines-put : (g : _) (c : In_ok-add_samples g)
    → HasPutFront g.O.Sink c.args.out.now c.add_samples.new.out ((header_line c.args.plan.now c.args.samples c.args.epoch ++ counted_samples c.args.plan.now c.args.counts.now c.args.samples) ++ codes "end\n") (c.add_samples.new.line ++ codes "end\n")
lines-put g c =
    let lines = counted_samples c.args.plan.now c.args.counts.now c.args.samples in
    fronts-added _ (fronts-same (ap (λ (xs : List ℕ). xs ++ lines) c.add_header.ensures) c.in_ok-add_samples.ensures)

pub returns-in_err-extend : goal.returns-in_err-extend
unfolding counted_text
returns-in_err-extend g c =
    let at = (goal.at.returns-in_err-extend g c).In_ok-add_samples in
    fronts-broken _ c.from_residual-in_err-extend.ensures.0 (fronts-then (lines-put g at) c.in_err-extend.ensures.written) (sym (append-nil _))

pub returns : goal.returns
unfolding counted_text
returns g c =
    let at = (goal.at.returns g c).In_ok-add_samples in
    fronts-put (fronts-then (lines-put g at) c.in_ok-extend.ensures.written) c.put.ensures.written
