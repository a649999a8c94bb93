-- What was put is a prefix of the text: of its lines, or of all of it.
use Rattle.std.proofs.Common.{◌≡◌, ℕ, List, ◌++◌, ap, append_assoc}
use Rattle.std.specs.Prelude.{codes, decimal, flat_map}
use Rattle.glass_edges.specs.Writes.{HasPutFront}
use Rattle.glass_edges.proofs.Writing.{fronts-broken, fronts-placed, fronts-put, fronts-same, fronts-then}
use Rattle.spin_model.specs.Steps.{table}
use Rattle.measured_sums.specs.SumsText.{heading_line, sample_sums, sums_text}
use Rattle.sums_report.specs.HeldSums.{heading_of, held_sums}
use Rattle.sums_report.proofs.writer.write_sums.Goals as goal
use Rattle.sums_report.proofs.writer.write_sums.Goals.{In_ok-add_samples}

-- the last line
abbrev end : ℕ → List ℕ
end to = codes "end," ++ decimal to ++ codes "\n"

-- it stands behind the others
grouped : (lines : List ℕ) (to : ℕ) → lines ++ codes "end," ++ decimal to ++ codes "\n" ≡ lines ++ end to
grouped lines to = simp append_assoc

-- the lines are put, but for what is in the line
lines-put : (g : _) (c : In_ok-add_samples g)
    → HasPutFront g.O.Sink c.args.out.now c.add_samples.new.out (heading_line (heading_of c.args.head.now) ++ flat_map (sample_sums (heading_of c.args.head.now) (held_sums c.args.banks.now)) (table (λ b. b) c.args.head.now.samples)) c.add_samples.new.line
lines-put g c =
    let lines = flat_map (sample_sums (heading_of c.args.head.now) (held_sums c.args.banks.now)) (table (λ b. b) c.args.head.now.samples) in
    fronts-same (ap (λ (xs : List ℕ). xs ++ lines) c.add_heading.ensures) c.in_ok-add_samples.ensures

pub returns-in_err-add_samples : goal.returns-in_err-add_samples
unfolding sums_text
returns-in_err-add_samples g c =
    let lines = flat_map (sample_sums (heading_of c.args.head.now) (held_sums c.args.banks.now)) (table (λ b. b) c.args.head.now.samples) in
    fronts-broken (end c.args.head.now.to) c.from_residual.ensures.0 (fronts-same (ap (λ (xs : List ℕ). xs ++ lines) c.add_heading.ensures) c.in_err-add_samples.ensures)
    (grouped (heading_line (heading_of c.args.head.now) ++ lines) c.args.head.now.to)

pub returns-in_err-make_room : goal.returns-in_err-make_room
unfolding sums_text
returns-in_err-make_room g c =
    let at = (goal.at.returns-in_err-make_room g c).In_ok-add_samples in
    fronts-broken (end c.args.head.now.to) c.from_residual-in_err-make_room.ensures.0 (fronts-then (lines-put g at) c.in_err-make_room.ensures.written) (grouped _ c.args.head.now.to)

pub returns : goal.returns
unfolding sums_text
returns g c =
    let at = (goal.at.returns g c).In_ok-add_samples in
    fronts-put (fronts-placed (end c.args.head.now.to) (fronts-then (lines-put g at) c.in_ok-make_room.ensures.written) c.add_end.ensures (grouped _ c.args.head.now.to)) c.put.ensures.written
