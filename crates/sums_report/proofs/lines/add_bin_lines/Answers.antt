-- Two lines, and then two more.
use Rattle.std.proofs.Common.{◌≡◌, ◌%◌, List, ℕ, ◌++◌, codes, map, refl, append_assoc, ◌∙◌}
use Rattle.glass_edges.specs.Writes.{HasPutFront}
use Rattle.glass_edges.proofs.Writing.{fronts-failed, fronts-placed, fronts-then}
use Rattle.measured_sums.specs.MeasuredSums.{moments, classes, axis_distances, face_distances}
use Rattle.measured_sums.specs.SumsText.{numbers_line}
use Rattle.plane_sums.specs.Bins.{sum_in}
use Rattle.plane_sums.specs.declared.epoch_bins.BinSums.{BinSums}
use Rattle.sums_report.specs.declared.lines.SumsPlace.{SumsPlace}
use Rattle.sums_report.proofs.lines.add_bin_lines.Goals as goal
use Rattle.sums_report.proofs.lines.add_bin_lines.Goals.{After-fill_moments}

abbrev first : BinSums → SumsPlace → List ℕ
first bin at = numbers_line (codes "sum") at.sample at.slot at.bin (map (sum_in bin (at.sample % 64)) moments)

abbrev second : BinSums → SumsPlace → List ℕ
second bin at = numbers_line (codes "hist") at.sample at.slot at.bin (map (sum_in bin (at.sample % 64)) classes)

abbrev third : BinSums → ℕ → SumsPlace → List ℕ
third bin l at = numbers_line (codes "axis") at.sample at.slot at.bin (map (sum_in bin (at.sample % 64)) (axis_distances l))

abbrev fourth : BinSums → ℕ → SumsPlace → List ℕ
fourth bin l at = numbers_line (codes "face") at.sample at.slot at.bin (map (sum_in bin (at.sample % 64)) (face_distances l))

grouped : (line a b c d : List ℕ) → line ++ (a ++ b ++ c ++ d) ≡ (line ++ (a ++ b)) ++ (c ++ d)
grouped line a b c d = simp append_assoc

two-added : (g : _) (c : After-fill_moments g)
    → HasPutFront g.O.Sink c.args.out.now c.make_room.new.out (c.args.line.now ++ (first c.args.bin.now c.args.place ++ second c.args.bin.now c.args.place)) c.fill_moments.new.line
two-added g c =
    fronts-placed (first c.args.bin.now c.args.place ++ second c.args.bin.now c.args.place) c.in_ok-make_room.ensures.written
    (c.fill_moments.ensures ∙ append_assoc c.make_room.new.self (first c.args.bin.now c.args.place) (second c.args.bin.now c.args.place)) refl

pub returns-in_err-make_room-2 : goal.returns-in_err-make_room-2
returns-in_err-make_room-2 g c =
    let at = (goal.at.returns-in_err-make_room-2 g c).After-fill_moments in
    let bin = c.args.bin.now in
    let l = c.args.size in
    let place = c.args.place in
    fronts-failed (third bin l place ++ fourth bin l place) c.from_residual-in_err-make_room-2.ensures.0
    (fronts-then (two-added g at) c.in_err-make_room-2.ensures.written)
    (grouped c.args.line.now (first bin place) (second bin place) (third bin l place) (fourth bin l place))

pub returns : goal.returns
returns g c =
    let at = (goal.at.returns g c).After-fill_moments in
    let bin = c.args.bin.now in
    let l = c.args.size in
    let place = c.args.place in
    fronts-placed (third bin l place ++ fourth bin l place) (fronts-then (two-added g at) c.in_ok-make_room-2.ensures.written)
    (c.fill_correlations.ensures ∙ append_assoc c.make_room-2.new.self (third bin l place) (fourth bin l place))
    (grouped c.args.line.now (first bin place) (second bin place) (third bin l place) (fourth bin l place))
