-- Two planes more are projected and stacked.
use Rattle.std.proofs.Common.{◌≡◌, ◌+◌, ◌*◌, ◌%◌, ◌<◌, ap, ap₂, sym, ◌∙◌, arith}
use Rattle.std.proofs.lemmas.Nat.{mod_below}
use Rattle.spin_model.specs.Lattice.{site_at}
use Rattle.spin_model.specs.Steps.{count_below}
use Rattle.spin_model.proofs.Tables.{count_below-zero}
use Rattle.spin_model.proofs.Counts.{count-most}
use Rattle.multispin_word.specs.Planes.{is_set, one_if}
use Rattle.plane_sums.specs.Counts.{count_at, line_at}
use Rattle.plane_sums.specs.Lines.{agrees, word_in}
use Rattle.plane_sums.proofs.Projecting.{count-two, nothing-projected, projected-more, same-lines}
use Rattle.plane_sums.proofs.projections.Projections.project.Goals as goal

pub pairs-init : goal.pairs-init
pairs-init c =
    let size = c.args.size in
    let test = agrees size c.args.first.now.planes c.args.second.now.planes in
    record {
      room = record { x = c.requires.lines.x; y = c.requires.lines.y; z = c.clear_lines.ensures.long };
      sheets = c.requires.sheets;
      projected = nothing-projected size test _;
      stacked = λ y x b h i j. c.clear_lines.ensures.clear y x b h i ∙ sym (count_below-zero (λ z. test b (site_at size x y z)));
    }

pub add_pair-requires-clause-room : goal.add_pair-requires-clause-room
add_pair-requires-clause-room c = λ y x b h i j.
    let size = c.args.size in
    let test = agrees size c.args.first.now.planes c.args.second.now.planes in
    let same = ap (λ ls. count_at (line_at ls y) x b) (c.project_plane-in-pairs.ensures.along_z ∙ c.project_plane.ensures.along_z) in
    omega (arith, same, c.requires.lawful.1, c.pairs.invariant.stacked y x b h i j, count-most (λ z. test b (site_at size x y z)) (2 * c.pairs.pair))

pub pairs-preserved : goal.pairs-preserved
pairs-preserved c =
    let size = c.args.size in
    let p = c.pairs.pair in
    let test = agrees size c.args.first.now.planes c.args.second.now.planes in
    let even = c.requires.lawful.2 in
    let first = c.project_plane.ensures in
    let second = c.project_plane-in-pairs.ensures in
    let one = projected-more size test (2 * p) c.project_plane.new.self c.fill.new.rows (omega (arith, c.requires.lawful.0)) (first.before test c.pairs.invariant.projected) c.fill.ensures.shown first.along_x first.along_y in
    let two = projected-more size test (2 * p + 1) c.project_plane-in-pairs.new.self c.fill-in-pairs.new.rows (omega (arith, c.requires.lawful.0)) (second.before test one) c.fill-in-pairs.ensures.shown second.along_x second.along_y in
    let next : 2 * p + 1 + 1 ≡ 2 * (p + 1) = omega arith in
    record {
      room = record { x = second.room.x; y = second.room.y; z = c.add_pair.ensures.long };
      sheets = record { front = c.fill.ensures.long; back = c.fill-in-pairs.ensures.long; turned = second.turned };
      projected = same-lines size test (2 * (p + 1)) _ _ (rw next at two);
      stacked = λ y x b h i j.
          c.add_pair.ensures.sum y x b h i j
          ∙ ap (λ n. n + one_if (is_set (word_in c.fill.new.rows y x) b) + one_if (is_set (word_in c.fill-in-pairs.new.rows y x) b))
          (ap (λ ls. count_at (line_at ls y) x b) (second.along_z ∙ first.along_z) ∙ c.pairs.invariant.stacked y x b h i j)
          ∙ ap₂ (λ v w. count_below (λ z. test b (site_at size x y z)) (2 * p) + one_if v + one_if w) (c.fill.ensures.shown y x b h i j) (c.fill-in-pairs.ensures.shown y x b h i j)
          ∙ sym (count-two (λ z. test b (site_at size x y z)) (2 * p) (2 * (p + 1)) (omega arith));
    }

pub returns-clause-lines : goal.returns-clause-lines
returns-clause-lines c =
    let size = c.args.size in
    let even = c.requires.lawful.2 in
    let some : 0 < size = omega (arith, c.requires.lawful.0) in
    let all : 2 * c.pairs.pair ≡ size = omega arith in
    let known = rw all at c.pairs.invariant.projected in
    record {
      x = known.x;
      y = known.y;
      z = λ y k b h i j. c.double_lines.ensures.doubled y k b h i ∙ rw all at (c.pairs.invariant.stacked y (k % size) b h (mod_below k size some) j);
    }
