-- The lines along x are those of the rows that are turned over.
use Rattle.std.proofs.Common.{◌%◌, ◌<◌, ap, ◌∙◌, arith}
use Rattle.std.proofs.lemmas.Nat.{mod_below}
use Rattle.spin_model.proofs.Counts.{count-same}
use Rattle.multispin_word.specs.Planes.{is_set}
use Rattle.plane_sums.specs.Counts.{count_at}
use Rattle.plane_sums.specs.Lines.{word_in}
use Rattle.plane_sums.proofs.Projecting.{line-set}
use Rattle.plane_sums.proofs.projections.Projections.project_plane.Goals as goal

pub returns-clause-along_x : goal.returns-clause-along_x
returns-clause-along_x c = λ k b h i.
    let size = c.args.size in
    let rest : k % size < size = mod_below k size (omega (arith, c.requires.lawful.0)) in
    ap (λ ps. count_at ps k b) (line-set c.args.self.now.along_x c.args.z c.sum_rows-2.new.total (omega (arith, c.requires.lines.x, c.requires.lawful.1)))
    ∙ c.sum_rows-2.ensures k b h i
    ∙ count-same (λ x. is_set (word_in c.turn.new.turned x (k % size)) b) (λ x. is_set (word_in c.args.sheet.now (k % size) x) b) size
    (λ x within. ap (λ w. is_set w b) (c.turn.ensures.words (k % size) x rest within))
