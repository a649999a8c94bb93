-- Each family meets the lines of one projection.
use Rattle.std.proofs.Common.{◌≡◌, rules, ◌∙◌}
use Rattle.plane_sums.specs.declared.totals.Turn.TheVariants as turns
use Rattle.plane_sums.specs.Lines.{along_x, along_y, along_z}
use Rattle.plane_sums.proofs.Projecting.{summed-across, summed-along}
use Rattle.plane_sums.proofs.families.sum_family.Goals as goal

pub returns-in-0 : goal.returns-in-0
returns-in-0 c = λ test known m b h i.
    let size = c.args.size in
    rw c.in-0.is (c.sum_across.ensures m b h i ∙ summed-across turns.Straight size (along_y size (test b)) c.args.lines.now.along_y b m h (λ o k within place. known.y o k b within place i))

pub returns-in-1 : goal.returns-in-1
returns-in-1 c = λ test known m b h i.
    let size = c.args.size in
    rw c.in-1.is (c.sum_across-in-1.ensures m b h i ∙ summed-across turns.Straight size (along_x size (test b)) c.args.lines.now.along_x b m h (λ o k within place. known.x o k b within place i))

pub returns-in-2 : goal.returns-in-2
returns-in-2 c = λ test known m b h i.
    let size = c.args.size in
    rw c.in-2.is (c.sum_along.ensures m b h i ∙ summed-along size (along_y size (test b)) c.args.lines.now.along_y b m h (λ o k within place. known.y o k b within place i))

pub returns-in-3 : goal.returns-in-3
returns-in-3 c = λ test known m b h i.
    let size = c.args.size in
    rw c.in-3.is (c.sum_across-in-3.ensures m b h i ∙ summed-across turns.Sum size (along_z size (test b)) c.args.lines.now.along_z b m h (λ o k within place. known.z o k b within place i))

pub returns-in-4 : goal.returns-in-4
returns-in-4 c = λ test known m b h i.
    let size = c.args.size in
    rw c.in-4.is (c.sum_across-in-4.ensures m b h i ∙ summed-across turns.Difference size (along_z size (test b)) c.args.lines.now.along_z b m h (λ o k within place. known.z o k b within place i))

pub returns-in-5 : goal.returns-in-5
returns-in-5 c = λ test known m b h i.
    let size = c.args.size in
    rw c.in-5.is (c.sum_across-in-5.ensures m b h i ∙ summed-across turns.Sum size (along_y size (test b)) c.args.lines.now.along_y b m h (λ o k within place. known.y o k b within place i))

pub returns-in-6 : goal.returns-in-6
returns-in-6 c = λ test known m b h i.
    let size = c.args.size in
    rw c.in-6.is (c.sum_across-in-6.ensures m b h i ∙ summed-across turns.Difference size (along_y size (test b)) c.args.lines.now.along_y b m h (λ o k within place. known.y o k b within place i))

pub returns-in-7 : goal.returns-in-7
returns-in-7 c = λ test known m b h i.
    let size = c.args.size in
    rw c.in-7.is (c.sum_across-in-7.ensures m b h i ∙ summed-across turns.Sum size (along_x size (test b)) c.args.lines.now.along_x b m h (λ o k within place. known.x o k b within place i))

pub returns-in_default : goal.returns-in_default
returns-in_default c = λ test known m b h i.
    let size = c.args.size in
    let last : c.args.family ≡ 8 = search (rules, c.in_default) in
    rw last (c.sum_across-in_default.ensures m b h i ∙ summed-across turns.Difference size (along_x size (test b)) c.args.lines.now.along_x b m h (λ o k within place. known.x o k b within place i))
