-- Even columns of a row have one colour, odd ones the other.
use Rattle.std.proofs.Common.{length-set, ◌∙◌, arith}
use Rattle.spin_model.specs.Lattice.{site_at}
use Rattle.plane_sums.specs.Lines.{agrees}
use Rattle.plane_sums.proofs.Shown.{rows-more, row-agrees}
use Rattle.plane_sums.proofs.agreement.fill.Goals as goal

pub rows-preserved : goal.rows-preserved
rows-preserved c =
    let l = c.args.size in
    let z = c.args.z in
    let a = c.args.first.now.planes in
    let b = c.args.second.now.planes in
    record {
      long = length-set c.rows.rows c.rows.y c.fill_row.new.row ∙ c.rows.invariant.long;
      shown = rows-more (λ s y x. agrees l a b s (site_at l x y z)) l c.rows.y c.rows.rows c.fill_row.new.row (omega (arith, c.rows.invariant.long))
          c.rows.invariant.shown
          (row-agrees l a b c.fill_row.new.row c.row_of.result.now c.row_of-in-rows.result.now c.row_of-in-rows-2.result.now c.row_of-in-rows-3.result.now c.rows.y z
          (c.requires.lawful.2) (omega arith) c.requires.z
          (λ k s below. c.fill_row.ensures.even k s (omega (arith, c.row_of.ensures.long)))
          (λ k s below. c.fill_row.ensures.odd k s (omega (arith, c.row_of.ensures.long)))
          c.row_of.ensures.words c.row_of-in-rows.ensures.words c.row_of-in-rows-2.ensures.words c.row_of-in-rows-3.ensures.words);
    }
