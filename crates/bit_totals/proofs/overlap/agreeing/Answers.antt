-- The sites of all places are all sites, of which there are at most 262144.
use Rattle.std.proofs.Common.{◌∙◌, arith}
use Rattle.plane_sweep.specs.Packed.{spins_of}
use Rattle.scalar_rule.specs.Neighbours.{spin, agree}
use Rattle.spin_model.specs.Lattice.{volume}
use Rattle.spin_model.proofs.Sites.{volume-bound}
use Rattle.spin_model.proofs.Counts.{count-most}
use Rattle.bit_totals.proofs.PlaceCounts.{all-agreeing, size-lawful}
use Rattle.bit_totals.proofs.overlap.agreeing.Goals as goal

pub total-requires : goal.total-requires
total-requires c = λ s h.
    let one = c.requires in
    let l = one.size in
    let a = spins_of l s c.args.a.now.planes in
    let b = spins_of l s c.args.b.now.planes in
    omega (arith, c.count_planes.ensures l s one.first h, all-agreeing l a b one.lawful, count-most (λ i. agree (spin a i) (spin b i)) (volume l), volume-bound l one.lawful)

pub returns-clause-value : goal.returns-clause-value
returns-clause-value c = λ l s f h.
    let a = spins_of l s c.args.a.now.planes in
    let b = spins_of l s c.args.b.now.planes in
    c.total.ensures s h ∙ c.count_planes.ensures l s f h ∙ all-agreeing l a b (size-lawful l c.args.a.now c.args.b.now f c.requires)

pub returns-clause-within : goal.returns-clause-within
returns-clause-within c = λ l s f h.
    let a = spins_of l s c.args.a.now.planes in
    let b = spins_of l s c.args.b.now.planes in
    let all = all-agreeing l a b (size-lawful l c.args.a.now c.args.b.now f c.requires) in
    omega (arith, c.total.ensures s h, c.count_planes.ensures l s f h, all, count-most (λ i. agree (spin a i) (spin b i)) (volume l))
