-- Sums of products of the planes' sums are the definitions' correlations, family by family.
use Rattle.std.proofs.Common.{◌∙◌, arith}
use Rattle.plane_sums.proofs.Distances.{axes-correlated, faces-correlated}
use Rattle.plane_sums.proofs.products.correlations.Goals as goal

pub returns-clause-axis : goal.returns-clause-axis
returns-clause-axis c = λ q known r b far h.
    let l = c.args.lattice in
    let same = c.size-size.ensures.value in
    let some = c.size-size.ensures.lawful.0 in
    let done = c.distances.invariant.axis_done r b (omega (arith, same)) h in
    rw same at done ∙ axes-correlated l c.args.numbers.now b (q b) r (omega arith) (λ f m within below. known f m b within below h)

pub returns-clause-face : goal.returns-clause-face
returns-clause-face c = λ q known r b far h.
    let l = c.args.lattice in
    let same = c.size-size.ensures.value in
    let some = c.size-size.ensures.lawful.0 in
    let done = c.distances.invariant.face_done r b (omega (arith, same)) h in
    rw same at done ∙ faces-correlated l c.args.numbers.now b (q b) r (omega arith) (λ f m within below. known f m b within below h)
