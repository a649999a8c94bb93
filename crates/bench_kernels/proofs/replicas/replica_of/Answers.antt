use Rattle.std.proofs.Common.{arith}
use Rattle.bit_totals.proofs.PlaceCounts.{planes-within}
use Rattle.bench_kernels.proofs.replicas.replica_of.Goals as goal

pub slice_bounds-plane_of-end : goal.slice_bounds-plane_of-end
slice_bounds-plane_of-end c =
    let size = c.size-size.ensures.value in
    let lawful = c.size-size.ensures.lawful in
    rw size (omega (arith, planes-within c.args.lattice.now c.planes.q lawful (omega arith), c.requires))
