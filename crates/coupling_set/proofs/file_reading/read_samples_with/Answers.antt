-- Each bond stands in a byte of its sample.
use Rattle.std.proofs.Common.{◌≡◌, ap, ◌∙◌, arith}
use Rattle.coupling_set.specs.CouplingsFile.{sample_bytes}
use Rattle.coupling_set.proofs.FileBytes.{bond_count-bytes}
use Rattle.coupling_set.proofs.file_reading.read_samples_with.Goals as goal

pub returns : goal.returns
returns c = λ b n small within.
    let l = c.args.lattice.now in
    let size = c.size.ensures.value in
    let bytes = bond_count-bytes l c.size.ensures.lawful in
    let stride : c.sample_bytes-k-end.result ≡ sample_bytes l = c.sample_bytes-k-end.ensures.value ∙ ap sample_bytes size in
    c.bytes.invariant.read b n small within (omega (arith, bytes, stride, c.bytes-test.false))
