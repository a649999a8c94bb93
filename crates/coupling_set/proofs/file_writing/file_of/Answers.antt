-- The pieces, one behind the other, and their digest.
use Rattle.std.proofs.Common.{ap, ◌∙◌}
use Rattle.sha2.specs.Sha256.{sha256}
use Rattle.coupling_set.proofs.FileGrown.{file_with-grown}
use Rattle.coupling_set.proofs.file_writing.file_of.Goals as goal

pub returns : goal.returns
returns c =
    file_with-grown c.args.size c.args.samples c.new-bytes.result.items c.extend_from_slice.new.self.items c.extend_from_slice-2.new.self.items
    c.extend_from_slice-3.new.self.items c.extend_from_slice-4.new.self.items c.extend_from_slice-5.new.self.items
    c.as_slice.result.now c.as_slice-2.result.now c.as_slice-3.result.now c.args.stored.now c.as_slice-5.result.now
    c.new-bytes.ensures.items c.in_ok-extend_from_slice.ensures.items c.in_ok-extend_from_slice-2.ensures.items c.in_ok-extend_from_slice-3.ensures.items
    c.in_ok-extend_from_slice-4.ensures.items c.in_ok-extend_from_slice-5.ensures.items
    c.as_slice.ensures (c.as_slice-2.ensures ∙ c.to_be_bytes.ensures) (c.as_slice-3.ensures ∙ c.to_be_bytes-2.ensures)
    (c.as_slice-5.ensures ∙ c.digest-digest.ensures ∙ ap sha256 c.as_slice-4.ensures.value)
