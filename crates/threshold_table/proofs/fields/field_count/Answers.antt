use Rattle.std.proofs.Common.{refl}
use Rattle.std.proofs.lemmas.List.{take_all}
use Rattle.threshold_table.proofs.Cuts.{fields-length}
use Rattle.threshold_table.proofs.fields.field_count.Goals as goal

pub returns : goal.returns
returns c = rw (c.bytes.invariant, take_all c.bytes.b-index c.args.line.now c.bytes-test.false, fields-length) refl
