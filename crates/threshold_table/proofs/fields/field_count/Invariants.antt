use Rattle.std.proofs.Common.{◌≡◌, take}
use Rattle.std.specs.List.{count_by}
use Rattle.threshold_table.specs.TableText.{is_comma}
use Rattle.threshold_table.proofs.fields.field_count.Given as goal

abbrev pub invariant-bytes : goal.invariant-bytes
invariant-bytes l = l.commas ≡ count_by is_comma (take l.b-index l.line)
