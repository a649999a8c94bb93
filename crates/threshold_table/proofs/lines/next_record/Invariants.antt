use Rattle.std.proofs.Common.{◌≡◌, ◌≤◌, length}
use Rattle.threshold_table.specs.TableText.{records}
use Rattle.threshold_table.proofs.lines.next_record.Given as goal

abbrev pub invariant-lines : goal.invariant-lines
invariant-lines l = record {
  same : records l.rest ≡ records l.text;
  within : length l.rest ≤ length l.text;
}

abbrev pub decreases-lines : goal.decreases-lines
decreases-lines l = length l.rest
