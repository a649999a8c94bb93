use Rattle.std.proofs.Common.{◌≡◌, ◌+◌, ◌≤◌, ◌++◌, length, take, map}
use Rattle.glass_edges.specs.Refusals.{first_found}
use Rattle.threshold_table.specs.TableText.{records, record_refusal, record_values}
use Rattle.threshold_table.proofs.rows.rows_in.Given as goal

abbrev pub invariant-records : goal.invariant-records
invariant-records l = record {
  within : l.at + length l.rest ≤ length l.text;
  number : l.at + length (records l.rest) ≡ length (records l.text);
  refused : first_found (record_refusal l.width) l.at (records l.rest) ≡ first_found (record_refusal l.width) 0 (records l.text);
  short : length l.rows.items ≤ l.height.most;
  values : take l.height.most (l.rows.items ++ map record_values (records l.rest)) ≡ take l.height.most (map record_values (records l.text));
}

abbrev pub decreases-records : goal.decreases-records
decreases-records l = length l.rest
