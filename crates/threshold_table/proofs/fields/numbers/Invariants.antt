use Rattle.std.proofs.Common.{◌≡◌, ◌+◌, ◌++◌, length, take, drop, map}
use Rattle.std.specs.Prelude.{option_map}
use Rattle.threshold_table.specs.Pieces.{fields_left}
use Rattle.glass_edges.specs.Refusals.{first_found}
use Rattle.threshold_table.specs.TableText.{fields, field_refusal, field_value, record_values}
use Rattle.threshold_table.proofs.fields.numbers.Given as goal

abbrev pub invariant-fields : goal.invariant-fields
invariant-fields l = record {
  sized : length l.out ≡ length l.fn.out;
  number : l.field + length (fields_left (option_map (λ x. x.now) l.left)) ≡ length (fields l.line);
  refused : first_found (field_refusal l.at) l.field (fields_left (option_map (λ x. x.now) l.left)) ≡ first_found (field_refusal l.at) 0 (fields l.line);
  values : take l.field l.out ++ map field_value (fields_left (option_map (λ x. x.now) l.left)) ≡ record_values l.line;
  others : drop l.field l.out ≡ drop l.field l.fn.out;
}

abbrev pub decreases-fields : goal.decreases-fields
decreases-fields l = length (fields_left (option_map (λ x. x.now) l.left))
