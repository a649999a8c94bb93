-- The numbers so far are added.
use Rattle.std.proofs.Common.{◌≡◌, ◌+◌, ◌*◌, ◌≤◌, ◌++◌, length, take, codes, flat_map}
use Rattle.std.specs.Fmt.{signed_decimal}
use Rattle.copies_report.proofs.lines.fill_values.Given as goal

abbrev pub invariant-numbers : goal.invariant-numbers
invariant-numbers l = record {
  text : l.line ≡ l.fn.line ++ flat_map (λ number. codes "," ++ signed_decimal number) (take l.number-index l.numbers);
  short : length l.line ≤ length l.fn.line + 21 * l.number-index;
}
