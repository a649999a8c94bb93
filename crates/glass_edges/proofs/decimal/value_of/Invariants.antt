use Rattle.std.proofs.Common.{◌≡◌, ◌<◌, ◌^◌, take}
use Rattle.glass_edges.specs.Decimal.{value_of}
use Rattle.glass_edges.proofs.decimal.value_of.Given as goal

abbrev pub invariant-digits : goal.invariant-digits
invariant-digits l = record {
  small : l.value < 10 ^ l.b-index;
  told : l.value ≡ value_of (take l.b-index l.digits);
}
