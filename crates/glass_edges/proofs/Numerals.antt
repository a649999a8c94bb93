-- Texts of decimal digits and their values, as the library's facts on numbers in text ask for them.
use Rattle.std.proofs.Common.{rules, ◌≡◌, true}
use Rattle.std.specs.Char.{is_ascii_digit}
use Rattle.std.specs.List.{fold, list_all}
use Rattle.std.proofs.lemmas.Str.Parse.{IsNumeralModel, numerals_by_fold}
use Rattle.glass_edges.specs.Decimal.{value_of, with_digit}

pub numerals : IsNumeralModel (λ ds. list_all is_ascii_digit ds ≡ true) value_of
numerals = numerals_by_fold _ (search rules) (λ n ds. fold with_digit n ds) (search rules)
