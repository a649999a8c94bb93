-- What std reads from digits is their value, and nothing where that is too great.
use Rattle.std.proofs.Common.{arith, ◌≡◌, ℕ, ◌≤◌, ◌^◌, true, List, length, inl, inr, sym, subst}
use Rattle.std.specs.Prelude.{Result, Ok, Err, IfSome, IfNone}
use Rattle.std.specs.Char.{is_ascii_digit}
use Rattle.std.specs.List.{list_all}
use Rattle.std.specs.Result.{result_ok}
use Rattle.std.specs.Str.Parse.{ParsesUnsigned}
use Rattle.std.proofs.lemmas.Bool.{cases_lt}
use Rattle.std.proofs.lemmas.Str.Parse.{parse_digits}
use Rattle.glass_edges.specs.Decimal.{value_of}
use Rattle.glass_edges.proofs.Numerals.{numerals}
use Rattle.command_words.proofs.words.value_of.Goals as goal

read-value : {E : Type 0} (digits : List ℕ) (r : Result ℕ E) → ParsesUnsigned 64 10 digits r → list_all is_ascii_digit digits ≡ true
    → IfSome (result_ok r) (λ value. value ≡ value_of digits)
read-value {E} digits (Ok x) read all = (parse_digits numerals {E = E} 64 digits (Ok x) read all).1
read-value digits (Err e) read all = tt

read-great : {E : Type 0} (digits : List ℕ) (r : Result ℕ E) → ParsesUnsigned 64 10 digits r → 1 ≤ length digits → list_all is_ascii_digit digits ≡ true
    → IfNone (result_ok r) (2 ^ 64 ≤ value_of digits)
read-great digits (Ok x) read some all = tt
read-great {E} digits (Err e) read some all =
    elim (cases_lt (value_of digits) (2 ^ 64)) [
      | inl less ↦ absurd (parse_digits numerals {E = E} 64 digits (Err e) read all (omega (arith, some), less))
      | inr not ↦ not
    ]

pub returns-clause-value : goal.returns-clause-value
returns-clause-value c = subst (λ o. IfSome o (λ value. value ≡ value_of c.args.digits.now)) (sym c.ok.ensures.value)
    (read-value c.args.digits.now c.parse.result c.parse.ensures.value.0 c.requires.digits)

pub returns-clause-great : goal.returns-clause-great
returns-clause-great c = subst (λ o. IfNone o (2 ^ 64 ≤ value_of c.args.digits.now)) (sym c.ok.ensures.value)
    (read-great c.args.digits.now c.parse.result c.parse.ensures.value.0 c.requires.some c.requires.digits)
