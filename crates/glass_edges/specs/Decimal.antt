-- Whole numbers written in decimal digits.
use Rattle.std.specs.Prelude.{ℕ, ◌+◌, ◌-◌, ◌*◌, Bool, ◌&&◌, nat_le, List, length}
use Rattle.std.specs.Char.{is_ascii_digit}
use Rattle.std.specs.List.{fold, list_all}

-- a number of one to so many decimal digits, which are the bytes 48 to 57
abbrev pub is_numeral : ℕ → List ℕ → Bool
is_numeral most text = nat_le 1 (length text) && nat_le (length text) most && list_all is_ascii_digit text

-- one digit more
abbrev pub with_digit : ℕ → ℕ → ℕ
with_digit value digit = value * 10 + (digit - 48)

-- the value of decimal digits
abbrev pub value_of : List ℕ → ℕ
value_of digits = fold with_digit 0 digits
