-- Spins as hexadecimal digits: four sites a digit in rising order, the lowest of the four in the highest bit, 1 for +1.
use Rattle.std.specs.Prelude.{ℕ, ◌+◌, ◌*◌, ◌/◌, Bool, nat_lt, if◌then◌else◌, List}
use Rattle.spin_model.specs.Words.{one_if}
use Rattle.spin_model.specs.Steps.{table}
use Rattle.spin_model.specs.Lattice.{volume}
use Rattle.scalar_rule.specs.Neighbours.{spin}

-- the digit of a number below 16: 0 to 9, then a to f
abbrev pub hex_digit : ℕ → ℕ
hex_digit n = if nat_lt n 10 then 48 + n else 87 + n

-- the digit of the four sites from site i on
abbrev pub four_spins : List Bool → ℕ → ℕ
four_spins spins i =
    hex_digit (8 * one_if (spin spins i) + 4 * one_if (spin spins (i + 1)) + 2 * one_if (spin spins (i + 2)) + one_if (spin spins (i + 3)))

-- the digits of all sites
abbrev pub spin_digits : ℕ → List Bool → List ℕ
spin_digits l spins = table (λ k. four_spins spins (4 * k)) (volume l / 4)
