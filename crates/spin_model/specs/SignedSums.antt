-- Sums of signed numbers.
use Rattle.std.specs.Prelude.{ℕ, zero, suc, ◌+ℤ◌, ℤ, pos}

-- term 0 + term 1 + .. + term (n - 1)
unfoldable pub sum_of : (ℕ → ℤ) → ℕ → ℤ
sum_of term zero = pos 0
sum_of term (suc n) = sum_of term n +ℤ term n
