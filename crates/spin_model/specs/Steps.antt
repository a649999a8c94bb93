-- What is done, listed or counted for each number of a range, in rising order.
use Rattle.std.specs.Prelude.{ℕ, zero, suc, ◌+◌, Bool, List, [], ◌∷◌, ◌++◌}
use Rattle.spin_model.specs.Words.{one_if}

-- step start, then step (start + 1), and so on: n steps, the first of them on s
unfoldable pub steps : {A : Type 0} → (ℕ → A → A) → ℕ → ℕ → A → A
steps step start zero s = s
steps step start (suc n) s = step (start + n) (steps step start n s)

-- item 0, item 1, and so on: the list of the first n
unfoldable pub table : {A : Type 0} → (ℕ → A) → ℕ → List A
table item zero = []
table item (suc n) = table item n ++ item n ∷ []

-- how many of the numbers below n pass the test
unfoldable pub count_below : (ℕ → Bool) → ℕ → ℕ
count_below test zero = 0
count_below test (suc n) = count_below test n + one_if (test n)
