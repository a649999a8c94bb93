-- Sums over seats, and the items that a seat has in work.
use Rattle.std.specs.Prelude.{◌≡◌, ℕ, zero, suc, ◌+◌, ◌*◌, ◌%◌, ◌<◌, List, [], ◌∷◌, if◌then◌else◌, ◌==◌, slice_index, length}

-- the sum of f over a list
abbrev pub total : {A : Type 0} → (A → ℕ) → List A → ℕ
total f [] = 0
total f (x ∷ xs) = f x + total f xs

-- n numbers from a on
abbrev pub numbers_from : ℕ → ℕ → List ℕ
numbers_from a zero = []
numbers_from a (suc n) = a ∷ numbers_from (a + 1) n

-- 1 for an item (place, epoch) of this place, else 0
abbrev pub is_at : ℕ → ℕ × ℕ → ℕ
is_at place item = if item.0 == place then 1 else 0

-- how many items of the list have this place
abbrev pub times : ℕ → List (ℕ × ℕ) → ℕ
times place out = total (is_at place) out

-- the list less its first item of this place
abbrev pub without : ℕ → List (ℕ × ℕ) → List (ℕ × ℕ)
without place [] = []
without place (x ∷ xs) = if x.0 == place then xs else x ∷ without place xs

-- each item (place, epoch) has the word 4 * epoch + 1 at its place
abbrev pub AreInWork : List ℕ → List (ℕ × ℕ) → Type 0
AreInWork words [] = Unit {0}
AreInWork words (x ∷ xs) =
    (x.0 < length words) × (slice_index words x.0 ≡ 4 * x.1 + 1) × AreInWork words xs

-- 1 for a word of phase 1, else 0
abbrev pub is_in_work : ℕ → ℕ
is_in_work word = if word % 4 == 1 then 1 else 0
