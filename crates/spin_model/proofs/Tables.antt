-- A table by its items, and a count by its last number.
use Rattle.std.proofs.Common.{inl, inr, ◌≡◌, ℕ, zero, suc, ◌+◌, ◌-◌, ◌<◌, ◌≤◌, Bool, List, [], ◌∷◌, ◌++◌, length, get_or, take, ap, refl, sym, ◌∙◌, arith, length-append, add-zero, add-suc, add-one}
use Rattle.std.proofs.lemmas.List.{append-nil, append_assoc, take_at, get_or_append_left, get_or_at, ext_get_or}
use Rattle.std.proofs.lemmas.Bool.{cases_lt}
use Rattle.spin_model.specs.Words.{one_if}
use Rattle.spin_model.specs.Steps.{table, count_below}

pub table-zero : {A : Type 0} (item : ℕ → A) → table item 0 ≡ []
unfolding table
table-zero item = refl

pub table-more : {A : Type 0} (item : ℕ → A) (n : ℕ) → table item (n + 1) ≡ table item n ++ item n ∷ []
unfolding table
table-more item n = rw add-one refl

pub length-table : {A : Type 0} (item : ℕ → A) (n : ℕ) → length (table item n) ≡ n
unfolding table
length-table item zero = refl
length-table item (suc n) = simp length-append (omega (arith, length-table item n))

pub get_or-table : {A : Type 0} (item : ℕ → A) (n k : ℕ) (d : A) → k < n → get_or (table item n) k d ≡ item k
unfolding table
get_or-table item zero k d below = absurd (omega arith)
get_or-table item (suc n) k d below =
    let sized = length-table item n in
    elim (cases_lt k n) [
      | inl less ↦ get_or_append_left (table item n) _ d k (omega arith) ∙ get_or-table item n k d less
      | inr not ↦ let last : n ≡ k = omega arith in get_or_at (table item n) _ [] d k (sized ∙ last) ∙ ap item last
    ]

-- two tables whose items agree
pub table-same : {A : Type 0} (f g : ℕ → A) (n : ℕ) → ((k : ℕ) → k < n → f k ≡ g k) → table f n ≡ table g n
unfolding table
table-same f g zero same = refl
table-same f g (suc n) same =
    let before = table-same f g n (λ k below. same k (omega arith)) in
    let last = same n (omega arith) in
    rw (before, last) refl

pub count_below-zero : (test : ℕ → Bool) → count_below test 0 ≡ 0
unfolding count_below
count_below-zero test = refl

pub count_below-more : (test : ℕ → Bool) (n : ℕ) → count_below test (n + 1) ≡ count_below test n + one_if (test n)
unfolding count_below
count_below-more test n = rw add-one refl

-- a table of n + m items is one of n and one of the next m
pub table-add : {A : Type 0} (item : ℕ → A) (n m : ℕ) → table item (n + m) ≡ table item n ++ table (λ k. item (n + k)) m
unfolding table
table-add item n zero = rw (add-zero, append-nil) refl
table-add item n (suc m) =
    let before = table-add item n m in
    rw (add-suc, before) (append_assoc (table item n) (table (λ k. item (n + k)) m) (item (n + m) ∷ []))

pub take-table : {A : Type 0} (item : ℕ → A) (n m : ℕ) → n ≤ m → take n (table item m) ≡ table item n
take-table item n m within =
    let rest : n + (m - n) ≡ m = omega arith in
    ap (λ k. take n (table item k)) (sym rest) ∙ ap (take n) (table-add item n (m - n)) ∙ take_at (table item n) _ n (length-table item n)

-- a list whose items are those of a table
pub table-of_items : {A : Type 0} (item : ℕ → A) (n : ℕ) (d : A) (xs : List A) → length xs ≡ n → ((k : ℕ) → k < n → get_or xs k d ≡ item k) → xs ≡ table item n
table-of_items item n d xs sized same =
    let long = length-table item n in
    ext_get_or d xs (table item n) (sized ∙ sym long) (λ k below. same k (omega arith) ∙ sym (get_or-table item n k d (omega arith)))
