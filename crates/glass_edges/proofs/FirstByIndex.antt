-- The first refusal of a list, by the index at which it stands.
use Rattle.std.proofs.Common.{◌≡◌, ℕ, zero, suc, ◌+◌, ◌<◌, List, [], ◌∷◌, length, get_or, Option, Some, None, refl, subst, ◌∙◌, arith}
use Rattle.glass_edges.specs.Refusals.{first_found, or_else}

module _ {A E : Type 0} (test : ℕ → A → Option E) where
  -- with the first item at number at: an item is refused, and none before it
  abbrev FirstFrom : ℕ → List A → E → Type 0
  FirstFrom at xs e = (k : ℕ) × (k < length xs) × ((d : A) → test (at + k) (get_or xs k d) ≡ Some e) × ((j : ℕ) (d : A) → j < k → test (at + j) (get_or xs j d) ≡ None)

  abbrev NoneFrom : ℕ → List A → Type 0
  NoneFrom at xs = (j : ℕ) (d : A) → j < length xs → test (at + j) (get_or xs j d) ≡ None

  moved : (at j : ℕ) (x : A) (r : Option E) → test (at + 1 + j) x ≡ r → test (at + suc j) x ≡ r
  moved at j x r e = let same : at + 1 + j ≡ at + suc j = omega arith in subst (λ (n : ℕ). test n x ≡ r) same e

  here : (at : ℕ) (x : A) (r : Option E) → test at x ≡ r → test (at + 0) x ≡ r
  here at x r e = let same : at ≡ at + 0 = omega arith in subst (λ (n : ℕ). test n x ≡ r) same e

  pub from-zero : (k : ℕ) (x : A) (r : Option E) → test (0 + k) x ≡ r → test k x ≡ r
  from-zero k x r e = let same : 0 + k ≡ k = omega arith in subst (λ (n : ℕ). test n x ≡ r) same e

  passes-one : (at n : ℕ) (x : A) (xs : List A) → test at x ≡ None → ((j : ℕ) (d : A) → j < n → test (at + 1 + j) (get_or xs j d) ≡ None) → (j : ℕ) (d : A) → j < suc n → test (at + j) (get_or (x ∷ xs) j d) ≡ None
  passes-one at n x xs none later zero d lt = here at x None none
  passes-one at n x xs none later (suc j) d lt = moved at j (get_or xs j d) None (later j d (omega arith))

  first-case : (at : ℕ) (x : A) (xs : List A) (e : E) (found : Option E) → test at x ≡ found → or_else found (first_found test (at + 1) xs) ≡ Some e → (first_found test (at + 1) xs ≡ Some e → FirstFrom (at + 1) xs e) → FirstFrom at (x ∷ xs) e
  first-case at x xs e None is found rest = let r = rest found in (suc r.0, omega arith, (λ d. moved at r.0 (get_or xs r.0 d) (Some e) (r.2 d)), passes-one at r.0 x xs is r.3)
  first-case at x xs e (Some own) is found rest = (0, omega arith, (λ d. here at x (Some e) (is ∙ found)), (λ j d lt. absurd (omega arith)))

  pub first-from : (at : ℕ) (xs : List A) (e : E) → first_found test at xs ≡ Some e → FirstFrom at xs e
  unfolding first_found
  first-from at [] e found = absurd cc
  first-from at (x ∷ xs) e found = first-case at x xs e (test at x) refl found (first-from (at + 1) xs e)

  none-case : (at : ℕ) (x : A) (xs : List A) (found : Option E) → test at x ≡ found → or_else found (first_found test (at + 1) xs) ≡ None → (first_found test (at + 1) xs ≡ None → NoneFrom (at + 1) xs) → NoneFrom at (x ∷ xs)
  none-case at x xs None is none rest = passes-one at (length xs) x xs is (rest none)
  none-case at x xs (Some own) is none rest = absurd cc

  pub none-from : (at : ℕ) (xs : List A) → first_found test at xs ≡ None → NoneFrom at xs
  unfolding first_found
  none-from at [] none = λ j d lt. absurd (omega arith)
  none-from at (x ∷ xs) none = none-case at x xs (test at x) refl none (none-from (at + 1) xs)
