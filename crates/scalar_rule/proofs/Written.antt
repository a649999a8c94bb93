-- A list that is rewritten from the front, item by item.
use Rattle.std.proofs.Common.{inl, inr, ◌≡◌, ℕ, ◌+◌, ◌<◌, ◌≤◌, List, length, get_or, set, ap, refl, sym, ◌∙◌, arith}
use Rattle.std.proofs.lemmas.Bool.{cases_lt}
use Rattle.std.proofs.lemmas.Grind.{get_or-set_at}
use Rattle.std.proofs.lemmas.List.{get_or-set_other, length-set}
use Rattle.spin_model.specs.Steps.{table}
use Rattle.spin_model.proofs.Tables.{table-of_items}

-- the first n items are those of f, and the others are still the old ones
pub record Written {A : Type 0} (f : ℕ → A) (old now : List A) (n : ℕ) : Type 0 where
  pub done : (k : ℕ) (d : A) → k < n → get_or now k d ≡ f k
  pub left : (k : ℕ) (d : A) → n ≤ k → get_or now k d ≡ get_or old k d
  pub sized : length now ≡ length old

pub written-zero : {A : Type 0} (f : ℕ → A) (old : List A) → Written f old old 0
written-zero f old = record {
  done = λ k d below. absurd (omega arith);
  left = λ k d from. refl;
  sized = refl;
}

-- the next item is written
pub written-more : {A : Type 0} (f : ℕ → A) (old now : List A) (n : ℕ) (v : A) → n < length old → v ≡ f n → Written f old now n → Written f old (set now n v) (n + 1)
written-more f old now n v below is w =
    let sized = w.sized in
    record {
      done = λ k d h. elim (cases_lt k n) [
        | inl less ↦ get_or-set_other now n k v d (λ e. absurd (omega arith)) ∙ w.done k d less
        | inr not ↦ let here : k ≡ n = omega arith in get_or-set_at now n k v d here (omega arith) ∙ is ∙ ap f (sym here)
      ];
      left = λ k d h. get_or-set_other now n k v d (λ e. absurd (omega arith)) ∙ w.left k d (omega arith);
      sized = length-set now n v ∙ sized;
    }

-- the next item is f's as it stands
pub written-same : {A : Type 0} (f : ℕ → A) (old now : List A) (n : ℕ) → ((d : A) → n < length old → get_or old n d ≡ f n) → Written f old now n → n < length old → Written f old now (n + 1)
written-same f old now n is w below = record {
  done = λ k d h. elim (cases_lt k n) [
    | inl less ↦ w.done k d less
    | inr not ↦ let here : k ≡ n = omega arith in ap (λ j. get_or now j d) here ∙ w.left n d (omega arith) ∙ is d below ∙ ap f (sym here)
  ];
  left = λ k d h. w.left k d (omega arith);
  sized = w.sized;
}

pub written-all : {A : Type 0} (f : ℕ → A) (old now : List A) (n : ℕ) → length old ≡ n → Written f old now n → now ≡ table f n
written-all f old now n sized w = table-of_items f n (f 0) now (w.sized ∙ sized) (λ k below. w.done k (f 0) below)
