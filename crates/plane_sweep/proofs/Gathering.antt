-- Lists made one item behind the other, and lists changed one place after the other.
use Rattle.std.proofs.Common.{inl, inr, ◌≡◌, ℕ, zero, suc, ◌+◌, ◌<◌, List, [], ◌∷◌, ◌++◌, All, map, take, length, get_or, set, refl, sym, ap, ◌∙◌, subst, arith}
use Rattle.std.proofs.lemmas.Bool.{cases_lt, cases_eq}
use Rattle.std.proofs.lemmas.List.Elements.{All-append}
use Rattle.std.proofs.lemmas.List.{length_push, length-set, get_or_append_left, get_or_push, get_or-set_same, get_or-set_other, get_or_read, get_or_past, length-map, get_or-map, take_more, map_more}
use Rattle.spin_model.specs.Steps.{table}
use Rattle.spin_model.proofs.Tables.{table-of_items}
use Rattle.plane_sweep.specs.Beginnings.{Each}
use Rattle.plane_sweep.specs.Storing.{Changed}

pub each-none : {A : Type 0} (Is : ℕ → A → Type 0) → Each Is 0 []
each-none Is = record { sized = refl; each = λ k d below. absurd (omega arith) }

pub each-pushed : {A : Type 0} (Is : ℕ → A → Type 0) (n : ℕ) (xs : List A) (x : A) → Each Is n xs → Is n x → Each Is (n + 1) (xs ++ x ∷ [])
each-pushed {A = A} Is n xs x before last = record {
  sized = length_push xs x ∙ ap (λ m. m + 1) before.sized;
  each = λ k d below. elim (cases_lt k n) [
    | inl less ↦
        let P : A → Type 0 = λ y. Is k y in
        let long = before.sized in
        subst P (sym (get_or_append_left xs (x ∷ []) d k (omega arith))) (before.each k d less)
    | inr not ↦
        let here : n ≡ k = omega arith in
        let P : A → Type 0 = λ y. Is k y in
        let Q : ℕ → Type 0 = λ j. Is j x in
        subst P (sym (get_or_push xs x d k (before.sized ∙ here))) (subst Q here last)
  ];
}

-- what holds of each item whatever its place is
pub all-each : {A : Type 0} (Is : ℕ → A → Type 0) (P : A → Type 0) (n : ℕ) (xs : List A) → Each Is n xs → ((k : ℕ) (x : A) → k < n → Is k x → P x) → All P xs
all-each Is P n xs items gives = λ k d within.
    let long = items.sized in
    let below : k < n = omega arith in
    gives k (get_or xs k d) below (items.each k d below)

pub changed-none : {A : Type 0} (Becomes : ℕ → A → A → Type 0) (xs : List A) → Changed Becomes 0 xs xs
changed-none Becomes xs = record { sized = refl; done = λ k d below. absurd (omega arith); kept = λ k d later. refl }

pub changed-more : {A : Type 0} (Becomes : ℕ → A → A → Type 0) (n : ℕ) (old xs : List A) (x y : A) → Changed Becomes n old xs → n < length old → x ≡ get_or xs n x → Becomes n x y → Changed Becomes (n + 1) old (set xs n y)
changed-more {A = A} Becomes n old xs x y before within read here =
    let long = before.sized in
    record {
      sized = length-set xs n y ∙ before.sized;
      done = λ k d below. elim (cases_eq k n) [
        | inl at ↦
            let Q : ℕ → Type 0 = λ j. Becomes j (get_or old j d) (get_or (set xs n y) j d) in
            let P : A → Type 0 = λ z. Becomes n (get_or old n d) z in
            let R : A → Type 0 = λ z. Becomes n z y in
            let was : x ≡ get_or old n d = get_or_read xs n x (omega arith) read d ∙ before.kept n d (omega arith) in
            subst Q (sym at) (subst P (sym (get_or-set_same xs n y d (omega arith))) (subst R was here))
        | inr apart ↦
            let P : A → Type 0 = λ z. Becomes k (get_or old k d) z in
            subst P (sym (get_or-set_other xs n k y d apart)) (before.done k d (omega arith))
      ];
      kept = λ k d later. get_or-set_other xs n k y d (λ same. absurd (omega arith)) ∙ before.kept k d (omega arith);
    }

-- a list each of whose items is changed at its place
pub changed-each : {A : Type 0} (Becomes : ℕ → A → A → Type 0) (n : ℕ) (old new : List A) → length old ≡ n → length new ≡ length old → ((k : ℕ) (d : A) → k < length old → Becomes k (get_or old k d) (get_or new k d)) → Changed Becomes n old new
changed-each Becomes n old new whole sized each = record {
  sized = sized;
  done = λ k d below. each k d (omega arith);
  kept = λ k d later. get_or_past new k d (omega arith) ∙ sym (get_or_past old k d (omega arith));
}

-- what each changed item is, whatever its place was
pub all-changed : {A : Type 0} (Becomes : ℕ → A → A → Type 0) (P : A → Type 0) (n : ℕ) (old new : List A) → Changed Becomes n old new → length old ≡ n → ((k : ℕ) (x y : A) → k < n → Becomes k x y → P y) → All P new
all-changed Becomes P n old new items whole gives = λ k d within.
    let long = items.sized in
    let below : k < n = omega arith in
    gives k (get_or old k d) (get_or new k d) below (items.done k d below)

-- one more item that the property holds of
pub all-pushed : {A : Type 0} (P : A → Type 0) (xs : List A) (x : A) → All P xs → P x → All P (xs ++ x ∷ [])
all-pushed {A = A} P xs x before last = All-append P xs (x ∷ []) before only
  where
    only : All P (x ∷ [])
    only zero d below = last
    only (suc k) d below = absurd (omega arith)

-- a function of each item that is known from its place
pub map-each : {A B : Type 0} (Is : ℕ → A → Type 0) (f : A → B) (g : ℕ → B) (e : A) (d : B) (n : ℕ) (xs : List A) → Each Is n xs → ((k : ℕ) (x : A) → k < n → Is k x → f x ≡ g k) → map f xs ≡ table g n
map-each Is f g e d n xs items gives =
    let long = items.sized in
    table-of_items g n d (map f xs) (length-map xs f ∙ items.sized) (λ k below.
    get_or-map f xs k e d (omega arith) ∙ gives k (get_or xs k e) below (items.each k e below))

-- one more item of a list copied
pub copied-more : {A : Type 0} (xs new old : List A) (x : A) (k : ℕ) (at : A) → new ≡ old ++ x ∷ [] → old ≡ take k xs → x ≡ at → at ≡ get_or xs k at → k < length xs → new ≡ take (k + 1) xs
copied-more xs new old x k at pushed before same read within =
    pushed ∙ ap (λ ys. ys ++ x ∷ []) before ∙ ap (λ y. take k xs ++ y ∷ []) (same ∙ read) ∙ sym (take_more xs k at within)

-- what is made of each item of a list
pub mapped-more : {A B : Type 0} (f : A → B) (xs : List A) (new old : List B) (y : B) (k : ℕ) (at : A) → new ≡ old ++ y ∷ [] → old ≡ map f (take k xs) → y ≡ f at → at ≡ get_or xs k at → k < length xs → new ≡ map f (take (k + 1) xs)
mapped-more f xs new old y k at pushed before made read within =
    pushed ∙ ap (λ ys. ys ++ y ∷ []) before ∙ ap (λ z. map f (take k xs) ++ z ∷ []) (made ∙ ap f read) ∙ sym (map_more f xs k at within)
