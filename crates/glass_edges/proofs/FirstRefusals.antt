-- The first refusal of a list, one item after the other, and what a reader answers.
use Rattle.std.proofs.Common.{◌≡◌, ℕ, ◌+◌, Bool, true, false, List, [], ◌∷◌, Option, Some, None, Result, Ok, Err, refl, sym, ap, ◌∙◌}
use Rattle.std.specs.Prelude.{IfOk, IfErr, if◌then◌else◌}
use Rattle.glass_edges.specs.Refusals.{or_else, first_found, unless, Refuses, Gives, GivesAfterTests}

-- ---- a loop over the items that are left

-- the next item passes
pub goes-on : {A E : Type 0} (test : ℕ → A → Option E) (at : ℕ) (x : A) (xs ys : List A) (total : Option E) → ys ≡ x ∷ xs → None ≡ test at x → first_found test at ys ≡ total → first_found test (at + 1) xs ≡ total
unfolding first_found
goes-on test at x xs ys total cut none so_far = (sym (ap (first_found test at) cut ∙ rw (← none) refl)) ∙ so_far

-- the next item is refused
pub ends : {A E : Type 0} (test : ℕ → A → Option E) (at : ℕ) (x : A) (xs ys : List A) (e : E) (total : Option E) → ys ≡ x ∷ xs → Some e ≡ test at x → first_found test at ys ≡ total → Some e ≡ total
unfolding first_found
ends test at x xs ys e total cut found so_far = sym (ap (first_found test at) cut ∙ rw (← found) refl) ∙ so_far

-- no item is left
pub nothing : {A E : Type 0} (test : ℕ → A → Option E) (at : ℕ) (ys : List A) (total : Option E) → ys ≡ [] → first_found test at ys ≡ total → None ≡ total
unfolding first_found
nothing test at ys total none so_far = sym (ap (first_found test at) none) ∙ so_far

-- ---- one test after another

pub or-first : {E : Type 0} (e : E) (first later : Option E) → Some e ≡ first → Some e ≡ or_else first later
or-first e first later found = rw (← found) refl

pub or-later : {E : Type 0} (first later total : Option E) → None ≡ first → total ≡ later → total ≡ or_else first later
or-later first later total none found = rw (← none) found

-- where there is none, neither refuses
pub or-none : {E : Type 0} (first later : Option E) → None ≡ or_else first later → (None ≡ first) × (None ≡ later)
or-none None later none = (refl, none)
or-none (Some e) later none = absurd cc

-- a test that passed
pub if-none : {E : Type 0} (test : Bool) (x : Option E) (e : E) → None ≡ (if test then x else Some e) → (test ≡ true) × (None ≡ x)
if-none true x e none = (refl, none)
if-none false x e none = absurd cc

-- ---- what a reader answers

-- a value is that of a reader who found no refusal
pub unless-ok : {A E : Type 0} (found : Option E) (x y : A) → unless found x ≡ Ok y → (None ≡ found) × (x ≡ y)
unless-ok None x y is = (refl, cc)
unless-ok (Some e) x y is = absurd cc

pub is-found : {B E : Type 0} (found : Option E) (x y : B) → None ≡ found → x ≡ y → unless found x ≡ Ok y
is-found found x y none same = rw (← none, same) refl

-- the refusal that was found
pub gives-refusal : {A B E : Type 0} (memory : E) (view : A → B) (r : Result A E) (e : E) (found : Option E) (x : B) → r ≡ Err e → Some e ≡ found → Gives memory view r (unless found x)
gives-refusal memory view r e found x is same = rw (is, ← same) (λ _. refl)

-- no memory
pub gives-memory : {A B E : Type 0} (memory : E) (view : A → B) (r : Result A E) (e : E) (read : Result B E) → r ≡ Err e → e ≡ memory → Gives memory view r read
gives-memory memory view r e read is same = rw is (λ other. absurd (other same))

-- the refusal of a part, which is the refusal of the whole
pub gives-refused : {A B E : Type 0} (Z : Type 0) (memory : E) (view : A → B) (r : Result A E) (e : E) (part found : Option E) (x : B) → r ≡ Err e → Refuses {A = Z} memory (Err e) part → (Some e ≡ part → Some e ≡ found) → Gives memory view r (unless found x)
gives-refused Z memory view r e part found x is refused lift = rw is (λ other. rw (← lift (refused other)) refl)

-- a value that was made where nothing is refused
pub gives-made : {A B E : Type 0} (memory : E) (view : A → B) (r : Result A E) (found : Option E) (x : B) → None ≡ found → IfOk r (λ s. view s ≡ x) → IfErr r (λ e. e ≡ memory) → Gives memory view r (unless found x)
gives-made memory view (Ok s) found x none made lacks = rw (← none, made) refl
gives-made memory view (Err e) found x none made lacks = λ other. absurd (other lacks)

-- the same of a reader that makes every test first
pub gives-after-tests-refusal : {A B E : Type 0} (memory : E) (view : A → B) (r : Result A E) (e : E) (found : Option E) (x : B) → r ≡ Err e → ¬ (e ≡ memory) → Some e ≡ found → GivesAfterTests memory view r (unless found x)
gives-after-tests-refusal memory view r e found x is other same = rw (is, ← same) ((λ lacks. absurd (other lacks)), (λ _. refl))

pub gives-after-tests-made : {A B E : Type 0} (memory : E) (view : A → B) (r : Result A E) (found : Option E) (x : B) → None ≡ found → IfOk r (λ s. view s ≡ x) → IfErr r (λ e. e ≡ memory) → GivesAfterTests memory view r (unless found x)
gives-after-tests-made memory view (Ok s) found x none made lacks = rw (← none, made) refl
gives-after-tests-made memory view (Err e) found x none made lacks = ((λ _. (x, rw (← none) refl)), (λ other. absurd (other lacks)))
