-- Words for an input that is tested in a stated order: the first refusal, and what a reader answers.
use Rattle.std.specs.Prelude.{◌≡◌, ◌<◌, ℕ, zero, suc, ◌+◌, List, [], ◌∷◌, length, slice_index_or, Option, Some, None, Result, Ok, Err}

-- the earlier refusal, or where there is none the later one
abbrev pub or_else : {E : Type 0} → Option E → Option E → Option E
or_else None later = later
or_else (Some e) later = Some e

-- the first refusal that the test finds in a list, whose first item has the number at
unfoldable pub first_found : {A E : Type 0} → (ℕ → A → Option E) → ℕ → List A → Option E
first_found test at [] = None
first_found test at (x ∷ xs) = or_else (test at x) (first_found test (at + 1) xs)

-- the first refusal that the test finds among so many numbers from start on
unfoldable pub first_of : {E : Type 0} → (ℕ → Option E) → ℕ → ℕ → Option E
first_of test start zero = None
first_of test start (suc count) = or_else (test start) (first_of test (start + 1) count)

-- what reading gives: the value, unless there is a refusal
abbrev pub unless : {A E : Type 0} → Option E → A → Result A E
unless None x = Ok x
unless (Some e) x = Err e

-- the refusal that a call answered, if it did
abbrev pub refusal_of : {A E : Type 0} → Result A E → Option E
refusal_of (Ok _) = None
refusal_of (Err e) = Some e

-- a call answered exactly the first refusal, and a value only where there is none;
-- running out of memory is free
abbrev pub Refuses : {A E : Type 0} → E → Result A E → Option E → Type 0
Refuses memory (Ok _) found = None ≡ found
Refuses memory (Err e) found = ¬ (e ≡ memory) → Some e ≡ found

-- a call answered the value that reading gives, seen by view, or exactly its refusal;
-- running out of memory is free
abbrev pub Gives : {A B E : Type 0} → E → (A → B) → Result A E → Result B E → Type 0
Gives memory view (Ok x) read = read ≡ Ok (view x)
Gives memory view (Err e) read = ¬ (e ≡ memory) → read ≡ Err e

-- the same of a call that makes every test before it takes memory: it runs out of memory only
-- where reading gives a value
abbrev pub GivesAfterTests : {A B E : Type 0} → E → (A → B) → Result A E → Result B E → Type 0
GivesAfterTests memory view (Ok x) read = read ≡ Ok (view x)
GivesAfterTests {B = B} memory view (Err e) read = (e ≡ memory → (y : B) × (read ≡ Ok y)) × (¬ (e ≡ memory) → read ≡ Err e)

-- the test refuses some item of the list with this refusal, and no item before it
abbrev pub RefusesFirst : {A E : Type 0} → (ℕ → A → Option E) → List A → E → Type 0
RefusesFirst {A = A} test xs e = (k : ℕ) × (k < length xs) × ((d : A) → test k (slice_index_or xs k d) ≡ Some e) × ((j : ℕ) (d : A) → j < k → test j (slice_index_or xs j d) ≡ None)

-- the test refuses no item of the list
abbrev pub RefusesNone : {A E : Type 0} → (ℕ → A → Option E) → List A → Type 0
RefusesNone {A = A} test xs = (j : ℕ) (d : A) → j < length xs → test j (slice_index_or xs j d) ≡ None
