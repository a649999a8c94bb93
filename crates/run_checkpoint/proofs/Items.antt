-- Items of one length, read one after the other.
use Rattle.std.proofs.Common.{All, subst, ◌≡◌, ℕ, ◌+◌, ◌*◌, ◌<◌, ◌≤◌, List, [], ◌∷◌, ◌++◌, length, take, drop, get_or, slice_set, refl, sym, ap, ◌∙◌, arith}
use native.Mathlib.Nat.{mul-add}
use Rattle.std.proofs.lemmas.List.{get_or-set_other, length-set, take_at, take_all, take_more_set}
use Rattle.std.proofs.lemmas.List.Elements.{All-append, All-cons, All-nil}
use Rattle.std.proofs.Math.Nat.{mul-le-mul_left}
use Rattle.spin_model.specs.Steps.{table}
use Rattle.spin_model.proofs.Tables.{table-zero, table-more, table-of_items}
use Rattle.byteorder.specs.Endian.{big_number}
use Rattle.run_checkpoint.specs.Reading.{words_at}

-- none yet, and one more
pub item-none : {A : Type 0} (f : ℕ → A) (xs : List A) → xs ≡ [] → xs ≡ table f 0
item-none f xs e = e ∙ sym (table-zero f)

pub item-more : {A : Type 0} (f : ℕ → A) (k : ℕ) (xs ys : List A) (x : A) → ys ≡ xs ++ x ∷ [] → xs ≡ table f k → x ≡ f k → ys ≡ table f (k + 1)
item-more f k xs ys x pushed so_far is =
    pushed ∙ ap (λ zs. zs ++ x ∷ []) so_far ∙ ap (λ y. table f k ++ y ∷ []) is ∙ sym (table-more f k)

-- each item lies within what n of them take
pub item-room : (len n k : ℕ) → k < n → len * k + len ≤ len * n
item-room len n k within =
    let next : k + 1 ≤ n = omega arith in
    let bound : len * (k + 1) ≤ len * n = mul-le-mul_left len next in
    let step : len * (k + 1) ≡ len * k + len * 1 = mul-add len k 1 in
    omega arith

-- and no item lies past them
pub item-start : (len n k : ℕ) → k ≤ n → len * k ≤ len * n
item-start len n k within = mul-le-mul_left len within

-- words that were read one by one
pub words-read : (w n : ℕ) (bytes dst : List ℕ) → length dst ≡ n → ((k : ℕ) → k < length dst → get_or dst k 0 ≡ big_number w (drop (w * k) bytes)) → dst ≡ words_at w n bytes
words-read w n bytes dst sized read = table-of_items (λ i. big_number w (drop (w * i) bytes)) n 0 dst sized (λ k within. read k (omega arith))

-- the same where they were written over a list of as many items
pub words-written : (len w n : ℕ) (bytes dst items : List ℕ) → length items ≡ len → length dst ≡ len → len ≡ n
    → ((k : ℕ) → k < length dst → get_or dst k 0 ≡ big_number w (drop (w * k) bytes)) → take len (dst ++ drop (length dst) items) ≡ words_at w n bytes
words-written len w n bytes dst items sized same long read =
    take_at dst (drop (length dst) items) len same ∙ words-read w n bytes dst (same ∙ long) read

-- the first k items of a list are written over by those of f, and the others are as they were
pub record Filled {A : Type 0} (f : ℕ → A) (k : ℕ) (old new : List A) : Type 0 where
  pub count : length new ≡ length old
  pub done : take k new ≡ table f k
  pub rest : (j : ℕ) (d : A) → k ≤ j → get_or new j d ≡ get_or old j d

pub filled-none : {A : Type 0} (f : ℕ → A) (xs : List A) → Filled f 0 xs xs
filled-none f xs = record { count = refl; done = sym (table-zero f); rest = λ j d from. refl }

pub filled-more : {A : Type 0} (f : ℕ → A) (k : ℕ) (old xs : List A) (x : A) → k < length old → Filled f k old xs → x ≡ f k → Filled f (k + 1) old (slice_set xs k x)
filled-more f k old xs x within so_far is =
    let long : k < length xs = omega (arith, so_far.count) in
    record {
      count = length-set xs k x ∙ so_far.count;
      done = take_more_set xs k x long ∙ ap (λ zs. zs ++ x ∷ []) so_far.done ∙ ap (λ y. table f k ++ y ∷ []) is ∙ sym (table-more f k);
      rest = λ j d from. get_or-set_other xs k j x d (λ same. absurd (omega (arith, same))) ∙ so_far.rest j d (omega arith);
    }

-- the next item is as it was
pub filled-next : {A : Type 0} (P : A → Type 0) (f : ℕ → A) (k : ℕ) (old xs : List A) (x : A) → All P old → k < length old → Filled f k old xs → x ≡ get_or xs k x → P x
filled-next P f k old xs x all within so_far is =
    subst P (sym (is ∙ so_far.rest k x (omega arith))) (all k x within)

pub filled-all : {A : Type 0} (f : ℕ → A) (k n : ℕ) (old xs : List A) → Filled f k old xs → length old ≡ n → k ≡ n → xs ≡ table f n
filled-all f k n old xs so_far sized end =
    sym (take_all k xs (omega (arith, so_far.count))) ∙ so_far.done ∙ ap (table f) end

-- one more item, of which the same holds
pub all-more : {A : Type 0} (P : A → Type 0) (xs ys : List A) (x : A) → ys ≡ xs ++ x ∷ [] → All P xs → P x → All P ys
all-more P xs ys x pushed all one = subst (All P) (sym pushed) (All-append P xs (x ∷ []) all (All-cons P x [] one (All-nil P)))
