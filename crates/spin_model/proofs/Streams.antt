-- Windows of the stream: their length, their words, and what a stream is after it has advanced.
use Rattle.std.proofs.Common.{◌≡◌, ℕ, zero, suc, ◌+◌, ◌-◌, ◌%◌, ◌^◌, ◌<◌, ◌≤◌, List, [], ◌∷◌, ◌++◌, length, get_or, drop, ap, refl, sym, ◌∙◌, arith, length-append, length-drop, add-zero, add-suc, add-one, lit<, bit_xor, get_or-drop}
use Rattle.std.proofs.lemmas.List.{append-nil, append_assoc, drop-append-le, drop-drop, get_or_append_left, get_or_at}
use Rattle.spin_model.specs.Steps.{table}
use Rattle.spin_model.proofs.Tables.{table-add, table-same}
use Rattle.spin_model.specs.Stream.{shifted, advanced, stream_word, draw, draws}

pub length-shifted : (v : List ℕ) → length v ≡ 61 → length (shifted v) ≡ 61
length-shifted v sized = simp (length-append, length-drop) (omega arith)

pub length-advanced : (w : List ℕ) (n : ℕ) → length w ≡ 61 → length (advanced w n) ≡ 61
unfolding advanced
length-advanced w zero sized = sized
length-advanced w (suc n) sized = length-shifted (advanced w n) (length-advanced w n sized)

-- advancing adds up
pub advanced-advanced : (w : List ℕ) (n m : ℕ) → advanced (advanced w n) m ≡ advanced w (n + m)
unfolding advanced
advanced-advanced w n zero = rw add-zero refl
advanced-advanced w n (suc m) = rw add-suc (ap shifted (advanced-advanced w n m))

pub advanced-zero : (w : List ℕ) → advanced w 0 ≡ w
unfolding advanced
advanced-zero w = refl

pub advanced-one : (w : List ℕ) → advanced w 1 ≡ shifted w
unfolding advanced
advanced-one w = refl

pub stream_word-advanced : (w : List ℕ) (n m : ℕ) → stream_word (advanced w n) m ≡ stream_word w (n + m)
stream_word-advanced w n m = ap (λ v. get_or v 0 0) (advanced-advanced w n m)

-- a word of a window but the first is the next window's word one place before
get_or-shifted : (v : List ℕ) (i : ℕ) → length v ≡ 61 → i + 1 < 61 → get_or (shifted v) i 0 ≡ get_or v (i + 1) 0
get_or-shifted v i sized within =
    get_or_append_left (drop 1 v) _ 0 i (simp length-drop (omega arith)) ∙ get_or-drop 1 v i 0 ∙ ap (λ j. get_or v j 0) (omega arith)

-- word i of the window at n is word n + i of the stream
pub get_or-advanced : (w : List ℕ) (n i : ℕ) → length w ≡ 61 → i < 61 → get_or (advanced w n) i 0 ≡ stream_word w (n + i)
unfolding advanced
get_or-advanced w n zero sized within =
    let place : n + zero ≡ n = omega arith in
    rw place refl
get_or-advanced w n (suc i) sized within =
    let place : i + 1 ≡ suc i = omega arith in
    let later : suc n + i ≡ n + suc i = omega arith in
    let moved = get_or-shifted (advanced w n) i (length-advanced w n sized) (omega arith) in
    let rest = get_or-advanced w (suc n) i sized (omega arith) in
    cc

-- the first word behind a window
pub stream_word-61 : (w : List ℕ) → length w ≡ 61 → stream_word w 61 ≡ (get_or w 37 0 + get_or w 6 0) % 2 ^ 32
unfolding advanced
stream_word-61 w sized = sym (get_or-advanced w 1 60 sized (lit< tt)) ∙ get_or_at (drop 1 w) _ [] 0 60 (simp length-drop (omega arith))

-- the recurrence at every window: the words 24 and 55 before word 61 + n
pub stream_word-recurs : (w : List ℕ) (n : ℕ) → length w ≡ 61 → stream_word w (61 + n) ≡ (stream_word w (37 + n) + stream_word w (6 + n)) % 2 ^ 32
stream_word-recurs w n sized =
    let window = length-advanced w n sized in
    let last : stream_word w (61 + n) ≡ stream_word w (n + 61) = ap (λ j. stream_word w j) (omega arith) in
    let at_37 : get_or (advanced w n) 37 0 ≡ stream_word w (37 + n) = get_or-advanced w n 37 sized (lit< tt) ∙ ap (λ j. stream_word w j) (omega arith) in
    let at_6 : get_or (advanced w n) 6 0 ≡ stream_word w (6 + n) = get_or-advanced w n 6 sized (lit< tt) ∙ ap (λ j. stream_word w j) (omega arith) in
    last ∙ sym (stream_word-advanced w n 61) ∙ stream_word-61 (advanced w n) window ∙ rw (at_37, at_6) refl

-- the draws of an advanced stream
pub draw-advanced : (w : List ℕ) (n m : ℕ) → draw (advanced w n) m ≡ draw w (n + m)
draw-advanced w n m = rw (stream_word-advanced w n (61 + m), stream_word-advanced w n m) (ap (λ j. bit_xor (stream_word w j) (stream_word w (n + m))) (omega arith))

-- the words that the stream begins with
pub stream_word-first : (w : List ℕ) (k : ℕ) → length w ≡ 61 → k < 61 → stream_word w k ≡ get_or w k 0
stream_word-first w k sized within =
    let place : 0 + k ≡ k = omega arith in
    ap (stream_word w) (sym place) ∙ sym (get_or-advanced w 0 k sized within) ∙ ap (λ v. get_or v k 0) (advanced-zero w)

-- the recurrence by the number of the word, with the lags 24 and 55
pub stream_word-lags : (w : List ℕ) (k : ℕ) → length w ≡ 61 → 61 ≤ k → stream_word w k ≡ (stream_word w (k - 24) + stream_word w (k - 55)) % 2 ^ 32
stream_word-lags w k sized later =
    let here : 61 + (k - 61) ≡ k = omega arith in
    let lag_24 : 37 + (k - 61) ≡ k - 24 = omega arith in
    let lag_55 : 6 + (k - 61) ≡ k - 55 = omega arith in
    let recurs = stream_word-recurs w (k - 61) sized in
    rw (here, lag_24, lag_55) at recurs

-- a window is what is left of the first one and the new words behind it
pub advanced-words : (w : List ℕ) (n : ℕ) → length w ≡ 61 → n ≤ 61 → advanced w n ≡ drop n w ++ table (λ k. stream_word w (61 + k)) n
unfolding advanced table
advanced-words w zero sized within = sym (append-nil w)
advanced-words w (suc n) sized within =
    let before = advanced-words w n sized (omega arith) in
    let kept : 1 ≤ length (drop n w) = simp length-drop (omega arith) in
    let place_37 : n + 37 ≡ 37 + n = omega arith in
    let place_6 : n + 6 ≡ 6 + n = omega arith in
    let at_37 : get_or (advanced w n) 37 0 ≡ stream_word w (37 + n) = get_or-advanced w n 37 sized (lit< tt) ∙ ap (stream_word w) place_37 in
    let at_6 : get_or (advanced w n) 6 0 ≡ stream_word w (6 + n) = get_or-advanced w n 6 sized (lit< tt) ∙ ap (stream_word w) place_6 in
    let next : (get_or (advanced w n) 37 0 + get_or (advanced w n) 6 0) % 2 ^ 32 ≡ stream_word w (61 + n) = rw (at_37, at_6) (sym (stream_word-recurs w n sized)) in
    let rest : drop 1 (advanced w n) ≡ drop (suc n) w ++ table (λ k. stream_word w (61 + k)) n =
    ap (drop 1) before ∙ drop-append-le 1 (drop n w) _ kept ∙ ap (λ v. v ++ table (λ k. stream_word w (61 + k)) n) (drop-drop 1 n w ∙ ap (λ m. drop m w) (add-one n)) in
    rw (rest, next) (append_assoc (drop (suc n) w) (table (λ k. stream_word w (61 + k)) n) (stream_word w (61 + n) ∷ []))

-- the numbers of a stream are its first n and those of the advanced stream
pub draws-advanced : (w : List ℕ) (n m : ℕ) → draws w (n + m) ≡ draws w n ++ draws (advanced w n) m
draws-advanced w n m = table-add (draw w) n m ∙ ap (λ v. draws w n ++ v) (table-same _ _ m (λ k below. sym (draw-advanced w n k)))
