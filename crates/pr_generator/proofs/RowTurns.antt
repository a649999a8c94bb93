-- Eight new sums and eight random numbers from the rows are the stream's, and the rows then stand eight words on.
use Rattle.std.proofs.Common.{◌≡◌, ℕ, zero, suc, ◌+◌, ◌*◌, ◌<◌, ◌≤◌, List, [], ◌∷◌, ◌++◌, length, get_or, take, drop, bit_xor, All, ap, refl, sym, ◌∙◌, arith, add_comm, length-append, length-drop, length-take-le, take-add, get_or-drop, lit<, lit≤}
use Rattle.std.proofs.lemmas.List.{take_at, take-append-drop, take_more, drop-take, append_assoc, drop_at, drop_all, drop_more, drop-drop, drop-append-le, take-append-le, get_or_append_left, get_or-append_right, get_or-take, flat_map_more}
use Rattle.std.proofs.lemmas.Slice.{take-put_mid}
use Rattle.std.proofs.lemmas.List.Elements.{All-nil, All-cons, All-append, All-drop, All-head, All-tail, All-get_or}
use Rattle.spin_model.specs.Words.{word_sum}
use Rattle.spin_model.specs.Steps.{table}
use Rattle.spin_model.specs.Stream.{advanced, stream_word, draw, draws}
use Rattle.spin_model.proofs.Tables.{take-table, table-of_items, get_or-table, length-table}
use Rattle.spin_model.proofs.Streams.{advanced-words, draws-advanced, stream_word-first, stream_word-recurs}
use Rattle.pr_generator.specs.Rows.{joined, state_of, AreRows}
use borrow.Rule.Slice.PartMut.{put_mid}

abbrev Eight : List ℕ → Type 0
Eight row = length row ≡ 8

-- whole rows dropped
joined-drop : (q : ℕ) (rows : List (List ℕ)) → All Eight rows → drop (8 * q) (joined rows) ≡ joined (drop q rows)
joined-drop zero rows eight = refl
joined-drop (suc q) [] eight = drop_all (8 * suc q) [] (omega arith)
joined-drop (suc q) (row ∷ rest) eight =
    let more : 8 * suc q ≡ 8 + 8 * q = omega arith in
    ap (λ n. drop n (row ++ joined rest)) more
    ∙ sym (drop-drop (8 * q) 8 (row ++ joined rest))
    ∙ ap (drop (8 * q)) (drop_at row (joined rest) 8 (All-head Eight row rest eight))
    ∙ joined-drop q rest (All-tail Eight row rest eight)

pub length-joined : (rows : List (List ℕ)) → All Eight rows → length (joined rows) ≡ 8 * length rows
length-joined [] eight = refl
length-joined (row ∷ rest) eight =
    let before = length-joined rest (All-tail Eight row rest eight) in
    let here = All-head Eight row rest eight in
    simp length-append (omega arith)

-- a word of two rows that follow each other
joined-pair : (rows : List (List ℕ)) (q m : ℕ) → All Eight rows → q + 1 < length rows → m < 16
    → get_or (joined rows) (8 * q + m) 0 ≡ get_or (get_or rows q [] ++ get_or rows (q + 1) []) m 0
joined-pair rows q m eight within below =
    let first = All-get_or Eight rows q [] (omega arith) eight in
    let second = All-get_or Eight rows (q + 1) [] within eight in
    let rest = drop (q + 1 + 1) rows in
    let split : drop q rows ≡ get_or rows q [] ∷ get_or rows (q + 1) [] ∷ rest =
    drop_more rows q [] (omega arith) ∙ ap (λ r. get_or rows q [] ∷ r) (drop_more rows (q + 1) [] within) in
    sym (get_or-drop (8 * q) (joined rows) m 0)
    ∙ ap (λ v. get_or v m 0) (joined-drop q rows eight ∙ ap joined split ∙ sym (append_assoc (get_or rows q []) (get_or rows (q + 1) []) (joined rest)))
    ∙ get_or_append_left (get_or rows q [] ++ get_or rows (q + 1) []) (joined rest) 0 m (simp length-append (omega arith))

pub length-state_of : (rows : List (List ℕ)) → AreRows rows → length (state_of rows) ≡ 61
length-state_of rows are =
    let all = length-joined rows are.eight in
    let sized = are.sized in
    simp length-drop (omega arith)

-- word j of the stream, by its place in the rows
word-at : (rows : List (List ℕ)) (j q m : ℕ) → AreRows rows → j < 61 → q + 1 < 8 → m < 16 → 3 + j ≡ 8 * q + m
    → stream_word (state_of rows) j ≡ get_or (get_or rows q [] ++ get_or rows (q + 1) []) m 0
word-at rows j q m are within row column place =
    let sized = are.sized in
    stream_word-first (state_of rows) j (length-state_of rows are) within
    ∙ get_or-drop 3 (joined rows) j 0
    ∙ ap (λ i. get_or (joined rows) i 0) place
    ∙ joined-pair rows q m are.eight (omega arith) column

-- the eight sums
pub sums-are_words : (rows : List (List ℕ)) (new : List ℕ) → AreRows rows → length new ≡ 8
    → ((k : ℕ) → k < 8 → get_or new k 0 ≡ word_sum (get_or (get_or rows 5 []) k 0) (get_or (get_or rows 1 [] ++ get_or rows 2 []) (1 + k) 0))
    → new ≡ table (λ k. stream_word (state_of rows) (61 + k)) 8
sums-are_words rows new are sized sums =
    table-of_items (λ k. stream_word (state_of rows) (61 + k)) 8 0 new sized (λ k below.
    let five = All-get_or Eight rows 5 [] (omega (arith, are.sized)) are.eight in
    let near = word-at rows (37 + k) 5 k are (omega arith) (lit< tt) (omega arith) (omega arith) ∙ get_or_append_left (get_or rows 5 []) (get_or rows 6 []) 0 k (omega arith) in
    let far = word-at rows (6 + k) 1 (1 + k) are (omega arith) (lit< tt) (omega arith) (omega arith) in
    let recurs = stream_word-recurs (state_of rows) k (length-state_of rows are) in
    sums k below ∙ sym (recurs ∙ rw (near, far) refl))

-- the eight random numbers
pub xors-are_draws : (rows : List (List ℕ)) (new drawn : List ℕ) → AreRows rows → new ≡ table (λ k. stream_word (state_of rows) (61 + k)) 8 → length drawn ≡ 8
    → ((k : ℕ) → k < 8 → get_or drawn k 0 ≡ bit_xor (get_or new k 0) (get_or (get_or rows 0 [] ++ get_or rows 1 []) (3 + k) 0))
    → drawn ≡ draws (state_of rows) 8
xors-are_draws rows new drawn are words sized xors =
    table-of_items (draw (state_of rows)) 8 0 drawn sized (λ k below.
    let old = word-at rows k 0 (3 + k) are (omega arith) (lit< tt) (omega arith) (omega arith) in
    let later = ap (λ v. get_or v k 0) words ∙ get_or-table (λ k. stream_word (state_of rows) (61 + k)) 8 k 0 below in
    xors k below ∙ rw (later, old) refl)

-- the rows one on, with the sums behind them
pub rows-advance : (rows : List (List ℕ)) (new : List ℕ) → AreRows rows → new ≡ table (λ k. stream_word (state_of rows) (61 + k)) 8
    → state_of (drop 1 rows ++ new ∷ []) ≡ advanced (state_of rows) 8
rows-advance rows new are words =
    let all = length-joined rows are.eight in
    let sized = are.sized in
    let behind : joined (drop 1 rows ++ new ∷ []) ≡ drop 8 (joined rows) ++ new =
    sym (flat_map_more (λ row. row) [] (drop 1 rows) new) ∙ ap (λ v. v ++ new) (sym (joined-drop 1 rows are.eight)) in
    let long : 3 ≤ length (drop 8 (joined rows)) = simp length-drop (omega arith) in
    let kept : drop 3 (drop 8 (joined rows)) ≡ drop 8 (state_of rows) = drop-drop 3 8 (joined rows) ∙ sym (drop-drop 8 3 (joined rows)) in
    ap (drop 3) behind
    ∙ drop-append-le 3 (drop 8 (joined rows)) new long
    ∙ ap (λ v. v ++ new) kept
    ∙ ap (λ v. drop 8 (state_of rows) ++ v) words
    ∙ sym (advanced-words (state_of rows) 8 (length-state_of rows are) (lit≤ tt))

-- eight rows, written out
pub rows-written : (rows : List (List ℕ)) → length rows ≡ 8 → rows
    ≡ get_or rows 0 [] ∷ get_or rows 1 [] ∷ get_or rows 2 [] ∷ get_or rows 3 [] ∷ get_or rows 4 [] ∷ get_or rows 5 [] ∷ get_or rows 6 [] ∷ get_or rows 7 [] ∷ []
unfolding table
rows-written rows sized = table-of_items (λ q. get_or rows q []) 8 [] rows sized (λ q below. refl)

-- and with a new one behind
pub rows-moved : (rows : List (List ℕ)) (new : List ℕ) → length rows ≡ 8 →
    get_or rows 1 [] ∷ get_or rows 2 [] ∷ get_or rows 3 [] ∷ get_or rows 4 [] ∷ get_or rows 5 [] ∷ get_or rows 6 [] ∷ get_or rows 7 [] ∷ new ∷ [] ≡ drop 1 rows ++ new ∷ []
rows-moved rows new sized = sym (ap (λ r. drop 1 r ++ new ∷ []) (rows-written rows sized))

pub rows-are_rows : (rows : List (List ℕ)) (new : List ℕ) → AreRows rows → length new ≡ 8 → AreRows (drop 1 rows ++ new ∷ [])
rows-are_rows rows new are long =
    let sized = are.sized in
    record {
      sized = simp (length-append, length-drop) (omega arith);
      eight = All-append Eight (drop 1 rows) (new ∷ []) (All-drop Eight 1 rows are.eight) (All-cons Eight new [] long (All-nil Eight));
    }

-- one row more
pub joined-more : (rows : List (List ℕ)) (q : ℕ) → q < length rows → joined (take (q + 1) rows) ≡ joined (take q rows) ++ get_or rows q []
joined-more rows q within = ap joined (take_more rows q [] within) ∙ sym (flat_map_more (λ row. row) [] (take q rows) (get_or rows q []))

-- the row q of a list of words
abbrev row_of : List ℕ → ℕ → List ℕ
row_of words q = take 8 (drop (8 * q) words)

joined-table : (words : List ℕ) (n : ℕ) → 8 * n ≤ length words → joined (table (row_of words) n) ≡ take (8 * n) words
unfolding table
joined-table words zero within = refl
joined-table words (suc n) within =
    let more : 8 * suc n ≡ 8 * n + 8 = omega arith in
    sym (flat_map_more (λ row. row) [] (table (row_of words) n) (row_of words n))
    ∙ ap (λ v. v ++ row_of words n) (joined-table words n (omega arith))
    ∙ sym (take-add (8 * n) 8 words)
    ∙ ap (λ m. take m words) (sym more)

table-eight : (words : List ℕ) → 64 ≤ length words → All Eight (table (row_of words) 8)
table-eight words within = λ q d below.
    let sized = length-table (row_of words) 8 in
    let here : q < 8 = omega arith in
    ap length (get_or-table (row_of words) 8 q d here) ∙ length-take-le 8 (drop (8 * q) words) (simp length-drop (omega arith))

pub table-are_rows : (words : List ℕ) → 64 ≤ length words → AreRows (table (row_of words) 8)
table-are_rows words within = record { sized = length-table (row_of words) 8; eight = table-eight words within }

pub joined-table-eight : (words : List ℕ) → 64 ≤ length words → joined (table (row_of words) 8) ≡ take 64 words
joined-table-eight words within = joined-table words 8 within

-- 64 words from a place on, with the eight new words behind the rows
pub state-at : (rows : List (List ℕ)) (count : ℕ) → AreRows rows → count ≤ 8
    → drop 3 (take 64 (drop count (joined rows ++ table (λ k. stream_word (state_of rows) (61 + k)) 8))) ≡ advanced (state_of rows) count
state-at rows count are within =
    let w = state_of rows in
    let new = table (λ k. stream_word w (61 + k)) 8 in
    let sized = length-state_of rows are in
    let long = length-joined rows are.eight in
    let eight = length-table (λ k. stream_word w (61 + k)) 8 in
    let rows_8 = are.sized in
    let places : drop 3 (drop count (joined rows ++ new)) ≡ drop count (drop 3 (joined rows ++ new)) =
    drop-drop 3 count (joined rows ++ new) ∙ ap (λ n. drop n (joined rows ++ new)) (add_comm count 3) ∙ sym (drop-drop count 3 (joined rows ++ new)) in
    let behind : drop 3 (joined rows ++ new) ≡ w ++ new = drop-append-le 3 (joined rows) new (omega arith) in
    let kept : drop count (w ++ new) ≡ drop count w ++ new = drop-append-le count w new (omega arith) in
    let parts : drop count w ++ new ≡ (drop count w ++ take count new) ++ drop count new =
    ap (λ v. drop count w ++ v) (sym (take-append-drop count new)) ∙ sym (append_assoc (drop count w) (take count new) (drop count new)) in
    let taken = length-take-le count new (omega arith) in
    let whole : length (drop count w ++ take count new) ≡ 61 = simp (length-append, length-drop) (omega arith) in
    drop-take 3 61 (drop count (joined rows ++ new))
    ∙ ap (take 61) (places ∙ ap (drop count) behind ∙ kept ∙ parts)
    ∙ take_at (drop count w ++ take count new) (drop count new) 61 whole
    ∙ ap (λ v. drop count w ++ v) (take-table (λ k. stream_word w (61 + k)) count 8 within)
    ∙ sym (advanced-words w count sized (omega arith))

-- the next m numbers, written behind the first n
pub draws-written : (w : List ℕ) (n m all k : ℕ) (xs ys : List ℕ) → take n xs ≡ draws w n → ys ≡ draws (advanced w n) m → n ≤ length xs → n + m ≡ all
    → take all (put_mid n k xs ys) ≡ draws w all
draws-written w n m all k xs ys before next within sum =
    let long : length ys ≡ m = ap length next ∙ length-table (draw (advanced w n)) m in
    take-put_mid n k xs ys all (omega arith) within ∙ rw (before, next) (sym (draws-advanced w n m) ∙ ap (draws w) sum)

-- a row two words on
row-two_on : (rows : List (List ℕ)) (q : ℕ) → All Eight rows → q + 1 < length rows
    → row_of (drop 2 (joined rows)) q ≡ drop 2 (get_or rows q []) ++ take 2 (get_or rows (q + 1) [])
row-two_on rows q eight within =
    let row = get_or rows q [] in
    let behind = get_or rows (q + 1) [] in
    let rest = drop (q + 1 + 1) rows in
    let first = All-get_or Eight rows q [] (omega arith) eight in
    let second = All-get_or Eight rows (q + 1) [] within eight in
    let split : drop q rows ≡ row ∷ behind ∷ rest = drop_more rows q [] (omega arith) ∙ ap (λ r. row ∷ r) (drop_more rows (q + 1) [] within) in
    let six : length (drop 2 row) ≡ 6 = simp length-drop (omega arith) in
    let places : drop (8 * q) (drop 2 (joined rows)) ≡ drop 2 (drop (8 * q) (joined rows)) =
    drop-drop (8 * q) 2 (joined rows) ∙ ap (λ n. drop n (joined rows)) (add_comm 2 (8 * q)) ∙ sym (drop-drop 2 (8 * q) (joined rows)) in
    ap (take 8) (places ∙ ap (drop 2) (joined-drop q rows eight ∙ ap joined split) ∙ drop-append-le 2 row (behind ++ joined rest) (omega arith))
    ∙ take-add 6 2 (drop 2 row ++ (behind ++ joined rest))
    ∙ rw (take_at (drop 2 row) (behind ++ joined rest) 6 six, drop_at (drop 2 row) (behind ++ joined rest) 6 six)
    (ap (λ v. drop 2 row ++ v) (take-append-le 2 behind (joined rest) (omega arith)))

-- all rows two words on, with a new one behind
pub rows-two_on : (rows : List (List ℕ)) (new : List ℕ) → AreRows rows → length new ≡ 8
    → (drop 2 (get_or rows 0 []) ++ take 2 (get_or rows 1 [])) ∷ (drop 2 (get_or rows 1 []) ++ take 2 (get_or rows 2 []))
    ∷ (drop 2 (get_or rows 2 []) ++ take 2 (get_or rows 3 [])) ∷ (drop 2 (get_or rows 3 []) ++ take 2 (get_or rows 4 []))
    ∷ (drop 2 (get_or rows 4 []) ++ take 2 (get_or rows 5 [])) ∷ (drop 2 (get_or rows 5 []) ++ take 2 (get_or rows 6 []))
    ∷ (drop 2 (get_or rows 6 []) ++ take 2 (get_or rows 7 [])) ∷ (drop 2 (get_or rows 7 []) ++ take 2 new) ∷ []
    ≡ table (row_of (drop 2 (joined rows ++ new))) 8
unfolding table
rows-two_on rows new are long =
    let all = rows ++ new ∷ [] in
    let sized = are.sized in
    let count : length all ≡ 9 = simp length-append (omega arith) in
    let eight : All Eight all = All-append Eight rows (new ∷ []) are.eight (All-cons Eight new [] long (All-nil Eight)) in
    let joint : joined all ≡ joined rows ++ new = sym (flat_map_more (λ row. row) [] rows new) in
    let old : (q : ℕ) → q < 8 → get_or all q [] ≡ get_or rows q [] = λ q below. get_or_append_left rows (new ∷ []) [] q (omega arith) in
    let last : get_or all 8 [] ≡ new = get_or-append_right rows (new ∷ []) 8 8 [] sized (omega arith) in
    let inner : (q : ℕ) → q + 1 < 8 → drop 2 (get_or rows q []) ++ take 2 (get_or rows (q + 1) []) ≡ row_of (drop 2 (joined rows ++ new)) q =
    λ q below. rw (← old q (omega arith), ← old (q + 1) below, ← joint) (sym (row-two_on all q eight (omega arith))) in
    let outer : drop 2 (get_or rows 7 []) ++ take 2 new ≡ row_of (drop 2 (joined rows ++ new)) 7 =
    rw (← old 7 (omega arith), ← joint) (ap (λ v. drop 2 (get_or all 7 []) ++ take 2 v) (sym last) ∙ sym (row-two_on all 7 eight (omega arith))) in
    rw (inner 0 (omega arith), inner 1 (omega arith), inner 2 (omega arith), inner 3 (omega arith), inner 4 (omega arith), inner 5 (omega arith), inner 6 (omega arith), outer) refl

pub two_on-long : (rows : List (List ℕ)) (new : List ℕ) → AreRows rows → length new ≡ 8 → 64 ≤ length (drop 2 (joined rows ++ new))
two_on-long rows new are long =
    let all = length-joined rows are.eight in
    let sized = are.sized in
    simp (length-drop, length-append) (omega arith)

-- by a shuffle
pub two-on : (row behind : List ℕ) → length row ≡ 8 → length behind ≡ 8 → table (λ k. get_or (row ++ behind) (2 + k) 0) 8 ≡ drop 2 row ++ take 2 behind
two-on row behind first second =
    let all = row ++ behind in
    let six : length (drop 2 row) ≡ 6 = simp length-drop (omega arith) in
    let parts : take 8 (drop 2 all) ≡ drop 2 row ++ take 2 behind =
    ap (take 8) (drop-append-le 2 row behind (omega arith)) ∙ take-add 6 2 (drop 2 row ++ behind)
    ∙ rw (take_at (drop 2 row) behind 6 six, drop_at (drop 2 row) behind 6 six) refl in
    let long : 8 ≤ length (drop 2 all) = simp (length-drop, length-append) (omega arith) in
    sym (table-of_items (λ k. get_or all (2 + k) 0) 8 0 (take 8 (drop 2 all)) (length-take-le 8 (drop 2 all) long)
    (λ k below. get_or-take 8 (drop 2 all) k 0 below ∙ get_or-drop 2 all k 0)) ∙ parts
