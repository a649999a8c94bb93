-- The bytes of kept states are read as they were written, and what is read is written so again.
use Rattle.std.proofs.Common.{◌≡◌, ℕ, zero, suc, ◌+◌, ◌-◌, ◌*◌, ◌<◌, ◌≤◌, ◌^◌, true, cond, List, [], ◌∷◌, ◌++◌, flat_map, length, take, drop, get_or, refl, sym, ap, ap₂, ◌∙◌, arith}
use Rattle.std.specs.Str.{bytes_eq}
use Rattle.std.proofs.lemmas.List.{take_at, drop_at, take-append-drop, length-append, length-take, length-drop, drop-drop, append_assoc, append-nil}
use Rattle.std.proofs.lemmas.Grind.{flat_map-append}
use Rattle.std.proofs.lemmas.Slice.Eq.{bytes_eq-Decides}
use Rattle.byteorder.specs.Endian.{big_bytes, big_number}
use Rattle.byteorder.specs.Numbers.{big_number-reads_back}
use Rattle.sha2.specs.Sha256.{sha256}
use Rattle.sha2.proofs.Facts256.{length-sha256}
use Rattle.glass_edges.specs.Sealed.{body_of, digest_of}
use Rattle.glass_edges.proofs.NumberBytes.{IsBytes, bytes-drop, word-back}
use Rattle.spin_model.specs.Steps.{table}
use Rattle.spin_model.proofs.Tables.{table-zero, table-more, length-table, table-of_items}
use Rattle.spin_model.proofs.WordBytes.{length-big_bytes}
use Rattle.quenched_states.specs.KeptBytes.{kept_kind, kept_header, kept_body, kept_encoding, kept_length}
use Rattle.quenched_states.specs.KeptTests.{are_kept, kept_count, state_bytes, states_in}
use Rattle.quenched_states.specs.ByteLaws.{HaveLength, HasFrame}

-- ---- states one after the other

abbrev joined : List (List ℕ) → List ℕ
joined states = flat_map (λ state. state) states

later : (len : ℕ) (x : List ℕ) (xs : List (List ℕ)) → HaveLength len (x ∷ xs) → HaveLength len xs
later len x xs sized k below = sized (suc k) (omega arith)

length-states : (len : ℕ) (states : List (List ℕ)) → HaveLength len states → length (joined states) ≡ length states * len
length-states len [] sized = omega arith
length-states len (x ∷ xs) sized =
    let first = sized 0 (omega arith) in
    let rest = length-states len xs (later len x xs sized) in
    let more : suc (length xs) * len ≡ len + length xs * len = omega arith in
    length-append x (joined xs) ∙ omega arith

state-at : (len : ℕ) (states : List (List ℕ)) (rest : List ℕ) (k : ℕ) → HaveLength len states → k < length states
    → take len (drop (len * k) (joined states ++ rest)) ≡ get_or states k []
state-at len [] rest k sized below = absurd (omega arith)
state-at len (x ∷ xs) rest zero sized below =
    let first = sized 0 (omega arith) in
    let none : len * 0 ≡ 0 = omega arith in
    ap (λ n. take len (drop n ((x ++ joined xs) ++ rest))) none
    ∙ ap (take len) (append_assoc x (joined xs) rest) ∙ take_at x (joined xs ++ rest) len first
state-at len (x ∷ xs) rest (suc k) sized below =
    let first = sized 0 (omega arith) in
    let more : len * suc k ≡ len + len * k = omega arith in
    ap (λ n. take len (drop n ((x ++ joined xs) ++ rest))) more
    ∙ ap (take len) (sym (drop-drop (len * k) len ((x ++ joined xs) ++ rest)))
    ∙ ap (λ ys. take len (drop (len * k) (drop len ys))) (append_assoc x (joined xs) rest)
    ∙ ap (λ ys. take len (drop (len * k) ys)) (drop_at x (joined xs ++ rest) len first)
    ∙ state-at len xs rest k (later len x xs sized) (omega arith)

-- ---- what is written

length-header : (count : ℕ) → length (kept_header count) ≡ 12
unfolding kept_header
length-header count = length-append kept_kind (big_bytes 4 count) ∙ omega (arith, length-big_bytes 4 count)

length-body : (len : ℕ) (states : List (List ℕ)) → HaveLength len states → length (kept_body states) ≡ 12 + length states * len
unfolding kept_body
length-body len states sized =
    length-append (kept_header (length states)) (joined states) ∙ omega (arith, length-header (length states), length-states len states sized)

pub kept-long : (len : ℕ) (states : List (List ℕ)) → HaveLength len states → length (kept_encoding states) ≡ kept_length (length states) len
unfolding kept_encoding
kept-long len states sized =
    length-append (kept_body states) (sha256 (kept_body states)) ∙ omega (arith, length-body len states sized, length-sha256 (kept_body states))

grouped : (m c b h : List ℕ) → ((m ++ c) ++ b) ++ h ≡ m ++ (c ++ (b ++ h))
grouped m c b h = simp append_assoc

in-parts : (states : List (List ℕ)) → kept_encoding states ≡ kept_kind ++ (big_bytes 4 (length states) ++ (joined states ++ sha256 (kept_body states)))
unfolding kept_encoding kept_body kept_header
in-parts states = grouped kept_kind (big_bytes 4 (length states)) (joined states) (sha256 (kept_body states))

-- the letters, the number and the states, each at its place
kind-at : (states : List (List ℕ)) → take 8 (kept_encoding states) ≡ kept_kind
kind-at states = ap (take 8) (in-parts states) ∙ take_at kept_kind (big_bytes 4 (length states) ++ (joined states ++ sha256 (kept_body states))) 8 refl

count-from : (states : List (List ℕ)) → drop 8 (kept_encoding states) ≡ big_bytes 4 (length states) ++ (joined states ++ sha256 (kept_body states))
count-from states = ap (drop 8) (in-parts states) ∙ drop_at kept_kind (big_bytes 4 (length states) ++ (joined states ++ sha256 (kept_body states))) 8 refl

count-at : (states : List (List ℕ)) → length states < 2 ^ 32 → kept_count (kept_encoding states) ≡ length states
count-at states few = ap (big_number 4) (count-from states) ∙ big_number-reads_back 4 (length states) (joined states ++ sha256 (kept_body states)) (omega arith)

states-from : (states : List (List ℕ)) → drop 12 (kept_encoding states) ≡ joined states ++ sha256 (kept_body states)
states-from states =
    sym (drop-drop 4 8 (kept_encoding states)) ∙ ap (drop 4) (count-from states)
    ∙ drop_at (big_bytes 4 (length states)) _ 4 (length-big_bytes 4 (length states))

letters-are : (bytes : List ℕ) → take 8 bytes ≡ kept_kind → are_kept bytes ≡ true
letters-are bytes same = (bytes_eq-Decides (take 8 bytes) kept_kind).1 same

chosen : (len : ℕ) (bytes : List ℕ) → take 8 bytes ≡ kept_kind → states_in len bytes ≡ table (state_bytes len bytes) (kept_count bytes)
chosen len bytes same = ap (λ c. cond c (table (state_bytes len bytes) (kept_count bytes)) (bytes ∷ [])) (letters-are bytes same)

pub kept-read : (len : ℕ) (states : List (List ℕ)) → HaveLength len states → length states < 2 ^ 32 → states_in len (kept_encoding states) ≡ states
kept-read len states sized few =
    let bytes = kept_encoding states in
    let each = table-of_items (state_bytes len bytes) (length states) [] states refl
    (λ k below. sym (ap (take len) (sym (drop-drop (len * k) 12 bytes))
    ∙ ap (λ ys. take len (drop (len * k) ys)) (states-from states)
    ∙ state-at len states (sha256 (kept_body states)) k sized below)) in
    chosen len bytes (kind-at states) ∙ ap (table (state_bytes len bytes)) (count-at states few) ∙ sym each

-- ---- the digest at the end

tail-at : (b h : List ℕ) → length h ≡ 32 → (digest_of (b ++ h) ≡ h) × (body_of (b ++ h) ≡ b)
tail-at b h e =
    let n : length (b ++ h) - 32 ≡ length b = omega (arith, length-append b h) in
    (rw n (drop_at b h (length b) refl), rw n (take_at b h (length b) refl))

kept-sealed : (states : List (List ℕ)) → digest_of (kept_encoding states) ≡ sha256 (body_of (kept_encoding states))
unfolding kept_encoding
kept-sealed states =
    let tail = tail-at (kept_body states) (sha256 (kept_body states)) (length-sha256 (kept_body states)) in
    tail.0 ∙ sym (ap sha256 tail.1)

pub kept-frame : (len most : ℕ) (states : List (List ℕ)) → HaveLength len states → 1 ≤ length states → length states ≤ most → most < 2 ^ 32 → HasFrame len most (kept_encoding states)
kept-frame len most states sized some few small =
    let count = count-at states (omega arith) in
    let long = kept-long len states sized in
    record {
      kind = kind-at states;
      some = omega arith;
      few = omega arith;
      long = long ∙ ap (λ n. kept_length n len) (sym count);
      digest = kept-sealed states;
    }

-- ---- what is read

joined-table : (item : ℕ → List ℕ) (n : ℕ) → joined (table item (n + 1)) ≡ joined (table item n) ++ item n
joined-table item n =
    ap joined (table-more item n)
    ∙ flat_map-append (λ state. state) (table item n) (item n ∷ [])
    ∙ ap (λ v. joined (table item n) ++ v) (append-nil (item n))

-- bytes from a place on, cut into n pieces
pieces : (bytes : List ℕ) (at len n : ℕ) → drop at bytes ≡ joined (table (λ j. take len (drop (at + len * j) bytes)) n) ++ drop (at + len * n) bytes
pieces bytes at len zero =
    let here : at + len * 0 ≡ at = omega arith in
    ap (λ u. drop u bytes) (sym here)
    ∙ ap (λ u. u ++ drop (at + len * 0) bytes) (sym (ap joined (table-zero (λ j. take len (drop (at + len * j) bytes)))))
pieces bytes at len (suc n) =
    let item = λ (j : ℕ). take len (drop (at + len * j) bytes) in
    let more : suc n ≡ n + 1 = omega arith in
    let next : at + len * n + len ≡ at + len * suc n = omega arith in
    let last : drop (at + len * n) bytes ≡ item n ++ drop (at + len * suc n) bytes = sym (take-append-drop len (drop (at + len * n) bytes))
    ∙ ap (λ u. item n ++ u) (drop-drop len (at + len * n) bytes ∙ ap (λ u. drop u bytes) next) in
    pieces bytes at len n ∙ ap (λ u. joined (table item n) ++ u) last
    ∙ sym (append_assoc (joined (table item n)) (item n) (drop (at + len * suc n) bytes))
    ∙ ap (λ u. u ++ drop (at + len * suc n) bytes) (sym (ap (λ m. joined (table item m)) more ∙ joined-table item n))

pub kept-one : (len most : ℕ) (bytes : List ℕ) → IsBytes bytes → HasFrame len most bytes → bytes ≡ kept_encoding (states_in len bytes)
unfolding kept_encoding kept_body kept_header
kept-one len most bytes are frame =
    let n = kept_count bytes in
    let states = table (state_bytes len bytes) n in
    let rest = drop (12 + len * n) bytes in
    let whole_length = frame.long in
    let product : n * len ≡ len * n = omega arith in
    let count : take 4 (drop 8 bytes) ≡ big_bytes 4 n = sym (word-back (drop 8 bytes) (bytes-drop 8 bytes are) (omega (arith, length-drop 8 bytes))) in
    let numbered : big_bytes 4 n ≡ big_bytes 4 (length states) = ap (big_bytes 4) (sym (length-table (state_bytes len bytes) n)) in
    let from8 : drop 8 bytes ≡ big_bytes 4 (length states) ++ drop 12 bytes = sym (take-append-drop 4 (drop 8 bytes))
    ∙ ap₂ (λ u v. u ++ v) (count ∙ numbered) (drop-drop 4 8 bytes) in
    let cut : bytes ≡ kept_kind ++ (big_bytes 4 (length states) ++ (joined states ++ rest)) = sym (take-append-drop 8 bytes)
    ∙ ap₂ (λ u v. u ++ v) frame.kind (from8 ∙ ap (λ u. big_bytes 4 (length states) ++ u) (pieces bytes 12 len n)) in
    let body = (kept_kind ++ big_bytes 4 (length states)) ++ joined states in
    let whole : bytes ≡ body ++ rest = cut ∙ sym (grouped kept_kind (big_bytes 4 (length states)) (joined states) rest) in
    let tail : length rest ≡ 32 = length-drop (12 + len * n) bytes ∙ omega arith in
    let ends = tail-at body rest tail in
    let digest : rest ≡ sha256 body = sym (ap digest_of whole ∙ ends.0) ∙ frame.digest ∙ ap sha256 (ap body_of whole ∙ ends.1) in
    whole ∙ ap (λ u. body ++ u) digest
    ∙ ap (λ v. ((kept_kind ++ big_bytes 4 (length v)) ++ joined v) ++ sha256 ((kept_kind ++ big_bytes 4 (length v)) ++ joined v)) (sym (chosen len bytes frame.kind))
