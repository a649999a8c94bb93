-- What was read fits, and is written again as it stood.
use Rattle.std.proofs.Common.{◌≡◌, ℕ, zero, suc, ◌+◌, ◌-◌, ◌*◌, ◌^◌, ◌<◌, ◌≤◌, List, [], ◌∷◌, All, length, take, drop, refl, sym, ap, subst, ◌∙◌, arith, take-add}
use Rattle.std.specs.List.{flat_map}
use Rattle.std.proofs.lemmas.Grind.{flat_map-append}
use Rattle.std.proofs.lemmas.List.{take_all, length-take, length-drop, append-nil}
use Rattle.std.proofs.lemmas.List.Concat.{flat_map-cons}
use Rattle.byteorder.specs.Endian.{big_bytes, big_number}
use Rattle.byteorder.specs.Numbers.{big_from-lt}
use native.Mathlib.Nat.{mul-suc, mul-zero}
use Rattle.spin_model.specs.Lattice.{half_plane}
use Rattle.spin_model.specs.Steps.{table}
use Rattle.spin_model.specs.Words.{AreGeneratorWords, words_32, words_64}
use Rattle.spin_model.proofs.Tables.{length-table, get_or-table}
use Rattle.plane_sweep.specs.Packed.{FitsPlane, FitsReplica, FitsDuo, ArePairGenerators}
use Rattle.run_checkpoint.proofs.Items.{item-room}
use Rattle.run_checkpoint.specs.Lengths.{plane_len, replica_len, slot_len, contents_len}
use Rattle.run_checkpoint.specs.PackedBytes.{packed_plane, packed_replica, packed_slot, packed_pair, packed_contents}
use Rattle.run_checkpoint.specs.Reading.{piece, items_at, words_at, plane_in, replica_in, slot_in, pair_in, slots_in, pairs_in}
use Rattle.glass_edges.proofs.NumberBytes.{IsBytes, bytes-drop, bytes-take, join, long_word-back, word-back}

-- ---- items

pub all-table : {X : Type 0} (P : X → Type 0) (f : ℕ → X) (n : ℕ) → ((k : ℕ) → k < n → P (f k)) → All P (table f n)
all-table P f n each = λ k d within. let below : k < n = omega (arith, length-table f n) in subst P (sym (get_or-table f n k d below)) (each k below)

-- the start of item k leaves room for it
pub item-long : (len n k : ℕ) (bytes : List ℕ) → len * n ≤ length bytes → len * k + len ≤ len * n → len ≤ length (drop (len * k) bytes)
item-long len n k bytes long room = omega (arith, length-drop (len * k) bytes)

pub items-back-at : {X : Type 0} (read : List ℕ → X) (f : X → List ℕ) (len n : ℕ) (bytes : List ℕ) → IsBytes bytes → len * n ≤ length bytes
    → ((k : ℕ) → k < n → f (read (drop (len * k) bytes)) ≡ take len (drop (len * k) bytes)) → flat_map f (items_at read len n bytes) ≡ take (len * n) bytes
unfolding table
items-back-at read f len zero bytes are long back = sym (ap (λ k. take k bytes) (mul-zero len))
items-back-at read f len (suc n) bytes are long back =
    let step : len * suc n ≡ len * n + len = mul-suc len n in
    let before = items-back-at read f len n bytes are (omega (arith, step)) (λ k below. back k (omega arith)) in
    let last = back n (omega arith) in
    flat_map-append f (items_at read len n bytes) (read (drop (len * n) bytes) ∷ [])
    ∙ join _ _ _ _ before (flat_map-cons f (read (drop (len * n) bytes)) [] ∙ append-nil (f (read (drop (len * n) bytes))) ∙ last)
    ∙ sym (take-add (len * n) len bytes)
    ∙ ap (λ k. take k bytes) (sym step)

-- the same where each item is written as it stood whatever it is
pub items-back : {X : Type 0} (read : List ℕ → X) (f : X → List ℕ) (len n : ℕ) (bytes : List ℕ) → IsBytes bytes → len * n ≤ length bytes
    → ((rest : List ℕ) → IsBytes rest → len ≤ length rest → f (read rest) ≡ take len rest) → flat_map f (items_at read len n bytes) ≡ take (len * n) bytes
items-back read f len n bytes are long back =
    items-back-at read f len n bytes are long (λ k below.
    back (drop (len * k) bytes) (bytes-drop (len * k) bytes are) (item-long len n k bytes long (item-room len n k below)))

pub words-back : (n : ℕ) (bytes : List ℕ) → IsBytes bytes → length bytes ≡ 4 * n → words_32 (words_at 4 n bytes) ≡ bytes
words-back n bytes are sized =
    items-back (big_number 4) (big_bytes 4) 4 n bytes are (omega (arith, sized)) word-back
    ∙ take_all (4 * n) bytes (omega (arith, sized))

pub long_words-back : (n : ℕ) (bytes : List ℕ) → IsBytes bytes → length bytes ≡ 8 * n → words_64 (words_at 8 n bytes) ≡ bytes
long_words-back n bytes are sized =
    items-back (big_number 8) (big_bytes 8) 8 n bytes are (omega (arith, sized)) long_word-back
    ∙ take_all (8 * n) bytes (omega (arith, sized))

pub words-fit : (w n : ℕ) (bytes : List ℕ) → IsBytes bytes → All (λ x. x < 256 ^ w) (words_at w n bytes)
words-fit w n bytes are = all-table (λ x. x < 256 ^ w) (λ i. big_number w (drop (w * i) bytes)) n (λ k below. big_from-lt 0 w (drop (w * k) bytes) (bytes-drop (w * k) bytes are))

pub piece-length : (place len : ℕ) (bytes : List ℕ) → place + len ≤ length bytes → length (piece place len bytes) ≡ len
piece-length place len bytes long = omega (arith, length-take len (drop place bytes), length-drop place bytes)

pub piece-bytes : (place len : ℕ) (bytes : List ℕ) → IsBytes bytes → IsBytes (piece place len bytes)
piece-bytes place len bytes are = bytes-take len (drop place bytes) (bytes-drop place bytes are)

generator-fits : (bytes : List ℕ) → IsBytes bytes → AreGeneratorWords (words_at 4 61 bytes)
generator-fits bytes are = record {
  sized = length-table _ 61;
  in_range = words-fit 4 61 bytes are;
}

-- ---- planes, replicas, slots, pairs

plane-back : (l : ℕ) (bytes : List ℕ) → IsBytes bytes → plane_len l ≤ length bytes → packed_plane (plane_in l bytes) ≡ take (plane_len l) bytes
unfolding plane_in packed_plane plane_len
plane-back l bytes are long =
    join _ _ _ _
    (words-back 61 (piece 0 244 bytes) (piece-bytes 0 244 bytes are) (piece-length 0 244 bytes (omega arith)))
    (long_words-back (half_plane l) (piece 244 (8 * half_plane l) bytes) (piece-bytes 244 (8 * half_plane l) bytes are) (piece-length 244 (8 * half_plane l) bytes (omega arith)))
    ∙ sym (take-add 244 (8 * half_plane l) bytes)

plane-fits : (l : ℕ) (bytes : List ℕ) → IsBytes bytes → FitsPlane l (plane_in l bytes)
unfolding plane_in
plane-fits l bytes are = record {
  sized = length-table _ (half_plane l);
  in_range = words-fit 8 (half_plane l) _ (piece-bytes 244 (8 * half_plane l) bytes are);
  generator = generator-fits _ (piece-bytes 0 244 bytes are);
}

replica-back : (l : ℕ) (bytes : List ℕ) → IsBytes bytes → replica_len l ≤ length bytes → packed_replica (replica_in l bytes) ≡ take (replica_len l) bytes
unfolding replica_in packed_replica replica_len
replica-back l bytes are long =
    join _ _ _ _ refl (items-back (plane_in l) packed_plane (plane_len l) (2 * l) (drop 64 bytes) (bytes-drop 64 bytes are) (omega (arith, length-drop 64 bytes)) (plane-back l))
    ∙ sym (take-add 64 (plane_len l * (2 * l)) bytes)

replica-fits : (l : ℕ) (bytes : List ℕ) → IsBytes bytes → 64 ≤ length bytes → FitsReplica l (replica_in l bytes)
unfolding replica_in
replica-fits l bytes are long = record {
  count = length-table _ (2 * l);
  planes = all-table (FitsPlane l) _ (2 * l) (λ k below. plane-fits l _ (bytes-drop (plane_len l * k) _ (bytes-drop 64 bytes are)));
  labels = omega (arith, length-take 64 bytes);
}

replica-long : (l : ℕ) → 64 ≤ replica_len l
unfolding replica_len
replica-long l = omega arith

slot-back : (l : ℕ) (bytes : List ℕ) → IsBytes bytes → slot_len l ≤ length bytes → packed_slot (slot_in l bytes) ≡ take (slot_len l) bytes
unfolding slot_in packed_slot slot_len
slot-back l bytes are long =
    let twice : 2 * replica_len l ≡ replica_len l + replica_len l = omega arith in
    join _ _ _ _ (replica-back l bytes are (omega arith)) (replica-back l (drop (replica_len l) bytes) (bytes-drop (replica_len l) bytes are) (omega (arith, length-drop (replica_len l) bytes)))
    ∙ sym (take-add (replica_len l) (replica_len l) bytes)
    ∙ ap (λ k. take k bytes) (sym twice)

slot-fits : (l : ℕ) (bytes : List ℕ) → IsBytes bytes → slot_len l ≤ length bytes → FitsDuo l (slot_in l bytes)
unfolding slot_in slot_len
slot-fits l bytes are long = record {
  first = replica-fits l bytes are (omega (arith, replica-long l));
  second = replica-fits l _ (bytes-drop (replica_len l) bytes are) (omega (arith, replica-long l, length-drop (replica_len l) bytes));
}

pair-back : (bytes : List ℕ) → IsBytes bytes → 488 ≤ length bytes → packed_pair (pair_in bytes) ≡ take 488 bytes
unfolding pair_in packed_pair
pair-back bytes are long =
    join _ _ _ _
    (words-back 61 (piece 0 244 bytes) (piece-bytes 0 244 bytes are) (piece-length 0 244 bytes (omega arith)))
    (words-back 61 (piece 244 244 bytes) (piece-bytes 244 244 bytes are) (piece-length 244 244 bytes (omega arith)))
    ∙ sym (take-add 244 244 bytes)

pair-fits : (bytes : List ℕ) → IsBytes bytes → ArePairGenerators (pair_in bytes)
unfolding pair_in
pair-fits bytes are = record { first = generator-fits _ (piece-bytes 0 244 bytes are); second = generator-fits _ (piece-bytes 244 244 bytes are) }

-- ---- all slots and pairs

slots-back : (l n : ℕ) (bytes : List ℕ) → IsBytes bytes → slot_len l * n ≤ length bytes → flat_map packed_slot (slots_in l n bytes) ≡ take (slot_len l * n) bytes
unfolding slots_in
slots-back l n bytes are long = items-back (slot_in l) packed_slot (slot_len l) n bytes are long (slot-back l)

pub slots-fit : (l n : ℕ) (bytes : List ℕ) → IsBytes bytes → slot_len l * n ≤ length bytes → All (FitsDuo l) (slots_in l n bytes)
unfolding slots_in
slots-fit l n bytes are long = all-table (FitsDuo l) _ n (λ k below. slot-fits l _ (bytes-drop (slot_len l * k) bytes are) (item-long (slot_len l) n k bytes long (item-room (slot_len l) n k below)))

pub slots-count : (l n : ℕ) (bytes : List ℕ) → length (slots_in l n bytes) ≡ n
unfolding slots_in
slots-count l n bytes = length-table _ n

pub pairs-count : (l n : ℕ) (bytes : List ℕ) → length (pairs_in l n bytes) ≡ n - 1
unfolding pairs_in
pairs-count l n bytes = length-table _ (n - 1)

pub pairs-fit : (l n : ℕ) (bytes : List ℕ) → IsBytes bytes → All ArePairGenerators (pairs_in l n bytes)
unfolding pairs_in
pairs-fit l n bytes are = all-table ArePairGenerators _ (n - 1) (λ k below. pair-fits _ (bytes-drop (488 * k) _ (bytes-drop (slot_len l * n) bytes are)))

pub contents-back : (l n : ℕ) (bytes : List ℕ) → IsBytes bytes → contents_len l n ≤ length bytes → packed_contents (slots_in l n bytes) (pairs_in l n bytes) ≡ take (contents_len l n) bytes
unfolding packed_contents contents_len pairs_in
contents-back l n bytes are long =
    join _ _ _ _
    (slots-back l n bytes are (omega arith))
    (items-back pair_in packed_pair 488 (n - 1) (drop (slot_len l * n) bytes) (bytes-drop (slot_len l * n) bytes are) (omega (arith, length-drop (slot_len l * n) bytes)) pair-back)
    ∙ sym (take-add (slot_len l * n) (488 * (n - 1)) bytes)
