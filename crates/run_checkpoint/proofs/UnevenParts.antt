-- Positions and records: their bytes are read again, and what was read is written as it stood.
use Rattle.std.proofs.Common.{◌≡◌, ◌⊎◌, ℕ, ◌+◌, ◌*◌, ◌^◌, ◌<◌, ◌≤◌, Bool, true, false, cond, ℤ, List, [], ◌∷◌, ◌++◌, All, length, map, take, drop, get_or, refl, sym, ap, subst, ◌∙◌, arith, append_assoc, take-add, inl, inr}
use Rattle.std.specs.Prelude.{◌==◌, slice_index, FitsSigned}
use Rattle.std.specs.Int.{w32, cast_signed, cast_unsigned}
use Rattle.std.specs.List.{flat_map}
use Rattle.std.proofs.lemmas.Int.{of_z-to_z, to_z-of_z}
use Rattle.std.proofs.Math.Facts.{sfits_to_z}
use Rattle.std.proofs.lemmas.List.{take_more, get_or-drop, get_or_at, length-append, length-drop}
use Rattle.std.proofs.lemmas.List.Folds.{flat_map-map}
use Rattle.byteorder.specs.Endian.{big_bytes, big_number}
use Rattle.byteorder.specs.Numbers.{big_number-reads_back, big_from-lt}
use Rattle.sha2.proofs.Facts256.{length-sha256}
use Rattle.scalar_rule.specs.Plan.{Plan, slots_of}
use Rattle.scalar_rule.specs.Ragged.{Position}
use Rattle.scalar_rule.specs.declared.sample.Record.{Record}
use Rattle.plane_sweep.specs.Uneven.{position_of, FitsRecord}
use Rattle.run_plan.specs.CanonicalPlan.{canonical}
use Rattle.plane_sweep.specs.declared.replica.Duo.{Duo}
use Rattle.plane_sweep.specs.declared.stand.PairWheels.{PairWheels}
use Rattle.plane_sweep.specs.declared.uneven.Place.{Place}
use Rattle.run_checkpoint.specs.Kinds.{position_bytes, record_bytes, signed_bytes, Standing, Level, Uneven, letters, shape, kept, header}
use Rattle.run_checkpoint.specs.Lengths.{contents_len, encoding_len, uneven_len, standing_len}
use Rattle.run_checkpoint.specs.PackedBytes.{packed_contents}
use Rattle.run_checkpoint.specs.Reading.{piece}
use Rattle.run_checkpoint.specs.Rooms.{RoomView, Puts}
use Rattle.run_checkpoint.specs.UnevenDecoding.{place_in, record_in, signed_at}
use Rattle.run_checkpoint.proofs.Forms.{next-part}
use Rattle.spin_model.proofs.Tables.{length-table}
use Rattle.run_checkpoint.specs.Reading.{items_at}
use Rattle.run_checkpoint.specs.UnevenDecoding.{phase_in, places_in, records_in}
use Rattle.run_checkpoint.proofs.Items.{item-room}
use Rattle.run_checkpoint.proofs.PackedParts.{packed_bank}
use Rattle.run_checkpoint.proofs.PartLengths.{flat-length}
use Rattle.run_checkpoint.proofs.ReadAgain.{items-again, flat-drop}
use Rattle.run_checkpoint.proofs.WrittenAgain.{items-back, items-back-at, item-long, all-table}
use Rattle.glass_edges.proofs.NumberBytes.{IsBytes, bytes-drop, long_word-back, word-back}
use Rattle.spin_model.proofs.WordBytes.{length-big_bytes}
use Rattle.scalar_rule.specs.Records.{no_record}
use Rattle.scalar_rule.proofs.UnevenReached.{phase-waits}

-- ---- positions

pub length-position : (p : Position) → length (position_bytes p) ≡ 9
unfolding position_bytes
length-position p = omega (arith, length-append (big_bytes 8 p.epoch) (cond p.waits 2 0 ∷ []), length-big_bytes 8 p.epoch)

pub mapped-positions : (places : List Place) → flat_map (λ p. position_bytes (position_of p)) places ≡ flat_map position_bytes (map position_of places)
mapped-positions places = sym (flat_map-map position_bytes position_of places)

same-place : (epoch : ℕ) (arrived : Bool) (p : Place) → epoch ≡ p.epoch → arrived ≡ p.arrived → (let q : Place = record { epoch = epoch; arrived = arrived } in q ≡ p)
same-place epoch arrived p x y = rw (x, y) refl

pub place-again : (p : Place) (tail : List ℕ) → p.epoch < 2 ^ 64 → place_in (position_bytes (position_of p) ++ tail) ≡ p
unfolding place_in position_bytes
place-again p tail small =
    let phase = cond p.arrived 2 0 in
    let whole : (big_bytes 8 p.epoch ++ (phase ∷ [])) ++ tail ≡ big_bytes 8 p.epoch ++ (phase ∷ tail) = append_assoc (big_bytes 8 p.epoch) (phase ∷ []) tail in
    same-place _ _ p
    (ap (big_number 8) whole ∙ big_number-reads_back 8 p.epoch (phase ∷ tail) small)
    (ap (λ x. slice_index x 8 == 2) whole ∙ ap (λ x. x == 2) (get_or_at (big_bytes 8 p.epoch) phase tail 0 8 (length-big_bytes 8 p.epoch)) ∙ phase-waits p.arrived)

pub position-back : (bytes : List ℕ) → IsBytes bytes → 9 ≤ length bytes → (slice_index bytes 8 ≡ 0) ⊎ (slice_index bytes 8 ≡ 2) → position_bytes (position_of (place_in bytes)) ≡ take 9 bytes
unfolding place_in position_bytes
position-back bytes are long phase =
    let own : cond (slice_index bytes 8 == 2) 2 0 ≡ slice_index bytes 8 = elim phase [
      | inl e ↦ rw e refl
      | inr e ↦ rw e refl
    ] in
    ap (λ x. x ++ (cond (slice_index bytes 8 == 2) 2 0 ∷ [])) (long_word-back bytes are (omega arith))
    ∙ ap (λ x. take 8 bytes ++ (x ∷ [])) own
    ∙ sym (take_more bytes 8 0 (omega arith))

-- ---- records

pub length-record : (r : Record) → length (record_bytes r) ≡ 14
unfolding record_bytes
length-record r = omega (
  arith,
  length-append (signed_bytes r.first_energy) (signed_bytes r.second_energy ++ (signed_bytes r.overlap ++ (r.first_replica ∷ r.second_replica ∷ []))),
  length-append (signed_bytes r.second_energy) (signed_bytes r.overlap ++ (r.first_replica ∷ r.second_replica ∷ [])),
  length-append (signed_bytes r.overlap) (r.first_replica ∷ r.second_replica ∷ []),
  length-big_bytes 4 (cast_unsigned w32 r.first_energy),
  length-big_bytes 4 (cast_unsigned w32 r.second_energy),
  length-big_bytes 4 (cast_unsigned w32 r.overlap),
)

unsigned-small : (z : ℤ) → FitsSigned w32 z → cast_unsigned w32 z < 256 ^ 4
unsigned-small z fits = search arith

signed-again : (z : ℤ) (place : ℕ) (bytes rest : List ℕ) → FitsSigned w32 z → drop place bytes ≡ signed_bytes z ++ rest → signed_at place bytes ≡ z
signed-again z place bytes rest fits at =
    ap (cast_signed w32) (ap (big_number 4) at ∙ big_number-reads_back 4 (cast_unsigned w32 z) rest (unsigned-small z fits))
    ∙ to_z-of_z w32 z fits

signed-back : (place : ℕ) (bytes : List ℕ) → IsBytes bytes → place + 4 ≤ length bytes → signed_bytes (signed_at place bytes) ≡ piece place 4 bytes
signed-back place bytes are long =
    let rest = drop place bytes in
    let are_rest = bytes-drop place bytes are in
    ap (big_bytes 4) (of_z-to_z w32 (big_number 4 rest) (big_from-lt 0 4 rest are_rest))
    ∙ word-back rest are_rest (omega (arith, length-drop place bytes))

same-record : (a b c : ℤ) (d e : ℕ) (r : Record) → a ≡ r.first_energy → b ≡ r.second_energy → c ≡ r.overlap → d ≡ r.first_replica → e ≡ r.second_replica
    → (let q : Record = record { first_energy = a; second_energy = b; overlap = c; first_replica = d; second_replica = e } in q ≡ r)
same-record a b c d e r p q s t u = rw (p, q, s, t, u) refl

five : (a b c d e : List ℕ) → (a ++ (b ++ (c ++ d))) ++ e ≡ a ++ (b ++ (c ++ (d ++ e)))
five a b c d e = simp append_assoc

at-drop : (place i : ℕ) (bytes : List ℕ) → slice_index bytes (place + i) ≡ slice_index (drop place bytes) i
at-drop place i bytes = sym (get_or-drop place bytes i 0)

pub record-again : (r : Record) (tail : List ℕ) → FitsRecord r → record_in (record_bytes r ++ tail) ≡ r
unfolding record_in record_bytes
record-again r tail fits =
    let a = signed_bytes r.first_energy in
    let b = signed_bytes r.second_energy in
    let c = signed_bytes r.overlap in
    let d = r.first_replica ∷ r.second_replica ∷ [] in
    let xs = (a ++ (b ++ (c ++ d))) ++ tail in
    let first = next-part xs a (b ++ (c ++ (d ++ tail))) 0 4 4 (five a b c d tail) (length-big_bytes 4 (cast_unsigned w32 r.first_energy)) refl in
    let second = next-part xs b (c ++ (d ++ tail)) 4 4 8 first.1 (length-big_bytes 4 (cast_unsigned w32 r.second_energy)) refl in
    let third = next-part xs c (d ++ tail) 8 4 12 second.1 (length-big_bytes 4 (cast_unsigned w32 r.overlap)) refl in
    same-record _ _ _ _ _ r
    (signed-again r.first_energy 0 xs _ fits.first_energy (five a b c d tail))
    (signed-again r.second_energy 4 xs _ fits.second_energy first.1)
    (signed-again r.overlap 8 xs _ fits.overlap second.1)
    (at-drop 12 0 xs ∙ ap (λ ys. slice_index ys 0) third.1)
    (at-drop 12 1 xs ∙ ap (λ ys. slice_index ys 1) third.1)

four-pieces : (bytes : List ℕ) (x y : ℕ) → 14 ≤ length bytes → take 14 bytes ≡ piece 0 4 bytes ++ (piece 4 4 bytes ++ (piece 8 4 bytes ++ (slice_index bytes 12 ∷ slice_index bytes 13 ∷ [])))
four-pieces bytes x y long =
    let last : take 14 bytes ≡ take 13 bytes ++ (slice_index bytes 13 ∷ []) = take_more bytes 13 0 (omega arith) in
    let before : take 13 bytes ≡ take 12 bytes ++ (slice_index bytes 12 ∷ []) = take_more bytes 12 0 (omega arith) in
    let twelve : take 12 bytes ≡ take 8 bytes ++ piece 8 4 bytes = take-add 8 4 bytes in
    let eight : take 8 bytes ≡ take 4 bytes ++ piece 4 4 bytes = take-add 4 4 bytes in
    last ∙ ap (λ xs. xs ++ (slice_index bytes 13 ∷ [])) (before ∙ ap (λ xs. xs ++ (slice_index bytes 12 ∷ [])) (twelve ∙ ap (λ xs. xs ++ piece 8 4 bytes) eight))
    ∙ nested (take 4 bytes) (piece 4 4 bytes) (piece 8 4 bytes) (slice_index bytes 12) (slice_index bytes 13)
  where
    nested : (a b c : List ℕ) (x y : ℕ) → (((a ++ b) ++ c) ++ (x ∷ [])) ++ (y ∷ []) ≡ a ++ (b ++ (c ++ (x ∷ y ∷ [])))
    nested a b c x y = simp append_assoc

pub record-back : (bytes : List ℕ) → IsBytes bytes → 14 ≤ length bytes → record_bytes (record_in bytes) ≡ take 14 bytes
unfolding record_in record_bytes
record-back bytes are long =
    let x = slice_index bytes 12 in
    let y = slice_index bytes 13 in
    ap (λ s. s ++ (signed_bytes (signed_at 4 bytes) ++ (signed_bytes (signed_at 8 bytes) ++ (x ∷ y ∷ [])))) (signed-back 0 bytes are (omega arith))
    ∙ ap (λ s. piece 0 4 bytes ++ (s ++ (signed_bytes (signed_at 8 bytes) ++ (x ∷ y ∷ [])))) (signed-back 4 bytes are (omega arith))
    ∙ ap (λ s. piece 0 4 bytes ++ (piece 4 4 bytes ++ (s ++ (x ∷ y ∷ [])))) (signed-back 8 bytes are (omega arith))
    ∙ sym (four-pieces bytes x y (omega arith))

pub record-fits : (bytes : List ℕ) → IsBytes bytes → FitsRecord (record_in bytes)
unfolding record_in
record-fits bytes are = record {
  first_energy = sfits_to_z {w = w32} {n = big_number 4 (drop 0 bytes)} (record { fits = big_from-lt 0 4 (drop 0 bytes) (bytes-drop 0 bytes are) });
  second_energy = sfits_to_z {w = w32} {n = big_number 4 (drop 4 bytes)} (record { fits = big_from-lt 0 4 (drop 4 bytes) (bytes-drop 4 bytes are) });
  overlap = sfits_to_z {w = w32} {n = big_number 4 (drop 8 bytes)} (record { fits = big_from-lt 0 4 (drop 8 bytes) (bytes-drop 8 bytes are) });
  first_replica = are 12;
  second_replica = are 13;
}

-- ---- lists of them

pub length-positions : (places : List Place) → length (flat_map position_bytes (map position_of places)) ≡ 9 * length places
length-positions places = ap length (sym (mapped-positions places)) ∙ flat-length (λ p. position_bytes (position_of p)) 9 places (λ k d within. length-position (position_of (get_or places k d)))

pub length-records : (records : List Record) → length (flat_map record_bytes records) ≡ 14 * length records
length-records records = flat-length record_bytes 14 records (λ k d within. length-record (get_or records k d))

no_place : Place
no_place = record { epoch = 0; arrived = false }

pub places-again : (n : ℕ) (places : List Place) (tail : List ℕ) → length places ≡ n → ((k : ℕ) (d : Place) → k < n → (get_or places k d).epoch < 2 ^ 64) → places_in n (flat_map position_bytes (map position_of places) ++ tail) ≡ places
unfolding places_in
places-again n places tail sized small =
    ap (λ x. items_at place_in 9 n (x ++ tail)) (sym (mapped-positions places))
    ∙ items-again place_in (λ p. position_bytes (position_of p)) 9 n places tail no_place sized
    (λ k d within. length-position (position_of (get_or places k d)))
    (λ k more below. place-again (get_or places k no_place) more (small k no_place below))

pub records-again : (n : ℕ) (records : List Record) (tail : List ℕ) → length records ≡ n → All FitsRecord records → records_in n (flat_map record_bytes records ++ tail) ≡ records
unfolding records_in
records-again n records tail sized fit =
    items-again record_in record_bytes 14 n records tail no_record sized
    (λ k d within. length-record (get_or records k d))
    (λ k more below. record-again (get_or records k no_record) more (fit k no_record (omega (arith, sized))))

pub places-back : (n : ℕ) (bytes : List ℕ) → IsBytes bytes → 9 * n ≤ length bytes → ((t : ℕ) → t < n → (phase_in bytes t ≡ 0) ⊎ (phase_in bytes t ≡ 2))
    → flat_map position_bytes (map position_of (places_in n bytes)) ≡ take (9 * n) bytes
unfolding places_in
places-back n bytes are long phases =
    sym (mapped-positions (items_at place_in 9 n bytes))
    ∙ items-back-at place_in (λ p. position_bytes (position_of p)) 9 n bytes are long (λ k below.
    let h : (slice_index (drop (9 * k) bytes) 8 ≡ 0) ⊎ (slice_index (drop (9 * k) bytes) 8 ≡ 2) = subst (λ x. (x ≡ 0) ⊎ (x ≡ 2)) (sym (get_or-drop (9 * k) bytes 8 0)) (phases k below) in
    position-back (drop (9 * k) bytes) (bytes-drop (9 * k) bytes are) (item-long 9 n k bytes long (item-room 9 n k below)) h)

pub records-back : (n : ℕ) (bytes : List ℕ) → IsBytes bytes → 14 * n ≤ length bytes → flat_map record_bytes (records_in n bytes) ≡ take (14 * n) bytes
unfolding records_in
records-back n bytes are long = items-back record_in record_bytes 14 n bytes are long record-back

pub records-count : (n : ℕ) (bytes : List ℕ) → length (records_in n bytes) ≡ n
unfolding records_in
records-count n bytes = length-table _ n

pub records-fit : (n : ℕ) (bytes : List ℕ) → IsBytes bytes → All FitsRecord (records_in n bytes)
unfolding records_in
records-fit n bytes are = all-table FitsRecord _ n (λ k below. record-fits _ (bytes-drop (14 * k) bytes are))

-- what they take of a buffer
pub position-spare : (a b : RoomView) (p : Position) → Puts a b (position_bytes p) → b.spare + 9 ≡ a.spare
position-spare a b p puts = omega (arith, puts.spare, length-position p)

pub record-spare : (a b : RoomView) (r : Record) → Puts a b (record_bytes r) → b.spare + 14 ≡ a.spare
record-spare a b r puts = omega (arith, puts.spare, length-record r)

-- the phase of a position among others
abbrev phase_number : Bool → ℕ
phase_number b = cond b 2 0

either-phase : (b : Bool) → (phase_number b ≡ 0) ⊎ (phase_number b ≡ 2)
either-phase true = inr refl
either-phase false = inl refl

phase-one : (p : Position) (tail : List ℕ) → (slice_index (position_bytes p ++ tail) 8 ≡ 0) ⊎ (slice_index (position_bytes p ++ tail) 8 ≡ 2)
unfolding position_bytes
phase-one p tail =
    let phase = phase_number p.waits in
    let whole : (big_bytes 8 p.epoch ++ (phase ∷ [])) ++ tail ≡ big_bytes 8 p.epoch ++ (phase ∷ tail) = append_assoc (big_bytes 8 p.epoch) (phase ∷ []) tail in
    let at : slice_index ((big_bytes 8 p.epoch ++ (phase ∷ [])) ++ tail) 8 ≡ phase = ap (λ x. slice_index x 8) whole ∙ get_or_at (big_bytes 8 p.epoch) phase tail 0 8 (length-big_bytes 8 p.epoch) in
    subst (λ x. (x ≡ 0) ⊎ (x ≡ 2)) (sym at) (either-phase p.waits)

pub phase-stored : (places : List Place) (tail : List ℕ) (t : ℕ) → t < length places
    → (phase_in (flat_map position_bytes (map position_of places) ++ tail) t ≡ 0) ⊎ (phase_in (flat_map position_bytes (map position_of places) ++ tail) t ≡ 2)
phase-stored places tail t h =
    let f : Place → List ℕ = λ p. position_bytes (position_of p) in
    let xs = flat_map f places ++ tail in
    let at = flat-drop f 9 places tail t no_place (λ k d within. length-position (position_of (get_or places k d))) h in
    let one = phase-one (position_of (get_or places t no_place)) at.0 in
    let here : slice_index xs (9 * t + 8) ≡ slice_index (f (get_or places t no_place) ++ at.0) 8 = sym (get_or-drop (9 * t) xs 8 0) ∙ ap (λ ys. slice_index ys 8) at.1 in
    subst (λ ys. (phase_in (ys ++ tail) t ≡ 0) ⊎ (phase_in (ys ++ tail) t ≡ 2)) (mapped-positions places)
    (subst (λ x. (x ≡ 0) ⊎ (x ≡ 2)) (sym here) one)

-- ---- the parts of a bank

pub length-positions_of : (ps : List Position) → length (flat_map position_bytes ps) ≡ 9 * length ps
length-positions_of ps = flat-length position_bytes 9 ps (λ k d within. length-position (get_or ps k d))

abbrev pub header_len : Standing → ℕ
header_len (Level epoch) = 56
header_len (Uneven samples every positions pending) = 64 + 9 * length positions

five-long : (a b c d e : List ℕ) → length (a ++ (b ++ (c ++ (d ++ e)))) ≡ length a + (length b + (length c + (length d + length e)))
five-long a b c d e = simp length-append

eight-long : (a b c d e f g h : List ℕ) → length (a ++ (b ++ ((c ++ d) ++ (e ++ (f ++ (g ++ h)))))) ≡ length a + (length b + (length c + length d + (length e + (length f + (length g + length h)))))
eight-long a b c d e f g h = simp length-append

pub length-header : (plan : Plan) (standing : Standing) → length (header plan standing) ≡ header_len standing
unfolding header shape
length-header plan (Level epoch) =
    five-long (letters (Level epoch)) _ (big_bytes 8 epoch) (big_bytes 4 plan.size) (big_bytes 4 (slots_of plan))
    ∙ omega (arith, length-sha256 (canonical plan), length-big_bytes 8 epoch, length-big_bytes 4 plan.size, length-big_bytes 4 (slots_of plan))
length-header plan (Uneven samples every ps rs) =
    eight-long (letters (Uneven samples every ps rs)) _ (big_bytes 4 plan.size) (big_bytes 4 (slots_of plan)) (big_bytes 4 samples) (big_bytes 8 every) (big_bytes 4 (length rs)) (flat_map position_bytes ps)
    ∙ omega (arith, length-sha256 (canonical plan), length-big_bytes 4 plan.size, length-big_bytes 4 (slots_of plan), length-big_bytes 4 samples, length-big_bytes 8 every, length-big_bytes 4 (length rs), length-positions_of ps)

-- positions stand for the plan's slots
abbrev pub AreSized : Plan → Standing → Type 0
AreSized plan (Level epoch) = Unit {0}
AreSized plan (Uneven samples every ps rs) = length ps ≡ slots_of plan

bank-lengths : (plan : Plan) (standing : Standing) → AreSized plan standing → header_len standing + contents_len plan.size (slots_of plan) + length (kept standing) + 32 ≡ standing_len plan standing
unfolding encoding_len uneven_len
bank-lengths plan (Level epoch) sized = omega arith
bank-lengths plan (Uneven samples every ps rs) sized = omega (arith, sized, length-records rs)

pub length-bank : (plan : Plan) (standing : Standing) (slots : List Duo) (pairs : List PairWheels) → AreSized plan standing → length (packed_contents slots pairs) ≡ contents_len plan.size (slots_of plan)
    → length (packed_bank plan standing slots pairs) + 32 ≡ standing_len plan standing
length-bank plan standing slots pairs sized long =
    let parts = length-append (header plan standing) (packed_contents slots pairs ++ kept standing) in
    omega (arith, long, parts, length-append (packed_contents slots pairs) (kept standing), length-header plan standing, bank-lengths plan standing sized)
