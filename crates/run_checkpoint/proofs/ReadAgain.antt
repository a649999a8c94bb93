-- What was written is read again, whatever follows it.
use Rattle.std.proofs.Common.{◌≡◌, ℕ, zero, suc, ◌+◌, ◌-◌, ◌*◌, ◌^◌, ◌<◌, List, [], ◌∷◌, ◌++◌, All, length, take, drop, get_or, refl, sym, ap, ◌∙◌, arith, append_assoc}
use Rattle.std.specs.List.{flat_map}
use Rattle.std.proofs.lemmas.List.{take_at, drop_at, drop-drop, append-nil}
use Rattle.std.proofs.lemmas.List.Concat.{flat_map-cons}
use Rattle.std.proofs.lemmas.List.Elements.{All-head, All-tail}
use Rattle.byteorder.specs.Endian.{big_bytes, big_number}
use Rattle.byteorder.specs.Numbers.{big_number-reads_back}
use native.Mathlib.Nat.{mul-suc, mul-zero}
use Rattle.spin_model.specs.Lattice.{half_plane}
use Rattle.spin_model.specs.Words.{AreGeneratorWords, words_32, words_64}
use Rattle.spin_model.proofs.Tables.{table-of_items}
use Rattle.plane_sweep.specs.Packed.{FitsPlane, FitsReplica, FitsDuo, ArePairGenerators}
use Rattle.plane_sweep.specs.declared.replica.Plane.{Plane}
use Rattle.plane_sweep.specs.declared.replica.Replica.{Replica}
use Rattle.plane_sweep.specs.declared.replica.Duo.{Duo}
use Rattle.plane_sweep.specs.declared.stand.PairWheels.{PairWheels}
use Rattle.plane_sweep.proofs.Empties.{no_plane, no_duo, no_wheels}
use Rattle.run_checkpoint.specs.Lengths.{plane_len, replica_len, slot_len}
use Rattle.run_checkpoint.specs.PackedBytes.{packed_plane, packed_replica, packed_slot, packed_pair, packed_contents}
use Rattle.run_checkpoint.specs.Reading.{piece, items_at, words_at, plane_in, replica_in, slot_in, pair_in, slots_in, pairs_in}
use Rattle.run_checkpoint.proofs.PartLengths.{length-plane, length-replica, length-slot, length-pair, length-slots}
use Rattle.spin_model.proofs.WordBytes.{length-big_bytes, length-words}

-- item k stands behind the k items before it
pub flat-drop : {X : Type 0} (f : X → List ℕ) (len : ℕ) (xs : List X) (rest : List ℕ) (k : ℕ) (d : X) → All (λ x. length (f x) ≡ len) xs → k < length xs
    → (tail : List ℕ) × (drop (len * k) (flat_map f xs ++ rest) ≡ f (get_or xs k d) ++ tail)
flat-drop f len [] rest k d all within = absurd (omega arith)
flat-drop f len (x ∷ xs) rest zero d all within =
    (flat_map f xs ++ rest, ap (λ n. drop n (flat_map f (x ∷ xs) ++ rest)) (mul-zero len) ∙ ap (λ ys. ys ++ rest) (flat_map-cons f x xs) ∙ append_assoc (f x) (flat_map f xs) rest)
flat-drop f len (x ∷ xs) rest (suc k) d all within =
    let here : length (f x) ≡ len = All-head (λ y. length (f y) ≡ len) x xs all in
    let later = flat-drop f len xs rest k d (All-tail (λ y. length (f y) ≡ len) x xs all) (omega arith) in
    let step : len * suc k ≡ len + len * k = omega (arith, mul-suc len k) in
    let whole : flat_map f (x ∷ xs) ++ rest ≡ f x ++ (flat_map f xs ++ rest) = ap (λ ys. ys ++ rest) (flat_map-cons f x xs) ∙ append_assoc (f x) (flat_map f xs) rest in (
      later.0,
      ap (λ ys. drop (len * suc k) ys) whole
          ∙ ap (λ n. drop n (f x ++ (flat_map f xs ++ rest))) step
          ∙ sym (drop-drop (len * k) len (f x ++ (flat_map f xs ++ rest)))
          ∙ ap (drop (len * k)) (drop_at (f x) (flat_map f xs ++ rest) len here)
          ∙ later.1,
    )

pub items-again : {X : Type 0} (read : List ℕ → X) (f : X → List ℕ) (len n : ℕ) (xs : List X) (rest : List ℕ) (d : X) → length xs ≡ n → All (λ x. length (f x) ≡ len) xs
    → ((k : ℕ) (tail : List ℕ) → k < n → read (f (get_or xs k d) ++ tail) ≡ get_or xs k d) → items_at read len n (flat_map f xs ++ rest) ≡ xs
items-again read f len n xs rest d sized all again =
    sym (table-of_items (λ i. read (drop (len * i) (flat_map f xs ++ rest))) n d xs sized (λ k below.
    let at = flat-drop f len xs rest k d all (omega (arith, sized)) in
    sym (ap read at.1 ∙ again k at.0 below)))

pub words-again : (w n : ℕ) (words : List ℕ) → length words ≡ n → All (λ x. x < 256 ^ w) words → words_at w n (flat_map (big_bytes w) words) ≡ words
words-again w n words sized small =
    ap (words_at w n) (sym (append-nil (flat_map (big_bytes w) words)))
    ∙ items-again (big_number w) (big_bytes w) w n words [] 0 sized (λ k d within. length-big_bytes w _)
    (λ k tail below. big_number-reads_back w (get_or words k 0) tail (small k 0 (omega (arith, sized))))

generator-again : (words : List ℕ) → AreGeneratorWords words → words_at 4 61 (words_32 words) ≡ words
generator-again words are = words-again 4 61 words are.sized are.in_range

same-plane : (words wheel : List ℕ) (plane : Plane) → words ≡ plane.words → wheel ≡ plane.wheel → (let p : Plane = record { words = words; wheel = wheel } in p ≡ plane)
same-plane words wheel plane p q = rw (p, q) refl

pub plane-again : (l : ℕ) (plane : Plane) (tail : List ℕ) → FitsPlane l plane → plane_in l (packed_plane plane ++ tail) ≡ plane
unfolding plane_in packed_plane
plane-again l plane tail fits =
    let wheel = words_32 plane.wheel in
    let words = words_64 plane.words in
    let long : length wheel ≡ 244 = length-words 4 plane.wheel ∙ omega (arith, fits.generator.sized) in
    let spins : length words ≡ 8 * half_plane l = length-words 8 plane.words ∙ omega (arith, fits.sized) in
    let whole : (wheel ++ words) ++ tail ≡ wheel ++ (words ++ tail) = append_assoc wheel words tail in
    let first : piece 0 244 ((wheel ++ words) ++ tail) ≡ wheel = ap (take 244) whole ∙ take_at wheel (words ++ tail) 244 long in
    let second : piece 244 (8 * half_plane l) ((wheel ++ words) ++ tail) ≡ words =
    ap (λ ys. take (8 * half_plane l) (drop 244 ys)) whole
    ∙ ap (take (8 * half_plane l)) (drop_at wheel (words ++ tail) 244 long)
    ∙ take_at words tail (8 * half_plane l) spins in
    same-plane _ _ plane
    (ap (words_at 8 (half_plane l)) second ∙ words-again 8 (half_plane l) plane.words fits.sized fits.in_range)
    (ap (words_at 4 61) first ∙ generator-again plane.wheel fits.generator)

same-replica : (planes : List Plane) (labels : List ℕ) (replica : Replica) → planes ≡ replica.planes → labels ≡ replica.labels → (let r : Replica = record { planes = planes; labels = labels } in r ≡ replica)
same-replica planes labels replica p q = rw (p, q) refl

pub replica-again : (l : ℕ) (replica : Replica) (tail : List ℕ) → FitsReplica l replica → replica_in l (packed_replica replica ++ tail) ≡ replica
unfolding replica_in packed_replica
replica-again l replica tail fits =
    let planes = flat_map packed_plane replica.planes in
    let whole : (replica.labels ++ planes) ++ tail ≡ replica.labels ++ (planes ++ tail) = append_assoc replica.labels planes tail in
    same-replica _ _ replica
    (ap (λ ys. items_at (plane_in l) (plane_len l) (2 * l) (drop 64 ys)) whole
    ∙ ap (items_at (plane_in l) (plane_len l) (2 * l)) (drop_at replica.labels (planes ++ tail) 64 fits.labels)
    ∙ items-again (plane_in l) packed_plane (plane_len l) (2 * l) replica.planes tail no_plane fits.count
    (λ k d within. length-plane l _ (fits.planes k d within))
    (λ k more below. plane-again l _ more (fits.planes k no_plane (omega (arith, fits.count)))))
    (ap (take 64) whole ∙ take_at replica.labels (planes ++ tail) 64 fits.labels)

same-slot : (first second : Replica) (slot : Duo) → first ≡ slot.first → second ≡ slot.second → (let s : Duo = record { first = first; second = second } in s ≡ slot)
same-slot first second slot p q = rw (p, q) refl

pub slot-again : (l : ℕ) (slot : Duo) (tail : List ℕ) → FitsDuo l slot → slot_in l (packed_slot slot ++ tail) ≡ slot
unfolding slot_in packed_slot
slot-again l slot tail fits =
    let one = packed_replica slot.first in
    let two = packed_replica slot.second in
    let whole : (one ++ two) ++ tail ≡ one ++ (two ++ tail) = append_assoc one two tail in
    same-slot _ _ slot
    (ap (replica_in l) whole ∙ replica-again l slot.first (two ++ tail) fits.first)
    (ap (λ ys. replica_in l (drop (replica_len l) ys)) whole
    ∙ ap (replica_in l) (drop_at one (two ++ tail) (replica_len l) (length-replica l slot.first fits.first))
    ∙ replica-again l slot.second tail fits.second)

same-pair : (first second : List ℕ) (pair : PairWheels) → first ≡ pair.first → second ≡ pair.second → (let p : PairWheels = record { first = first; second = second } in p ≡ pair)
same-pair first second pair p q = rw (p, q) refl

pub pair-again : (pair : PairWheels) (tail : List ℕ) → ArePairGenerators pair → pair_in (packed_pair pair ++ tail) ≡ pair
unfolding pair_in packed_pair
pair-again pair tail fits =
    let one = words_32 pair.first in
    let two = words_32 pair.second in
    let long : length one ≡ 244 = length-words 4 pair.first ∙ omega (arith, fits.first.sized) in
    let longer : length two ≡ 244 = length-words 4 pair.second ∙ omega (arith, fits.second.sized) in
    let whole : (one ++ two) ++ tail ≡ one ++ (two ++ tail) = append_assoc one two tail in
    same-pair _ _ pair
    (ap (words_at 4 61) (ap (take 244) whole ∙ take_at one (two ++ tail) 244 long) ∙ generator-again pair.first fits.first)
    (ap (words_at 4 61) (ap (λ ys. take 244 (drop 244 ys)) whole ∙ ap (take 244) (drop_at one (two ++ tail) 244 long) ∙ take_at two tail 244 longer) ∙ generator-again pair.second fits.second)

pub slots-again : (l n : ℕ) (slots : List Duo) (pairs : List PairWheels) (tail : List ℕ) → length slots ≡ n → All (FitsDuo l) slots → slots_in l n (packed_contents slots pairs ++ tail) ≡ slots
unfolding slots_in packed_contents
slots-again l n slots pairs tail sized fit =
    ap (items_at (slot_in l) (slot_len l) n) (append_assoc (flat_map packed_slot slots) (flat_map packed_pair pairs) tail)
    ∙ items-again (slot_in l) packed_slot (slot_len l) n slots (flat_map packed_pair pairs ++ tail) no_duo sized
    (λ k d within. length-slot l _ (fit k d within))
    (λ k more below. slot-again l _ more (fit k no_duo (omega (arith, sized))))

pub pairs-again : (l n : ℕ) (slots : List Duo) (pairs : List PairWheels) (tail : List ℕ) → length slots ≡ n → length pairs ≡ n - 1 → All (FitsDuo l) slots → All ArePairGenerators pairs
    → pairs_in l n (packed_contents slots pairs ++ tail) ≡ pairs
unfolding pairs_in packed_contents
pairs-again l n slots pairs tail sized paired fit lead =
    let front = flat_map packed_slot slots in
    let behind = flat_map packed_pair pairs in
    let long : length front ≡ slot_len l * n = length-slots l slots fit ∙ ap (λ k. slot_len l * k) sized in
    ap (λ ys. items_at pair_in 488 (n - 1) (drop (slot_len l * n) ys)) (append_assoc front behind tail)
    ∙ ap (items_at pair_in 488 (n - 1)) (drop_at front (behind ++ tail) (slot_len l * n) long)
    ∙ items-again pair_in packed_pair 488 (n - 1) pairs tail no_wheels paired
    (λ k d within. length-pair _ (lead k d within))
    (λ k more below. pair-again _ more (lead k no_wheels (omega (arith, paired))))
