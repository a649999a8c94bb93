-- How many bytes the packed parts take.
use Rattle.std.proofs.Common.{◌≡◌, ℕ, ◌-◌, ◌*◌, ◌≤◌, List, [], ◌∷◌, All, length, sym, ap, ◌∙◌, arith, length-append}
use Rattle.std.specs.List.{flat_map}
use Rattle.std.proofs.lemmas.List.Concat.{flat_map-cons}
use Rattle.std.proofs.lemmas.List.Elements.{All-head, All-tail}
use Rattle.byteorder.specs.Endian.{big_bytes}
use native.Mathlib.Nat.{mul-suc, mul-zero}
use Rattle.plane_sweep.specs.Packed.{FitsPlane, FitsReplica, FitsDuo, ArePairGenerators}
use Rattle.plane_sweep.specs.declared.replica.Plane.{Plane}
use Rattle.plane_sweep.specs.declared.replica.Replica.{Replica}
use Rattle.plane_sweep.specs.declared.replica.Duo.{Duo}
use Rattle.plane_sweep.specs.declared.stand.PairWheels.{PairWheels}
use Rattle.run_checkpoint.specs.Lengths.{plane_len, replica_len, slot_len, contents_len}
use Rattle.run_checkpoint.specs.PackedBytes.{packed_plane, packed_replica, packed_slot, packed_pair, packed_contents, IsShort, HasShortPlanes}
use Rattle.spin_model.proofs.WordBytes.{length-words}
use Rattle.plane_sweep.proofs.SixWords.{half_plane-few}

-- so many items of one length
pub flat-length : {X : Type 0} (f : X → List ℕ) (len : ℕ) (xs : List X) → All (λ x. length (f x) ≡ len) xs → length (flat_map f xs) ≡ len * length xs
flat-length f len [] all = sym (mul-zero len)
flat-length f len (x ∷ xs) all =
    let here : length (f x) ≡ len = All-head (λ y. length (f y) ≡ len) x xs all in
    let rest = flat-length f len xs (All-tail (λ y. length (f y) ≡ len) x xs all) in
    ap length (flat_map-cons f x xs) ∙ length-append (f x) (flat_map f xs) ∙ omega (arith, here, rest, mul-suc len (length xs))

pub length-plane : (l : ℕ) (plane : Plane) → FitsPlane l plane → length (packed_plane plane) ≡ plane_len l
unfolding packed_plane plane_len
length-plane l plane fits =
    length-append (flat_map (big_bytes 4) plane.wheel) (flat_map (big_bytes 8) plane.words)
    ∙ omega (arith, length-words 4 plane.wheel, length-words 8 plane.words, fits.generator.sized, fits.sized)

pub length-replica : (l : ℕ) (replica : Replica) → FitsReplica l replica → length (packed_replica replica) ≡ replica_len l
unfolding packed_replica replica_len
length-replica l replica fits =
    let planes = flat-length packed_plane (plane_len l) replica.planes (λ k d within. length-plane l _ (fits.planes k d within)) in
    length-append replica.labels (flat_map packed_plane replica.planes)
    ∙ omega (arith, fits.labels, planes, ap (λ n. plane_len l * n) fits.count)

pub length-slot : (l : ℕ) (slot : Duo) → FitsDuo l slot → length (packed_slot slot) ≡ slot_len l
unfolding packed_slot slot_len
length-slot l slot fits =
    length-append (packed_replica slot.first) (packed_replica slot.second)
    ∙ omega (arith, length-replica l slot.first fits.first, length-replica l slot.second fits.second)

pub length-pair : (pair : PairWheels) → ArePairGenerators pair → length (packed_pair pair) ≡ 488
unfolding packed_pair
length-pair pair fits =
    length-append (flat_map (big_bytes 4) pair.first) (flat_map (big_bytes 4) pair.second)
    ∙ omega (arith, length-words 4 pair.first, length-words 4 pair.second, fits.first.sized, fits.second.sized)

pub length-slots : (l : ℕ) (slots : List Duo) → All (FitsDuo l) slots → length (flat_map packed_slot slots) ≡ slot_len l * length slots
length-slots l slots fit = flat-length packed_slot (slot_len l) slots (λ k d within. length-slot l _ (fit k d within))

pub length-pairs : (pairs : List PairWheels) → All ArePairGenerators pairs → length (flat_map packed_pair pairs) ≡ 488 * length pairs
length-pairs pairs fit = flat-length packed_pair 488 pairs (λ k d within. length-pair _ (fit k d within))

pub length-contents : (l n : ℕ) (slots : List Duo) (pairs : List PairWheels) → length slots ≡ n → length pairs ≡ n - 1 → All (FitsDuo l) slots → All ArePairGenerators pairs
    → length (packed_contents slots pairs) ≡ contents_len l n
unfolding packed_contents contents_len
length-contents l n slots pairs sized paired fit lead =
    length-append (flat_map packed_slot slots) (flat_map packed_pair pairs)
    ∙ omega (arith, length-slots l slots fit, length-pairs pairs lead, ap (λ k. slot_len l * k) sized, paired)

-- ---- planes are short

planes-short : (l : ℕ) (planes : List Plane) → l ≤ 64 → All (FitsPlane l) planes → All IsShort planes
planes-short l planes few fit = λ k d within. omega (arith, (fit k d within).sized, half_plane-few l few)

pub slots-short : (l : ℕ) (slots : List Duo) → l ≤ 64 → All (FitsDuo l) slots → All HasShortPlanes slots
slots-short l slots few fit = λ k d within. let f = fit k d within in (planes-short l _ few f.first.planes, planes-short l _ few f.second.planes)
