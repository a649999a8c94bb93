-- The bytes of the parts of 64 samples are those of the packed parts.
use Rattle.std.proofs.Common.{◌≡◌, ℕ, zero, suc, ◌+◌, ◌-◌, ◌*◌, ◌/◌, ◌%◌, ◌^◌, ◌<◌, false, List, [], ◌∷◌, ◌++◌, All, map, length, get_or, refl, sym, ap, ◌∙◌, arith}
use Rattle.std.proofs.Math.Nat.{mul_comm}
use Rattle.std.specs.Prelude.{slice_index}
use Rattle.std.specs.List.{flat_map}
use Rattle.std.proofs.lemmas.Grind.{flat_map-append}
use Rattle.std.proofs.lemmas.List.{append-nil, get_or-map}
use Rattle.std.proofs.lemmas.List.Concat.{flat_map-cons}
use Rattle.std.proofs.lemmas.List.Elements.{All-get_or}
use Rattle.std.proofs.lemmas.Nat.{div_below, mod_below, div-add-mod'}
use Rattle.spin_model.specs.Words.{is_set, words_32, words_64}
use Rattle.spin_model.specs.Lattice.{IsLawfulSize, volume, half_plane, z_of, place_in_plane}
use Rattle.spin_model.specs.Steps.{table}
use Rattle.spin_model.proofs.Tables.{get_or-table, table-of_items, table-same}
use Rattle.scalar_rule.specs.Plan.{Plan, slots_of, pairs_of, IsLawfulPlan}
use Rattle.scalar_rule.specs.Epoch.{slot_at, pair_at}
use Rattle.scalar_rule.specs.Neighbours.{spin}
use Rattle.scalar_rule.specs.declared.plain_copy.PlainCopy.{PlainCopy}
use Rattle.scalar_rule.specs.declared.sample.PlainPair.{PlainPair}
use Rattle.scalar_rule.specs.declared.sample.PlainSlot.{PlainSlot}
use Rattle.coupling_set.proofs.BondsAsWords.{word-of_bits, word_of-same}
use Rattle.plane_sweep.specs.Beginnings.{site_of}
use Rattle.plane_sweep.specs.Packed.{plane_at, word_at, spins_of, generators_of, part_copy, part_slot, part_pair, FitsPlane, FitsReplica, FitsDuo}
use Rattle.plane_sweep.specs.declared.replica.Plane.{Plane}
use Rattle.plane_sweep.specs.declared.replica.Replica.{Replica}
use Rattle.plane_sweep.specs.declared.replica.Duo.{Duo}
use Rattle.plane_sweep.specs.declared.stand.PairWheels.{PairWheels}
use Rattle.plane_sweep.proofs.Empties.{no_plane, no_duo, no_wheels}
use Rattle.plane_sweep.proofs.PlaneNeighbours.{site_of-at}
use Rattle.plane_sweep.proofs.PlaneSites.{site_of-below}
use Rattle.run_checkpoint.specs.Kinds.{spin_word, plane_bytes, replica_bytes, slot_bytes, pair_bytes, contents, sealed, Standing, kept, PlainBank, header, bank_encoding}
use Rattle.run_checkpoint.specs.PackedBytes.{packed_plane, packed_replica, packed_slot, packed_pair, packed_contents}
use Rattle.glass_edges.proofs.NumberBytes.{join}

-- ---- a plane

spin-at : (l b c z j : ℕ) (planes : List Plane) → IsLawfulSize l → c < 2 → z < l → j < half_plane l
    → spin (spins_of l b planes) (site_of l c z j) ≡ is_set (slice_index (plane_at planes (c * l + z)).words j) b
unfolding spins_of
spin-at l b c z j planes lawful chosen plane within =
    let i = site_of l c z j in
    let at = site_of-at l c z j lawful chosen plane within in
    get_or-table (λ site. is_set (word_at l planes site) b) (volume l) i false (site_of-below l c z j lawful)
    ∙ ap (λ k. is_set (slice_index (plane_at planes (k * l + z_of l i)).words (place_in_plane l i)) b) at.of_colour
    ∙ ap (λ k. is_set (slice_index (plane_at planes (c * l + k)).words (place_in_plane l i)) b) at.plane
    ∙ ap (λ k. is_set (slice_index (plane_at planes (c * l + z)).words k) b) at.place

site-word : (l k j : ℕ) (planes : List Plane) → IsLawfulSize l → k < 2 * l → j < half_plane l → slice_index (plane_at planes k).words j < 2 ^ 64
    → slice_index (plane_at planes k).words j ≡ spin_word (λ b. spins_of l b planes) (site_of l (k / l) (k % l) j)
site-word l k j planes lawful below within small =
    let turned = mul_comm l 2 in
    let some : 0 < l = omega arith in
    let chosen : k / l < 2 = div_below k l 2 some (omega arith) in
    let plane : k % l < l = mod_below k l some in
    let parts : k / l * l + k % l ≡ k = div-add-mod' k l in
    word-of_bits (λ b. spin (spins_of l b planes) (site_of l (k / l) (k % l) j)) 64 (slice_index (plane_at planes k).words j) small
    (λ b under. sym (spin-at l b (k / l) (k % l) j planes lawful chosen plane within ∙ ap (λ p. is_set (slice_index (plane_at planes p).words j) b) parts))

plane-packed : (l k : ℕ) (replica : Replica) → IsLawfulSize l → FitsReplica l replica → k < 2 * l → plane_bytes l (λ b. part_copy l b replica) k ≡ packed_plane (plane_at replica.planes k)
unfolding plane_bytes packed_plane
plane-packed l k replica lawful fits below =
    let planes = replica.planes in
    let plane = plane_at planes k in
    let fit : FitsPlane l plane = fits.planes k no_plane (omega (arith, fits.count)) in
    let wheel : get_or (generators_of planes) k [] ≡ plane.wheel = get_or-map (λ (p : Plane). p.wheel) planes k no_plane [] (omega (arith, fits.count)) in
    let words : plane.words ≡ table (λ j. spin_word (λ b. spins_of l b planes) (site_of l (k / l) (k % l) j)) (half_plane l) =
    table-of_items _ (half_plane l) 0 plane.words fit.sized (λ j within.
    site-word l k j planes lawful below within (All-get_or (λ w. w < 2 ^ 64) plane.words j 0 (omega (arith, fit.sized)) fit.in_range)) in
    ap (λ ws. words_32 ws ++ words_64 (table (λ j. spin_word (λ b. spins_of l b planes) (site_of l (k / l) (k % l) j)) (half_plane l))) wheel
    ∙ ap (λ ws. words_32 plane.wheel ++ words_64 ws) (sym words)

-- ---- lists of parts

flat-single : {X : Type 0} (f : X → List ℕ) (x : X) → flat_map f (x ∷ []) ≡ f x
flat-single f x = flat_map-cons f x [] ∙ append-nil (f x)

flat-tables : {X : Type 0} (f : ℕ → List ℕ) (g : X → List ℕ) (item : ℕ → X) (n : ℕ) → ((k : ℕ) → k < n → f k ≡ g (item k)) → flat_map f (table (λ k. k) n) ≡ flat_map g (table item n)
unfolding table
flat-tables f g item zero same = refl
flat-tables f g item (suc n) same =
    let before = flat-tables f g item n (λ k below. same k (omega arith)) in
    let last : f n ≡ g (item n) = same n (omega arith) in
    flat_map-append f (table (λ k. k) n) (n ∷ [])
    ∙ join _ _ _ _ before (flat-single f n ∙ last ∙ sym (flat-single g (item n)))
    ∙ sym (flat_map-append g (table item n) (item n ∷ []))

-- the bytes of numbered parts are those of the items that they are
pub flat-items : {X : Type 0} (f : ℕ → List ℕ) (g : X → List ℕ) (xs : List X) (n : ℕ) (d : X) → length xs ≡ n → ((k : ℕ) → k < n → f k ≡ g (get_or xs k d)) → flat_map f (table (λ k. k) n) ≡ flat_map g xs
flat-items f g xs n d sized same =
    flat-tables f g (λ k. get_or xs k d) n same
    ∙ ap (flat_map g) (sym (table-of_items (λ k. get_or xs k d) n d xs sized (λ k below. refl)))

replica-packed : (l : ℕ) (replica : Replica) → IsLawfulSize l → FitsReplica l replica → replica_bytes l (λ b. part_copy l b replica) ≡ packed_replica replica
unfolding replica_bytes packed_replica
replica-packed l replica lawful fits =
    join _ _ _ _
    (sym (table-of_items (λ b. slice_index replica.labels b) 64 0 replica.labels fits.labels (λ b below. refl)))
    (flat-items _ packed_plane replica.planes (2 * l) no_plane fits.count (λ k below. plane-packed l k replica lawful fits below))

slot-packed : (l : ℕ) (slot : Duo) → IsLawfulSize l → FitsDuo l slot → slot_bytes l (λ b. part_slot l b slot) ≡ packed_slot slot
unfolding slot_bytes packed_slot
slot-packed l slot lawful fits = join _ _ _ _ (replica-packed l slot.first lawful fits.first) (replica-packed l slot.second lawful fits.second)

pair-packed : (pair : PairWheels) → pair_bytes (part_pair pair) ≡ packed_pair pair
unfolding pair_bytes packed_pair
pair-packed pair = refl

part-read : (l b t : ℕ) (slots : List Duo) → t < length slots → slot_at (map (part_slot l b) slots) t ≡ part_slot l b (get_or slots t no_duo)
part-read l b t slots within = get_or-map (part_slot l b) slots t no_duo _ within

-- slots that have the same parts in the 64 samples have the same bytes
copy-same : (l : ℕ) (f g : ℕ → PlainCopy) → ((b : ℕ) → b < 64 → f b ≡ g b) → replica_bytes l f ≡ replica_bytes l g
unfolding replica_bytes plane_bytes
copy-same l f g same =
    let words : (i : ℕ) → spin_word (λ b. (f b).spins) i ≡ spin_word (λ b. (g b).spins) i = λ i. word_of-same _ _ 64 (λ b below. ap (λ (c : PlainCopy). spin c.spins i) (same b below)) in
    let zero_same : f 0 ≡ g 0 = same 0 (omega arith) in
    join _ _ _ _
    (table-same _ _ 64 (λ b below. ap (λ (c : PlainCopy). c.replica) (same b below)))
    (flat-tables _ _ (λ k. k) (2 * l) (λ k below. join _ _ _ _
    (ap (λ (c : PlainCopy). words_32 (get_or c.wheels k [])) zero_same)
    (ap words_64 (table-same _ _ (half_plane l) (λ j within. words (site_of l (k / l) (k % l) j))))))

pub slot-same : (l : ℕ) (f g : ℕ → PlainSlot) → ((b : ℕ) → b < 64 → f b ≡ g b) → slot_bytes l f ≡ slot_bytes l g
unfolding slot_bytes
slot-same l f g same =
    join _ _ _ _
    (copy-same l _ _ (λ b below. ap (λ (s : PlainSlot). s.first) (same b below)))
    (copy-same l _ _ (λ b below. ap (λ (s : PlainSlot). s.second) (same b below)))

pub contents-same : (l n : ℕ) (f g : ℕ → List PlainSlot) (p q : List PlainPair) → ((b : ℕ) → b < 64 → f b ≡ g b) → p ≡ q → contents l n f p ≡ contents l n g q
unfolding contents
contents-same l n f g p q same pairs =
    join _ _ _ _
    (flat-tables _ _ (λ t. t) n (λ t below. slot-same l _ _ (λ b small. ap (λ (ss : List PlainSlot). slot_at ss t) (same b small))))
    (flat-tables _ _ (λ k. k) (n - 1) (λ k below. ap (λ (ps : List PlainPair). pair_bytes (pair_at ps k)) pairs))

pub contents-packed : (l n : ℕ) (slots : List Duo) (pairs : List PairWheels) → IsLawfulSize l → length slots ≡ n → length pairs ≡ n - 1 → All (FitsDuo l) slots
    → contents l n (λ b. map (part_slot l b) slots) (map part_pair pairs) ≡ packed_contents slots pairs
unfolding contents packed_contents
contents-packed l n slots pairs lawful sized paired fit =
    join _ _ _ _
    (flat-items _ packed_slot slots n no_duo sized (λ t below.
    slot-same l _ _ (λ b small. part-read l b t slots (omega (arith, sized)))
    ∙ slot-packed l (get_or slots t no_duo) lawful (fit t no_duo (omega (arith, sized)))))
    (flat-items _ packed_pair pairs (n - 1) no_wheels paired (λ k below.
    ap pair_bytes (get_or-map part_pair pairs k no_wheels _ (omega (arith, paired))) ∙ pair-packed (get_or pairs k no_wheels)))

-- ---- a bank

-- all but the digest
abbrev pub packed_bank : Plan → Standing → List Duo → List PairWheels → List ℕ
packed_bank plan standing slots pairs = header plan standing ++ (packed_contents slots pairs ++ kept standing)

pub bank-packed : (plan : Plan) (standing : Standing) (slots : List Duo) (pairs : List PairWheels) → IsLawfulPlan plan → length slots ≡ slots_of plan → length pairs ≡ pairs_of plan → All (FitsDuo plan.size) slots
    → (let bank : PlainBank = record { standing = standing; slots = λ b. map (part_slot plan.size b) slots; pairs = map part_pair pairs } in bank_encoding plan bank ≡ sealed (packed_bank plan standing slots pairs))
unfolding bank_encoding
bank-packed plan standing slots pairs lawful sized paired fit =
    ap (λ x. sealed (header plan standing ++ (x ++ kept standing))) (contents-packed plan.size (slots_of plan) slots pairs lawful.size sized paired fit)

-- banks that agree in the 64 samples have one encoding
pub bank-same : (plan : Plan) (s t : PlainBank) → s.standing ≡ t.standing → ((b : ℕ) → b < 64 → s.slots b ≡ t.slots b) → s.pairs ≡ t.pairs → bank_encoding plan s ≡ bank_encoding plan t
unfolding bank_encoding
bank-same plan s t standing slots pairs =
    ap (λ k. sealed (header plan k ++ (contents plan.size (slots_of plan) s.slots s.pairs ++ kept k))) standing
    ∙ ap (λ x. sealed (header plan t.standing ++ (x ++ kept t.standing))) (contents-same plan.size (slots_of plan) s.slots t.slots s.pairs t.pairs slots pairs)
