-- The form of a checkpoint whose slots may be at different epochs: its tests together, and both directions.
use Rattle.std.proofs.Common.{◌≡◌, ◌⊎◌, ℕ, ◌+◌, ◌*◌, ◌<◌, ◌≤◌, ◌^◌, false, List, ◌++◌, map, length, take, drop, get_or, replicate, refl, sym, ap, subst, ◌∙◌, arith, append_assoc}
use Rattle.std.specs.List.{flat_map}
use Rattle.std.proofs.Math.Nat.{mul-le-mul_right}
use Rattle.std.proofs.lemmas.List.{get_or-replicate, get_or-map, length-append, length-map, length-drop, take-append-drop}
use Rattle.sha2.specs.Sha256.{sha256}
use Rattle.sha2.proofs.Facts256.{length-sha256}
use Rattle.byteorder.specs.Endian.{big_bytes, big_number}
use Rattle.byteorder.specs.Numbers.{big_number-reads_back}
use Rattle.scalar_rule.specs.Plan.{Plan, slots_of, IsLawfulPlan}
use Rattle.scalar_rule.specs.Ragged.{Position}
use Rattle.scalar_rule.specs.Positions.{position_in}
use Rattle.scalar_rule.specs.declared.sample.Record.{Record}
use Rattle.scalar_rule.proofs.InStep.{pending-few}
use Rattle.run_plan.specs.CanonicalPlan.{canonical}
use Rattle.plane_sweep.specs.Packed.{StandFits}
use Rattle.plane_sweep.specs.Uneven.{place_at, position_of, positions_of, uneven_part, level_stand, RaggedStandFits}
use Rattle.plane_sweep.proofs.LevelStands.{level-fits}
use Rattle.plane_sweep.specs.declared.replica.Duo.{Duo}
use Rattle.plane_sweep.specs.declared.stand.PairWheels.{PairWheels}
use Rattle.plane_sweep.specs.declared.stand.Stand.{Stand}
use Rattle.plane_sweep.specs.declared.uneven.Place.{Place}
use Rattle.plane_sweep.specs.declared.uneven.RaggedStand.{RaggedStand}
use Rattle.run_checkpoint.specs.Encoding.{flattened, uneven_bank, uneven_encoding, standing_of, bank_of, FitsKind}
use Rattle.run_checkpoint.specs.Kinds.{Uneven, uneven_kind, header, kept, shape, sealed, position_bytes, record_bytes, bank_encoding}
use Rattle.run_checkpoint.specs.Lengths.{slot_len, replica_len, contents_len, encoding_len, uneven_len, standing_len}
use Rattle.run_checkpoint.specs.PackedBytes.{packed_contents}
use Rattle.run_checkpoint.specs.Reading.{piece, number_at, body_of, digest_of, slots_in, pairs_in}
use Rattle.run_checkpoint.specs.UnevenDecoding.{places_in, records_in, count_in, phase_in, slots_place, records_place, uneven_in, uneven_layout}
use Rattle.run_checkpoint.specs.declared.kinds.Kind.{Kind}
use Rattle.run_checkpoint.specs.declared.kinds.Kind.TheVariants as kinds
use Rattle.run_checkpoint.proofs.PackedParts.{packed_bank, bank-packed}
use Rattle.run_checkpoint.proofs.Forms.{next-part, cut, tail-at, sealed-digest, sealed-back, length-sealed}
use Rattle.run_checkpoint.proofs.PartLengths.{length-contents}
use Rattle.run_checkpoint.proofs.ReadAgain.{slots-again, pairs-again}
use Rattle.run_checkpoint.proofs.Tested.{HasForm}
use Rattle.run_checkpoint.proofs.UnevenParts.{phase-stored, length-positions, length-records, places-again, records-again, places-back, records-back, AreSized, length-bank}
use Rattle.run_checkpoint.proofs.WrittenAgain.{contents-back}
use Rattle.glass_edges.proofs.NumberBytes.{IsBytes, bytes-drop, long_word-back}
use Rattle.run_checkpoint.proofs.LevelForm.{number-back, encoding-packed}
use Rattle.spin_model.proofs.WordBytes.{length-big_bytes}

pub uneven-long : (l n count : ℕ) → 96 + 9 * n + contents_len l n + 14 * count ≡ uneven_len l n count
unfolding uneven_len
uneven-long l n count = omega arith

-- ---- the encoding by the packed state

abbrev pub uneven_body : Plan → ℕ → ℕ → RaggedStand → List ℕ
uneven_body plan samples every stand = packed_bank plan (Uneven samples every (positions_of stand) stand.pending) stand.slots stand.pairs

pub uneven-packed : (plan : Plan) (samples every : ℕ) (stand : RaggedStand) → IsLawfulPlan plan → RaggedStandFits plan samples every stand
    → uneven_encoding plan samples every (λ b. uneven_part plan.size b stand) stand.pending ≡ sealed (uneven_body plan samples every stand)
unfolding uneven_bank
uneven-packed plan samples every stand lawful fits =
    bank-packed plan (Uneven samples every (positions_of stand) stand.pending) stand.slots stand.pairs lawful fits.slots fits.pairs fits.each_slot

pub length-uneven : (plan : Plan) (samples every : ℕ) (stand : RaggedStand) → RaggedStandFits plan samples every stand
    → length (uneven_body plan samples every stand) + 32 ≡ uneven_len plan.size (slots_of plan) (length stand.pending)
length-uneven plan samples every stand fits =
    length-bank plan (Uneven samples every (positions_of stand) stand.pending) stand.slots stand.pairs (length-map stand.places position_of ∙ fits.places)
    (length-contents plan.size (slots_of plan) stand.slots stand.pairs fits.slots fits.pairs fits.each_slot fits.each_pair)

pub few-records : (plan : Plan) (samples every : ℕ) (stand : RaggedStand) → IsLawfulPlan plan → RaggedStandFits plan samples every stand → length stand.pending ≤ 65536
few-records plan samples every stand lawful fits =
    let n = slots_of plan in
    let few = lawful.rules.few in
    let most = pending-few n samples every (positions_of stand) (length-map stand.places position_of ∙ fits.places) fits.in_step in
    let one : samples * n ≤ 64 * n = mul-le-mul_right n fits.few_samples in
    let two : samples * n * n ≤ 2048 * n = mul-le-mul_right n (omega arith) in
    omega (arith, fits.pending)

-- ---- what is encoded is read

regroup : (m d z t s v c p b r h : List ℕ) → ((m ++ (d ++ ((z ++ t) ++ (s ++ (v ++ (c ++ p)))))) ++ (b ++ r)) ++ h ≡ m ++ (d ++ (z ++ (t ++ (s ++ (v ++ (c ++ (p ++ (b ++ (r ++ h)))))))))
regroup m d z t s v c p b r h = simp append_assoc

flat : (plan : Plan) (samples every : ℕ) (stand : RaggedStand) → sealed (uneven_body plan samples every stand)
    ≡ uneven_kind ++ (sha256 (canonical plan) ++ (big_bytes 4 plan.size ++ (big_bytes 4 (slots_of plan) ++ (big_bytes 4 samples ++ (big_bytes 8 every ++ (big_bytes 4 (length stand.pending)
    ++ (flat_map position_bytes (positions_of stand) ++ (packed_contents stand.slots stand.pairs ++ (flat_map record_bytes stand.pending ++ sha256 (uneven_body plan samples every stand))))))))))
unfolding sealed header shape
flat plan samples every stand =
    regroup uneven_kind (sha256 (canonical plan)) (big_bytes 4 plan.size) (big_bytes 4 (slots_of plan)) (big_bytes 4 samples) (big_bytes 8 every) (big_bytes 4 (length stand.pending))
    (flat_map position_bytes (positions_of stand)) (packed_contents stand.slots stand.pairs) (flat_map record_bytes stand.pending) (sha256 (uneven_body plan samples every stand))

record InParts (plan : Plan) (samples every : ℕ) (stand : RaggedStand) (bytes : List ℕ) : Type 0 where
  pub kind : take 8 bytes ≡ uneven_kind
  pub own_plan : piece 8 32 bytes ≡ sha256 (canonical plan)
  pub size : (rest : List ℕ) × (drop 40 bytes ≡ big_bytes 4 plan.size ++ rest)
  pub slots : (rest : List ℕ) × (drop 44 bytes ≡ big_bytes 4 (slots_of plan) ++ rest)
  pub printed : (rest : List ℕ) × (drop 48 bytes ≡ big_bytes 4 samples ++ rest)
  pub recorded : (rest : List ℕ) × (drop 52 bytes ≡ big_bytes 8 every ++ rest)
  pub count : (rest : List ℕ) × (drop 60 bytes ≡ big_bytes 4 (length stand.pending) ++ rest)
  pub places : (rest : List ℕ) × (drop 64 bytes ≡ flat_map position_bytes (positions_of stand) ++ rest)
  pub contents_at : (rest : List ℕ) × (drop (slots_place (slots_of plan)) bytes ≡ packed_contents stand.slots stand.pairs ++ rest)
  pub records : (rest : List ℕ) × (drop (records_place plan.size (slots_of plan)) bytes ≡ flat_map record_bytes stand.pending ++ rest)

in-parts : (plan : Plan) (samples every : ℕ) (stand : RaggedStand) → RaggedStandFits plan samples every stand → InParts plan samples every stand (sealed (uneven_body plan samples every stand))
in-parts plan samples every stand fits =
    let xs = sealed (uneven_body plan samples every stand) in
    let n = slots_of plan in
    let a = next-part xs uneven_kind _ 0 8 8 (flat plan samples every stand) refl refl in
    let b = next-part xs (sha256 (canonical plan)) _ 8 32 40 a.1 (length-sha256 (canonical plan)) refl in
    let c = next-part xs (big_bytes 4 plan.size) _ 40 4 44 b.1 (length-big_bytes 4 plan.size) refl in
    let d = next-part xs (big_bytes 4 n) _ 44 4 48 c.1 (length-big_bytes 4 n) refl in
    let e = next-part xs (big_bytes 4 samples) _ 48 4 52 d.1 (length-big_bytes 4 samples) refl in
    let f = next-part xs (big_bytes 8 every) _ 52 8 60 e.1 (length-big_bytes 8 every) refl in
    let g = next-part xs (big_bytes 4 (length stand.pending)) _ 60 4 64 f.1 (length-big_bytes 4 (length stand.pending)) refl in
    let h = next-part xs (flat_map position_bytes (positions_of stand)) _ 64 (9 * n) (64 + 9 * n) g.1 (length-positions stand.places ∙ ap (λ k. 9 * k) fits.places) refl in
    let i = next-part xs (packed_contents stand.slots stand.pairs) _ (64 + 9 * n) (contents_len plan.size n) (64 + 9 * n + contents_len plan.size n) h.1
    (length-contents plan.size n stand.slots stand.pairs fits.slots fits.pairs fits.each_slot fits.each_pair) refl in
    record { kind = a.0; own_plan = b.0; size = (_, b.1); slots = (_, c.1); printed = (_, d.1); recorded = (_, e.1); count = (_, f.1); places = (_, g.1); contents_at = (_, h.1); records = (_, i.1) }

pub count-again : (plan : Plan) (samples every : ℕ) (stand : RaggedStand) → IsLawfulPlan plan → RaggedStandFits plan samples every stand → count_in (sealed (uneven_body plan samples every stand)) ≡ length stand.pending
count-again plan samples every stand lawful fits =
    let parts = in-parts plan samples every stand fits in
    ap (big_number 4) parts.count.1 ∙ big_number-reads_back 4 (length stand.pending) parts.count.0 (omega (arith, few-records plan samples every stand lawful fits))

pub uneven_form-again : (plan : Plan) (samples every : ℕ) (stand : RaggedStand) → IsLawfulPlan plan → RaggedStandFits plan samples every stand → HasForm (uneven_layout plan (sealed (uneven_body plan samples every stand))) plan (sealed (uneven_body plan samples every stand))
uneven_form-again plan samples every stand lawful fits =
    let parts = in-parts plan samples every stand fits in
    record {
      kind = parts.kind;
      size = ap (big_number 4) parts.size.1 ∙ big_number-reads_back 4 plan.size parts.size.0 (omega (arith, lawful.size.1));
      slots = ap (big_number 4) parts.slots.1 ∙ big_number-reads_back 4 (slots_of plan) parts.slots.0 (omega (arith, lawful.rules.few));
      len = length-sealed (uneven_body plan samples every stand) ∙ length-uneven plan samples every stand fits ∙ ap (uneven_len plan.size (slots_of plan)) (sym (count-again plan samples every stand lawful fits));
      digest = sealed-digest (uneven_body plan samples every stand);
      own_plan = parts.own_plan;
    }

pub orders-again : (plan : Plan) (samples every : ℕ) (stand : RaggedStand) → RaggedStandFits plan samples every stand → every < 2 ^ 64
    → (number_at 4 48 (sealed (uneven_body plan samples every stand)) ≡ samples) × (number_at 8 52 (sealed (uneven_body plan samples every stand)) ≡ every)
orders-again plan samples every stand fits small =
    let parts = in-parts plan samples every stand fits in (
      ap (big_number 4) parts.printed.1 ∙ big_number-reads_back 4 samples parts.printed.0 (omega (arith, fits.few_samples)),
      ap (big_number 8) parts.recorded.1 ∙ big_number-reads_back 8 every parts.recorded.0 small,
    )

same-ragged : (places : List Place) (slots : List Duo) (pairs : List PairWheels) (pending : List Record) (stand : RaggedStand)
    → places ≡ stand.places → slots ≡ stand.slots → pairs ≡ stand.pairs → pending ≡ stand.pending
    → (let s : RaggedStand = record { places = places; slots = slots; pairs = pairs; pending = pending } in s ≡ stand)
same-ragged places slots pairs pending stand p q r s = rw (p, q, r, s) refl

place-small : (n : ℕ) (places : List Place) → length places ≡ n → ((t : ℕ) → t < n → (position_in (map position_of places) t).epoch < 2 ^ 64) → (k : ℕ) (d : Place) → k < n → (get_or places k d).epoch < 2 ^ 64
place-small n places sized small k d below =
    let same = ap (λ (p : Position). p.epoch) (get_or-map position_of places k d (record { epoch = 0; waits = false }) (omega (arith, sized))) in
    let z = small k below in
    subst (λ e. e < 2 ^ 64) same z

pub uneven-again : (plan : Plan) (samples every : ℕ) (stand : RaggedStand) → IsLawfulPlan plan → RaggedStandFits plan samples every stand → uneven_in plan (sealed (uneven_body plan samples every stand)) ≡ stand
unfolding uneven_in
uneven-again plan samples every stand lawful fits =
    let parts = in-parts plan samples every stand fits in
    let n = slots_of plan in
    let xs = sealed (uneven_body plan samples every stand) in
    same-ragged _ _ _ _ stand
    (ap (places_in n) parts.places.1 ∙ places-again n stand.places parts.places.0 fits.places (place-small n stand.places fits.places fits.epochs))
    (ap (slots_in plan.size n) parts.contents_at.1 ∙ slots-again plan.size n stand.slots stand.pairs parts.contents_at.0 fits.slots fits.each_slot)
    (ap (pairs_in plan.size n) parts.contents_at.1 ∙ pairs-again plan.size n stand.slots stand.pairs parts.contents_at.0 fits.slots fits.pairs fits.each_slot fits.each_pair)
    (ap (λ k. records_in k (drop (records_place plan.size n) xs)) (count-again plan samples every stand lawful fits)
    ∙ ap (records_in (length stand.pending)) parts.records.1
    ∙ records-again (length stand.pending) stand.pending parts.records.0 refl fits.each_pending)

-- ---- what is read is encoded so

joined : (a p b q c r d s e t f u g v h m1 m2 m3 m4 m5 m6 m7 : List ℕ) → a ≡ p ++ m1 → m1 ≡ q ++ m2 → m2 ≡ r ++ m3 → m3 ≡ s ++ m4 → m4 ≡ t ++ m5 → m5 ≡ u ++ m6 → m6 ≡ v ++ m7
    → p ≡ b → q ≡ c → r ≡ d → s ≡ e → t ≡ f → u ≡ g → v ≡ h → a ≡ b ++ (c ++ (d ++ (e ++ (f ++ (g ++ (h ++ m7))))))
joined a p b q c r d s e t f u g v h m1 m2 m3 m4 m5 m6 m7 e1 e2 e3 e4 e5 e6 e7 i1 i2 i3 i4 i5 i6 i7 = cc

three : (a p b q c r d m1 m2 m3 : List ℕ) → a ≡ p ++ m1 → m1 ≡ q ++ m2 → m2 ≡ r ++ m3 → p ≡ b → q ≡ c → r ≡ d → a ≡ b ++ (c ++ (d ++ m3))
three a p b q c r d m1 m2 m3 e1 e2 e3 i1 i2 i3 = cc

uneven-sealed : (plan : Plan) (samples every : ℕ) (ps : List Position) (rs : List Record) (slots : List Duo) (pairs : List PairWheels) (bytes h : List ℕ) → 32 ≤ length bytes
    → bytes ≡ uneven_kind ++ (sha256 (canonical plan) ++ (big_bytes 4 plan.size ++ (big_bytes 4 (slots_of plan) ++ (big_bytes 4 samples ++ (big_bytes 8 every ++ (big_bytes 4 (length rs)
    ++ (flat_map position_bytes ps ++ (packed_contents slots pairs ++ (flat_map record_bytes rs ++ h)))))))))
    → length h ≡ 32 → digest_of bytes ≡ sha256 (body_of bytes) → bytes ≡ sealed (packed_bank plan (Uneven samples every ps rs) slots pairs)
unfolding header shape
uneven-sealed plan samples every ps rs slots pairs bytes h long whole sized digest =
    let body = packed_bank plan (Uneven samples every ps rs) slots pairs in
    let grouped : bytes ≡ body ++ h =
    whole ∙ sym (regroup uneven_kind (sha256 (canonical plan)) (big_bytes 4 plan.size) (big_bytes 4 (slots_of plan)) (big_bytes 4 samples) (big_bytes 8 every) (big_bytes 4 (length rs))
    (flat_map position_bytes ps) (packed_contents slots pairs) (flat_map record_bytes rs) h) in
    sealed-back bytes body long digest (ap body_of grouped ∙ (tail-at body h sized).1)

pub uneven-back : (plan : Plan) (samples every : ℕ) (bytes : List ℕ) → IsBytes bytes → HasForm (uneven_layout plan bytes) plan bytes
    → ((t : ℕ) → t < slots_of plan → (phase_in (drop 64 bytes) t ≡ 0) ⊎ (phase_in (drop 64 bytes) t ≡ 2)) → number_at 4 48 bytes ≡ samples → number_at 8 52 bytes ≡ every
    → length (uneven_in plan bytes).pending ≡ count_in bytes → bytes ≡ sealed (uneven_body plan samples every (uneven_in plan bytes))
unfolding uneven_in
uneven-back plan samples every bytes are has phases printed recorded counted =
    let n = slots_of plan in
    let count = count_in bytes in
    let c = contents_len plan.size n in
    let long : 96 + 9 * n + c + 14 * count ≡ length bytes = uneven-long plan.size n count ∙ sym has.len in
    let at : (k : ℕ) → IsBytes (drop k bytes) = λ k. bytes-drop k bytes are in
    let places = places-back n (drop 64 bytes) (at 64) (omega (arith, long, length-drop 64 bytes)) phases in
    let slots = contents-back plan.size n (drop (64 + 9 * n) bytes) (at (64 + 9 * n)) (omega (arith, long, length-drop (64 + 9 * n) bytes)) in
    let records = records-back count (drop (64 + 9 * n + c) bytes) (at (64 + 9 * n + c)) (omega (arith, long, length-drop (64 + 9 * n + c) bytes)) in
    let last = 64 + 9 * n + c + 14 * count in
    let s = slots_in plan.size n (drop (64 + 9 * n) bytes) in
    let q = pairs_in plan.size n (drop (64 + 9 * n) bytes) in
    let ps = map position_of (places_in n (drop 64 bytes)) in
    let rs = records_in count (drop (64 + 9 * n + c) bytes) in
    let p = flat_map position_bytes ps in
    let b = packed_contents s q in
    let r = flat_map record_bytes rs in
    let every_back : piece 52 8 bytes ≡ big_bytes 8 every = sym (long_word-back (drop 52 bytes) (at 52) (omega (arith, long, length-drop 52 bytes))) ∙ ap (big_bytes 8) recorded in
    let front = joined bytes (take 8 bytes) uneven_kind (piece 8 32 bytes) (sha256 (canonical plan)) (piece 40 4 bytes) (big_bytes 4 plan.size) (piece 44 4 bytes) (big_bytes 4 n)
    (piece 48 4 bytes) (big_bytes 4 samples) (piece 52 8 bytes) (big_bytes 8 every) (piece 60 4 bytes) (big_bytes 4 (length rs))
    (drop 8 bytes) (drop 40 bytes) (drop 44 bytes) (drop 48 bytes) (drop 52 bytes) (drop 60 bytes) (drop 64 bytes)
    (sym (take-append-drop 8 bytes)) (cut bytes 8 32) (cut bytes 40 4) (cut bytes 44 4) (cut bytes 48 4) (cut bytes 52 8) (cut bytes 60 4)
    has.kind has.own_plan
    (number-back plan.size 40 bytes are (omega (arith, long)) has.size)
    (number-back n 44 bytes are (omega (arith, long)) has.slots)
    (number-back samples 48 bytes are (omega (arith, long)) printed)
    every_back
    (number-back (length rs) 60 bytes are (omega (arith, long)) (sym counted)) in
    let back = three (drop 64 bytes) (piece 64 (9 * n) bytes) p (piece (64 + 9 * n) c bytes) b (piece (64 + 9 * n + c) (14 * count) bytes) r
    (drop (64 + 9 * n) bytes) (drop (64 + 9 * n + c) bytes) (drop last bytes)
    (cut bytes 64 (9 * n)) (cut bytes (64 + 9 * n) c) (cut bytes (64 + 9 * n + c) (14 * count)) (sym places) (sym slots) (sym records) in
    let whole = front ∙ ap (λ x. uneven_kind ++ (sha256 (canonical plan) ++ (big_bytes 4 plan.size ++ (big_bytes 4 n ++ (big_bytes 4 samples ++ (big_bytes 8 every ++ (big_bytes 4 (length rs) ++ x))))))) back in
    uneven-sealed plan samples every ps rs s q bytes (drop last bytes) (omega (arith, long)) whole (omega (arith, long, length-drop last bytes)) has.digest

-- the phases that are stored
pub phases-again : (plan : Plan) (samples every : ℕ) (stand : RaggedStand) → RaggedStandFits plan samples every stand → (t : ℕ) → t < slots_of plan
    → (phase_in (drop 64 (sealed (uneven_body plan samples every stand))) t ≡ 0) ⊎ (phase_in (drop 64 (sealed (uneven_body plan samples every stand))) t ≡ 2)
phases-again plan samples every stand fits t h =
    let parts = in-parts plan samples every stand fits in
    subst (λ xs. (phase_in xs t ≡ 0) ⊎ (phase_in xs t ≡ 2)) (sym parts.places.1) (phase-stored stand.places parts.places.0 t (omega (arith, fits.places)))

-- a state that was made level is that state
pub flattened-level : (plan : Plan) (stand : Stand) → IsLawfulPlan plan → StandFits plan stand → flattened (level_stand stand) ≡ stand
flattened-level plan stand lawful fits =
    let one : Place = record { epoch = stand.epoch; arrived = false } in
    let at : place_at (replicate (length stand.slots) one) 0 ≡ one = get_or-replicate (length stand.slots) 0 one _ (omega (arith, fits.slots, lawful.rules.some)) in
    let made : ℕ → Stand = λ e. record { epoch = e; slots = stand.slots; pairs = stand.pairs } in
    ap made (ap (λ (p : Place). p.epoch) at)

-- ---- a packed state that fits a kind: its bytes, how many they are, and what writing them asks of it

-- it fits some printed samples and recorded epochs
pub record FitsSome (plan : Plan) (stand : RaggedStand) : Type 0 where
  pub samples : ℕ
  pub every : ℕ
  pub fits : RaggedStandFits plan samples every stand

pub kind-fits : (kind : Kind) (plan : Plan) (stand : RaggedStand) → FitsKind kind plan stand → FitsSome plan stand
kind-fits kinds.Level plan stand fits =
    record { samples = 1; every = 1; fits = subst (RaggedStandFits plan 1 1) (sym fits.0) (level-fits plan 1 1 (flattened stand) fits.1 (omega arith) (omega arith) (omega arith)) }
kind-fits (kinds.Uneven samples every) plan stand fits = record { samples = samples; every = every; fits = fits }

pub kind-packed : (kind : Kind) (plan : Plan) (stand : RaggedStand) → IsLawfulPlan plan → FitsKind kind plan stand
    → bank_encoding plan (bank_of kind plan stand) ≡ sealed (packed_bank plan (standing_of kind stand) stand.slots stand.pairs)
kind-packed kinds.Level plan stand lawful fits = encoding-packed plan (flattened stand) lawful fits.1
kind-packed (kinds.Uneven samples every) plan stand lawful fits = uneven-packed plan samples every stand lawful fits

pub kind-kept : (kind : Kind) (plan : Plan) (stand : RaggedStand) → FitsKind kind plan stand → flat_map record_bytes stand.pending ≡ kept (standing_of kind stand)
kind-kept kinds.Level plan stand fits = ap (λ (s : RaggedStand). flat_map record_bytes s.pending) fits.0
kind-kept (kinds.Uneven samples every) plan stand fits = refl

kind-sized : (kind : Kind) (plan : Plan) (stand : RaggedStand) → FitsKind kind plan stand → AreSized plan (standing_of kind stand)
kind-sized kinds.Level plan stand fits = tt
kind-sized (kinds.Uneven samples every) plan stand fits = length-map stand.places position_of ∙ fits.places

pub kind-body : (kind : Kind) (plan : Plan) (stand : RaggedStand) → FitsKind kind plan stand
    → length (packed_bank plan (standing_of kind stand) stand.slots stand.pairs) + 32 ≡ standing_len plan (standing_of kind stand)
kind-body kind plan stand fits =
    let f = (kind-fits kind plan stand fits).fits in
    length-bank plan (standing_of kind stand) stand.slots stand.pairs (kind-sized kind plan stand fits)
    (length-contents plan.size (slots_of plan) stand.slots stand.pairs f.slots f.pairs f.each_slot f.each_pair)

-- the parts of the whole
pub kind-long : (kind : Kind) (plan : Plan) (stand : RaggedStand) → FitsKind kind plan stand
    → length (header plan (standing_of kind stand)) + (length (packed_contents stand.slots stand.pairs) + 14 * length stand.pending) + 32 ≡ standing_len plan (standing_of kind stand)
kind-long kind plan stand fits =
    let h = header plan (standing_of kind stand) in
    let contents = packed_contents stand.slots stand.pairs in
    let tail = kept (standing_of kind stand) in
    omega (arith, kind-body kind plan stand fits, length-append h (contents ++ tail), length-append contents tail, ap length (kind-kept kind plan stand fits), length-records stand.pending)

pub kind-length : (kind : Kind) (plan : Plan) (stand : RaggedStand) → IsLawfulPlan plan → FitsKind kind plan stand → length (bank_encoding plan (bank_of kind plan stand)) ≡ standing_len plan (standing_of kind stand)
kind-length kind plan stand lawful fits =
    ap length (kind-packed kind plan stand lawful fits) ∙ length-sealed (packed_bank plan (standing_of kind stand) stand.slots stand.pairs) ∙ kind-body kind plan stand fits

nine : (l : ℕ) → 9 ≤ slot_len l
unfolding slot_len replica_len
nine l = omega arith

-- the header fits, with a position for each slot
pub kind-room : (kind : Kind) (plan : Plan) (stand : RaggedStand) → FitsKind kind plan stand → 64 + 9 * slots_of plan ≤ standing_len plan (standing_of kind stand)
unfolding encoding_len uneven_len contents_len
kind-room kinds.Level plan stand fits = let many = mul-le-mul_right (slots_of plan) (nine plan.size) in omega arith
kind-room (kinds.Uneven samples every) plan stand fits = omega arith
