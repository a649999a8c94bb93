-- The form of a checkpoint at one epoch: its tests together, and both directions.
use Rattle.std.proofs.Common.{◌≡◌, ℕ, ◌+◌, ◌≤◌, List, [], ◌++◌, length, take, drop, refl, sym, ap, ◌∙◌, arith, append_assoc}
use Rattle.std.proofs.lemmas.List.{append-nil, length-drop, take-append-drop}
use Rattle.sha2.specs.Sha256.{sha256}
use Rattle.sha2.proofs.Facts256.{length-sha256}
use Rattle.byteorder.specs.Endian.{big_bytes, big_number}
use Rattle.byteorder.specs.Numbers.{big_number-reads_back}
use Rattle.scalar_rule.specs.Plan.{Plan, slots_of, IsLawfulPlan}
use Rattle.run_plan.specs.CanonicalPlan.{canonical}
use Rattle.plane_sweep.specs.Packed.{part, StandFits}
use Rattle.plane_sweep.specs.declared.stand.Stand.{Stand}
use Rattle.plane_sweep.specs.declared.replica.Duo.{Duo}
use Rattle.plane_sweep.specs.declared.stand.PairWheels.{PairWheels}
use Rattle.run_checkpoint.specs.Decoding.{level_layout}
use Rattle.run_checkpoint.specs.Encoding.{level_bank, encoding}
use Rattle.run_checkpoint.specs.Kinds.{Level, level_kind, header, shape, sealed}
use Rattle.run_checkpoint.specs.Lengths.{contents_len, encoding_len}
use Rattle.run_checkpoint.specs.PackedBytes.{packed_contents}
use Rattle.run_checkpoint.specs.Reading.{piece, number_at, body_of, digest_of, slots_in, pairs_in, stand_in}
use Rattle.run_checkpoint.proofs.PackedParts.{packed_bank, bank-packed}
use Rattle.run_checkpoint.proofs.UnevenParts.{length-bank}
use Rattle.run_checkpoint.proofs.Forms.{next-part, cut, tail-at, sealed-digest, sealed-back, length-sealed}
use Rattle.run_checkpoint.proofs.PartLengths.{length-contents}
use Rattle.run_checkpoint.proofs.ReadAgain.{slots-again, pairs-again}
use Rattle.run_checkpoint.proofs.Tested.{HasForm}
use Rattle.run_checkpoint.proofs.WrittenAgain.{contents-back}
use Rattle.glass_edges.proofs.NumberBytes.{IsBytes, bytes-drop, long_word-back, word-back}
use Rattle.spin_model.proofs.WordBytes.{length-big_bytes}

pub form-long : (l n : ℕ) → 88 + contents_len l n ≡ encoding_len l n
unfolding encoding_len
form-long l n = omega arith

-- ---- what is encoded is read

-- the encoding by the packed state
abbrev pub packed_body : Plan → Stand → List ℕ
packed_body plan stand = packed_bank plan (Level stand.epoch) stand.slots stand.pairs

pub encoding-packed : (plan : Plan) (stand : Stand) → IsLawfulPlan plan → StandFits plan stand → encoding plan (λ b. part plan.size b stand) ≡ sealed (packed_body plan stand)
unfolding level_bank part
encoding-packed plan stand lawful fits = bank-packed plan (Level stand.epoch) stand.slots stand.pairs lawful fits.slots fits.pairs fits.each_slot

regroup : (m d e z t b h : List ℕ) → ((m ++ (d ++ (e ++ (z ++ t)))) ++ (b ++ [])) ++ h ≡ m ++ (d ++ (e ++ (z ++ (t ++ (b ++ h)))))
regroup m d e z t b h = simp (append_assoc, append-nil)

flat : (plan : Plan) (stand : Stand) → sealed (packed_body plan stand)
    ≡ level_kind ++ (sha256 (canonical plan) ++ (big_bytes 8 stand.epoch ++ (big_bytes 4 plan.size ++ (big_bytes 4 (slots_of plan) ++ (packed_contents stand.slots stand.pairs ++ sha256 (packed_body plan stand))))))
unfolding sealed header shape
flat plan stand = regroup level_kind (sha256 (canonical plan)) (big_bytes 8 stand.epoch) (big_bytes 4 plan.size) (big_bytes 4 (slots_of plan)) (packed_contents stand.slots stand.pairs) (sha256 (packed_body plan stand))

pub length-packed : (plan : Plan) (stand : Stand) → StandFits plan stand → length (packed_body plan stand) + 32 ≡ encoding_len plan.size (slots_of plan)
length-packed plan stand fits =
    length-bank plan (Level stand.epoch) stand.slots stand.pairs tt (length-contents plan.size (slots_of plan) stand.slots stand.pairs fits.slots fits.pairs fits.each_slot fits.each_pair)

-- the parts of the header, and what is behind each
record InParts (plan : Plan) (stand : Stand) (bytes : List ℕ) : Type 0 where
  pub kind : take 8 bytes ≡ level_kind
  pub own_plan : piece 8 32 bytes ≡ sha256 (canonical plan)
  pub epoch : (rest : List ℕ) × (drop 40 bytes ≡ big_bytes 8 stand.epoch ++ rest)
  pub size : (rest : List ℕ) × (drop 48 bytes ≡ big_bytes 4 plan.size ++ rest)
  pub slots : (rest : List ℕ) × (drop 52 bytes ≡ big_bytes 4 (slots_of plan) ++ rest)
  pub rest : drop 56 bytes ≡ packed_contents stand.slots stand.pairs ++ sha256 (packed_body plan stand)

in-parts : (plan : Plan) (stand : Stand) → InParts plan stand (sealed (packed_body plan stand))
in-parts plan stand =
    let xs = sealed (packed_body plan stand) in
    let first = next-part xs level_kind _ 0 8 8 (flat plan stand) refl refl in
    let second = next-part xs (sha256 (canonical plan)) _ 8 32 40 first.1 (length-sha256 (canonical plan)) refl in
    let third = next-part xs (big_bytes 8 stand.epoch) _ 40 8 48 second.1 (length-big_bytes 8 stand.epoch) refl in
    let fourth = next-part xs (big_bytes 4 plan.size) _ 48 4 52 third.1 (length-big_bytes 4 plan.size) refl in
    let fifth = next-part xs (big_bytes 4 (slots_of plan)) _ 52 4 56 fourth.1 (length-big_bytes 4 (slots_of plan)) refl in
    record { kind = first.0; own_plan = second.0; epoch = (_, second.1); size = (_, third.1); slots = (_, fourth.1); rest = fifth.1 }

pub form-again : (plan : Plan) (stand : Stand) → IsLawfulPlan plan → StandFits plan stand → HasForm (level_layout plan) plan (sealed (packed_body plan stand))
form-again plan stand lawful fits =
    let parts = in-parts plan stand in
    record {
      kind = parts.kind;
      size = ap (big_number 4) parts.size.1 ∙ big_number-reads_back 4 plan.size parts.size.0 (omega (arith, lawful.size.1));
      slots = ap (big_number 4) parts.slots.1 ∙ big_number-reads_back 4 (slots_of plan) parts.slots.0 (omega (arith, lawful.rules.few));
      len = length-sealed (packed_body plan stand) ∙ length-packed plan stand fits;
      digest = sealed-digest (packed_body plan stand);
      own_plan = parts.own_plan;
    }

same-stand : (epoch : ℕ) (slots : List Duo) (pairs : List PairWheels) (stand : Stand) → epoch ≡ stand.epoch → slots ≡ stand.slots → pairs ≡ stand.pairs
    → (let s : Stand = record { epoch = epoch; slots = slots; pairs = pairs } in s ≡ stand)
same-stand epoch slots pairs stand p q r = rw (p, q, r) refl

pub stand-again : (plan : Plan) (stand : Stand) → StandFits plan stand → stand_in plan (sealed (packed_body plan stand)) ≡ stand
unfolding stand_in
stand-again plan stand fits =
    let parts = in-parts plan stand in
    let h = sha256 (packed_body plan stand) in
    same-stand _ _ _ stand
    (ap (big_number 8) parts.epoch.1 ∙ big_number-reads_back 8 stand.epoch parts.epoch.0 fits.epoch)
    (ap (slots_in plan.size (slots_of plan)) parts.rest ∙ slots-again plan.size (slots_of plan) stand.slots stand.pairs h fits.slots fits.each_slot)
    (ap (pairs_in plan.size (slots_of plan)) parts.rest ∙ pairs-again plan.size (slots_of plan) stand.slots stand.pairs h fits.slots fits.pairs fits.each_slot fits.each_pair)

-- ---- what is read is encoded so

joined : (a p b q c r d s e t f m1 m2 m3 m4 m5 : List ℕ) → a ≡ p ++ m1 → m1 ≡ q ++ m2 → m2 ≡ r ++ m3 → m3 ≡ s ++ m4 → m4 ≡ t ++ m5
    → p ≡ b → q ≡ c → r ≡ d → s ≡ e → t ≡ f → a ≡ b ++ (c ++ (d ++ (e ++ (f ++ m5))))
joined a p b q c r d s e t f m1 m2 m3 m4 m5 e1 e2 e3 e4 e5 i1 i2 i3 i4 i5 = cc

pub number-back : (n place : ℕ) (bytes : List ℕ) → IsBytes bytes → place + 4 ≤ length bytes → number_at 4 place bytes ≡ n → piece place 4 bytes ≡ big_bytes 4 n
number-back n place bytes are long is =
    sym (word-back (drop place bytes) (bytes-drop place bytes are) (omega (arith, length-drop place bytes))) ∙ ap (big_bytes 4) is

level-sealed : (plan : Plan) (bytes : List ℕ) (epoch : ℕ) (slots : List Duo) (pairs : List PairWheels) (h : List ℕ) → 32 ≤ length bytes
    → bytes ≡ level_kind ++ (sha256 (canonical plan) ++ (big_bytes 8 epoch ++ (big_bytes 4 plan.size ++ (big_bytes 4 (slots_of plan) ++ (packed_contents slots pairs ++ h)))))
    → length h ≡ 32 → digest_of bytes ≡ sha256 (body_of bytes) → bytes ≡ sealed (packed_bank plan (Level epoch) slots pairs)
unfolding header shape
level-sealed plan bytes epoch slots pairs h long whole sized digest =
    let body = (level_kind ++ (sha256 (canonical plan) ++ (big_bytes 8 epoch ++ (big_bytes 4 plan.size ++ big_bytes 4 (slots_of plan))))) ++ (packed_contents slots pairs ++ []) in
    let grouped : bytes ≡ body ++ h = whole ∙ sym (regroup level_kind (sha256 (canonical plan)) (big_bytes 8 epoch) (big_bytes 4 plan.size) (big_bytes 4 (slots_of plan)) (packed_contents slots pairs) h) in
    sealed-back bytes body long digest (ap body_of grouped ∙ (tail-at body h sized).1)

pub stand-back : (plan : Plan) (bytes : List ℕ) → IsBytes bytes → HasForm (level_layout plan) plan bytes → bytes ≡ sealed (packed_body plan (stand_in plan bytes))
unfolding stand_in
stand-back plan bytes are has =
    let n = slots_of plan in
    let slots = slots_in plan.size n (drop 56 bytes) in
    let pairs = pairs_in plan.size n (drop 56 bytes) in
    let epoch = number_at 8 40 bytes in
    let long : 88 + contents_len plan.size n ≡ length bytes = form-long plan.size n ∙ sym has.len in
    let room : contents_len plan.size n ≤ length (drop 56 bytes) = omega (arith, length-drop 56 bytes) in
    let contents = contents-back plan.size n (drop 56 bytes) (bytes-drop 56 bytes are) room in
    let behind : drop 56 bytes ≡ packed_contents slots pairs ++ drop (56 + contents_len plan.size n) bytes =
    cut bytes 56 (contents_len plan.size n) ∙ ap (λ x. x ++ drop (56 + contents_len plan.size n) bytes) (sym contents) in
    let epoch_back : piece 40 8 bytes ≡ big_bytes 8 epoch = sym (long_word-back (drop 40 bytes) (bytes-drop 40 bytes are) (omega (arith, length-drop 40 bytes))) in
    let whole = joined bytes (take 8 bytes) level_kind (piece 8 32 bytes) (sha256 (canonical plan)) (piece 40 8 bytes) (big_bytes 8 epoch) (piece 48 4 bytes) (big_bytes 4 plan.size) (piece 52 4 bytes) (big_bytes 4 n)
    (drop 8 bytes) (drop 40 bytes) (drop 48 bytes) (drop 52 bytes) (drop 56 bytes)
    (sym (take-append-drop 8 bytes)) (cut bytes 8 32) (cut bytes 40 8) (cut bytes 48 4) (cut bytes 52 4)
    has.kind has.own_plan epoch_back
    (number-back plan.size 48 bytes are (omega (arith, long)) has.size)
    (number-back n 52 bytes are (omega (arith, long)) has.slots) in
    level-sealed plan bytes epoch slots pairs _ (omega (arith, long)) (whole ∙ ap (λ x. level_kind ++ (sha256 (canonical plan) ++ (big_bytes 8 epoch ++ (big_bytes 4 plan.size ++ (big_bytes 4 n ++ x))))) behind) (omega (arith, long, length-drop (56 + contents_len plan.size n) bytes)) has.digest
