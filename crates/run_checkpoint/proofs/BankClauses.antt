-- The clauses of the reader of a checkpoint of several banks.
use Rattle.std.proofs.Common.{◌≡◌, ℕ, ◌+◌, ◌*◌, ◌<◌, ◌≤◌, List, ◌++◌, All, length, take, drop, get_or, Some, None, Result, Ok, Err, refl, sym, ap, subst, ◌∙◌, arith, append_assoc, inl, inr}
use Rattle.std.specs.Prelude.{IfOk, IfErr, ◌==◌}
use Rattle.std.specs.Global.{Vec}
use Rattle.std.proofs.lemmas.Bool.{eqb-true, eq-eqb}
use Rattle.std.proofs.lemmas.List.{length-append, length-drop, take-append-drop}
use Rattle.sha2.specs.Sha256.{sha256}
use Rattle.byteorder.specs.Endian.{big_bytes, big_number}
use Rattle.byteorder.specs.Numbers.{big_number-reads_back}
use Rattle.glass_edges.specs.Refusals.{GivesAfterTests}
use Rattle.scalar_rule.specs.Plan.{Plan, slots_of, IsLawfulPlan}
use Rattle.scalar_rule.specs.declared.sample.Sample.{Sample}
use Rattle.plane_sweep.specs.declared.stand.Stand.{Stand}
use Rattle.run_checkpoint.specs.BankDecoding.{other_banks, banks_refused, epochs_refused, first_epoch, banks_form, banks_refusal, banks_in, banks_decoded, AreEncoded}
use Rattle.run_checkpoint.specs.BankEncoding.{banks_kind, banks_header, banks_bytes, banks_encoding, bank_len, banks_len, banks_parts, HaveOneShape, AreBanks, BanksStand, BanksFit}
use Rattle.run_checkpoint.specs.Kinds.{sealed}
use Rattle.run_checkpoint.specs.Lengths.{encoding_len}
use Rattle.run_checkpoint.specs.Reading.{piece, number_at, body_of, digest_of}
use Rattle.run_checkpoint.specs.Tests.{short, other_kind, other_length, damaged}
use Rattle.run_checkpoint.specs.declared.refused.CheckpointRefused.{CheckpointRefused}
use Rattle.run_checkpoint.specs.declared.refused.CheckpointRefused.TheVariants as refused
use Rattle.run_checkpoint.proofs.BankForm.{Lens, banks_packed, banks-long, banks-again, banks-pass, first-stored, epochs-pass, banks-back, banks-fit, first-in_time, tells-banks, tells-epochs, packing}
use Rattle.run_checkpoint.proofs.BankSteps.{shape-at, shape-len}
use Rattle.run_checkpoint.proofs.Forms.{next-part, cut, tail-at, sealed-digest, sealed-back, length-sealed}
use Rattle.run_checkpoint.proofs.Tested.{Tells, tells-or, tells-if, tells-short, tells-kind, tells-length, tells-digest, long-enough, kind-right, kind-is, length-right, length-is, digest-right, digest-is, memory-or}
use Rattle.glass_edges.proofs.FirstRefusals.{if-none, or-later, or-none, unless-ok}
use Rattle.glass_edges.proofs.NumberBytes.{IsBytes, bytes-drop, word-back}
use Rattle.spin_model.proofs.WordBytes.{length-big_bytes}

-- ---- the frame

banks-are : (wanted : ℕ) (bytes : List ℕ) → None ≡ other_banks wanted bytes → number_at 4 8 bytes ≡ wanted
unfolding other_banks
banks-are wanted bytes e = eqb-true _ _ (if-none _ None _ e).0

banks-right : (wanted : ℕ) (bytes : List ℕ) → number_at 4 8 bytes ≡ wanted → None ≡ other_banks wanted bytes
unfolding other_banks
banks-right wanted bytes e = rw (eq-eqb (number_at 4 8 bytes) wanted e) refl

tells-other : (wanted : ℕ) (bytes : List ℕ) → Tells (other_banks wanted bytes)
unfolding other_banks
tells-other wanted bytes =
    let other : ¬ (refused.BankCount (number_at 4 8 bytes) wanted ≡ refused.NoMemory) = λ e. absurd cc in
    tells-if (number_at 4 8 bytes == wanted) None (Some (refused.BankCount (number_at 4 8 bytes) wanted)) tt other

record HasFrame (plans : List Plan) (bytes : List ℕ) : Type 0 where
  pub kind : take 8 bytes ≡ banks_kind
  pub count : number_at 4 8 bytes ≡ length plans
  pub len : length bytes ≡ banks_len plans
  pub digest : digest_of bytes ≡ sha256 (body_of bytes)

frame-is : (plans : List Plan) (bytes : List ℕ) → None ≡ banks_form plans bytes → HasFrame plans bytes
unfolding banks_form
frame-is plans bytes e =
    let a = or-none (short 44 bytes) _ e in
    let b = or-none (other_kind banks_kind bytes) _ a.1 in
    let c = or-none (other_banks (length plans) bytes) _ b.1 in
    let d = or-none (other_length (banks_len plans) bytes) (damaged bytes) c.1 in
    record { kind = kind-is banks_kind bytes b.0; count = banks-are (length plans) bytes c.0; len = length-is _ bytes d.0; digest = digest-is bytes d.1 }

frame-right : (plans : List Plan) (bytes : List ℕ) → HasFrame plans bytes → None ≡ banks_form plans bytes
unfolding banks_form
frame-right plans bytes has =
    or-later _ _ None (long-enough 44 bytes (omega (arith, has.len)))
    (or-later _ _ None (kind-right banks_kind bytes has.kind)
    (or-later _ _ None (banks-right (length plans) bytes has.count)
    (or-later _ _ None (length-right _ bytes has.len) (digest-right bytes has.digest))))

pub banks-tells : (plans : List Plan) (until : ℕ) (bytes : List ℕ) → Tells (banks_refusal plans until bytes)
unfolding banks_refusal banks_form
banks-tells plans until bytes =
    tells-or _ _ (tells-or _ _ (tells-short 44 bytes) (tells-or _ _ (tells-kind banks_kind bytes) (tells-or _ _ (tells-other (length plans) bytes) (tells-or _ _ (tells-length _ bytes) (tells-digest bytes)))))
    (tells-or _ _ (tells-banks (bank_len plans) until plans (drop 12 bytes)) (tells-epochs (bank_len plans) _ 0 (length plans) (drop 12 bytes)))

-- ---- plans of one shape

lens-of : (plans : List Plan) → HaveOneShape plans → 0 < length plans → Lens (bank_len plans) plans
lens-of plans shape some = λ k d within.
    let both = shape-at shape.size shape.slots plans k d shape.shape within in
    ap (λ l. encoding_len l (slots_of (get_or plans k d))) both.0 ∙ ap (encoding_len shape.size) both.1 ∙ sym (shape-len shape.size shape.slots plans shape.shape some)

-- ---- what is encoded is read

abbrev whole_packed : List Plan → List Stand → List ℕ
whole_packed plans stands = sealed (banks_header (length plans) ++ banks_packed plans stands)

three : (m c b h : List ℕ) → ((m ++ c) ++ b) ++ h ≡ m ++ (c ++ (b ++ h))
three m c b h = simp append_assoc

flat : (plans : List Plan) (stands : List Stand) → whole_packed plans stands ≡ banks_kind ++ (big_bytes 4 (length plans) ++ (banks_packed plans stands ++ sha256 (banks_header (length plans) ++ banks_packed plans stands)))
unfolding sealed banks_header
flat plans stands = three banks_kind (big_bytes 4 (length plans)) (banks_packed plans stands) (sha256 (banks_header (length plans) ++ banks_packed plans stands))

pub length-banks_header : (count : ℕ) → length (banks_header count) ≡ 12
unfolding banks_header
length-banks_header count = length-append banks_kind (big_bytes 4 count) ∙ omega (arith, length-big_bytes 4 count)

record InParts (plans : List Plan) (stands : List Stand) (bytes : List ℕ) : Type 0 where
  pub kind : take 8 bytes ≡ banks_kind
  pub count : (rest : List ℕ) × (drop 8 bytes ≡ big_bytes 4 (length plans) ++ rest)
  pub banks : (rest : List ℕ) × (drop 12 bytes ≡ banks_packed plans stands ++ rest)

in-parts : (plans : List Plan) (stands : List Stand) → InParts plans stands (whole_packed plans stands)
in-parts plans stands =
    let xs = whole_packed plans stands in
    let a = next-part xs banks_kind _ 0 8 8 (flat plans stands) refl refl in
    let b = next-part xs (big_bytes 4 (length plans)) _ 8 4 12 a.1 (length-big_bytes 4 (length plans)) refl in
    record { kind = a.0; count = (_, a.1); banks = (_, b.1) }

banks-none : (epoch until : ℕ) (plans : List Plan) (stands : List Stand) → 0 < length plans → length plans ≤ 4 → All IsLawfulPlan plans → HaveOneShape plans → BanksFit epoch plans stands → epoch ≤ until
    → None ≡ banks_refusal plans until (whole_packed plans stands)
unfolding banks_refusal
banks-none epoch until plans stands some few lawful shape fit le =
    let bytes = whole_packed plans stands in
    let len = bank_len plans in
    let lens = lens-of plans shape some in
    let parts = in-parts plans stands in
    let has : HasFrame plans bytes = record {
      kind = parts.kind;
      count = ap (big_number 4) parts.count.1 ∙ big_number-reads_back 4 (length plans) parts.count.0 (omega arith);
      len = length-sealed (banks_header (length plans) ++ banks_packed plans stands)
          ∙ omega (arith, length-append (banks_header (length plans)) (banks_packed plans stands), length-banks_header (length plans), banks-long len epoch plans stands fit lens);
      digest = sealed-digest (banks_header (length plans) ++ banks_packed plans stands);
    } in
    let first : first_epoch len (drop 12 bytes) ≡ epoch = ap (first_epoch len) parts.banks.1 ∙ first-stored len epoch plans stands parts.banks.0 some fit lens in
    let same : None ≡ epochs_refused len (first_epoch len (drop 12 bytes)) 0 (length plans) (drop 12 bytes) =
    epochs-pass len epoch 0 plans stands parts.banks.0 fit lens
    ∙ ap (epochs_refused len epoch 0 (length plans)) (sym parts.banks.1)
    ∙ ap (λ e. epochs_refused len e 0 (length plans) (drop 12 bytes)) (sym first) in
    or-later _ _ None (frame-right plans bytes has)
    (or-later _ _ None (banks-pass len epoch until plans stands parts.banks.0 lawful fit lens le ∙ ap (banks_refused len until plans) (sym parts.banks.1)) same)

banks-read : (epoch until : ℕ) (plans : List Plan) (stands : List Stand) → 0 < length plans → length plans ≤ 4 → All IsLawfulPlan plans → HaveOneShape plans → BanksFit epoch plans stands → epoch ≤ until
    → banks_decoded plans until (whole_packed plans stands) ≡ Ok stands
unfolding banks_decoded
banks-read epoch until plans stands some few lawful shape fit le =
    let parts = in-parts plans stands in
    let value : banks_in (bank_len plans) plans (drop 12 (whole_packed plans stands)) ≡ stands =
    ap (banks_in (bank_len plans) plans) parts.banks.1 ∙ banks-again (bank_len plans) epoch plans stands parts.banks.0 fit (lens-of plans shape some) in
    rw (← banks-none epoch until plans stands some few lawful shape fit le, value) refl

-- ---- what is read is encoded so

two : (a p b q c m1 m2 : List ℕ) → a ≡ p ++ m1 → m1 ≡ q ++ m2 → p ≡ b → q ≡ c → a ≡ b ++ (c ++ m2)
two a p b q c m1 m2 e1 e2 i1 i2 = cc

banks-sealed : (count : ℕ) (bytes b h : List ℕ) → 32 ≤ length bytes → bytes ≡ banks_kind ++ (big_bytes 4 count ++ (b ++ h)) → length h ≡ 32 → digest_of bytes ≡ sha256 (body_of bytes) → bytes ≡ sealed (banks_header count ++ b)
unfolding banks_header
banks-sealed count bytes b h long whole sized digest =
    let body = (banks_kind ++ big_bytes 4 count) ++ b in
    let grouped : bytes ≡ body ++ h = whole ∙ sym (three banks_kind (big_bytes 4 count) b h) in
    sealed-back bytes body long digest (ap body_of grouped ∙ (tail-at body h sized).1)

banks-sealed-as : (plans : List Plan) (bytes : List ℕ) (states : List (ℕ → Sample)) (h : List ℕ) → 32 ≤ length bytes
    → bytes ≡ banks_kind ++ (big_bytes 4 (length plans) ++ (banks_bytes plans states ++ h)) → length h ≡ 32 → digest_of bytes ≡ sha256 (body_of bytes) → bytes ≡ banks_encoding plans states
unfolding banks_encoding
banks-sealed-as plans bytes states h long whole sized digest = banks-sealed (length plans) bytes (banks_bytes plans states) h long whole sized digest

pub none-encoded : (plans : List Plan) (until : ℕ) (bytes : List ℕ) → 0 < length plans → All IsLawfulPlan plans → IsBytes bytes → None ≡ banks_refusal plans until bytes
    → AreEncoded plans until bytes (banks_in (bank_len plans) plans (drop 12 bytes))
unfolding banks_refusal
none-encoded plans until bytes some lawful are none =
    let len = bank_len plans in
    let a = or-none (banks_form plans bytes) _ none in
    let b = or-none (banks_refused len until plans (drop 12 bytes)) _ a.1 in
    let has = frame-is plans bytes a.0 in
    let are_rest = bytes-drop 12 bytes are in
    let long : length bytes ≡ 44 + len * length plans = has.len in
    let banks = banks-back len until plans (drop 12 bytes) lawful are_rest (omega (arith, long, length-drop 12 bytes)) b.0 in
    let count : piece 8 4 bytes ≡ big_bytes 4 (length plans) = sym (word-back (drop 8 bytes) (bytes-drop 8 bytes are) (omega (arith, long, length-drop 8 bytes))) ∙ ap (big_bytes 4) has.count in
    let front = two bytes (take 8 bytes) banks_kind (piece 8 4 bytes) (big_bytes 4 (length plans)) (drop 8 bytes) (drop 12 bytes) (sym (take-append-drop 8 bytes)) (cut bytes 8 4) has.kind count in
    let rest : drop 12 bytes ≡ banks_bytes plans (banks_parts plans (banks_in len plans (drop 12 bytes))) ++ drop (12 + len * length plans) bytes =
    cut bytes 12 (len * length plans) ∙ ap (λ x. x ++ drop (12 + len * length plans) bytes) (sym banks) in
    let whole = front ∙ ap (λ x. banks_kind ++ (big_bytes 4 (length plans) ++ x)) rest in
    record {
      epoch = first_epoch len (drop 12 bytes);
      fit = banks-fit len until _ 0 plans (drop 12 bytes) lawful are_rest b.0 b.1;
      in_time = first-in_time len until plans (drop 12 bytes) some lawful are_rest b.0;
      bytes_are = banks-sealed-as plans bytes _ (drop (12 + len * length plans) bytes) (omega (arith, long)) whole (omega (arith, long, length-drop (12 + len * length plans) bytes)) has.digest;
    }

-- ---- the clauses

decoded-are : (plans : List Plan) (until : ℕ) (bytes : List ℕ) (stands : List Stand) → 0 < length plans → All IsLawfulPlan plans → IsBytes bytes → banks_decoded plans until bytes ≡ Ok stands → AreEncoded plans until bytes stands
unfolding banks_decoded
decoded-are plans until bytes stands some lawful are e =
    let h = unless-ok (banks_refusal plans until bytes) _ stands e in
    subst (AreEncoded plans until bytes) h.1 (none-encoded plans until bytes some lawful are h.0)

pub banks-found : (plans : List Plan) (until : ℕ) (bytes : List ℕ) (r : Result (Vec Stand) CheckpointRefused) → 0 < length plans → All IsLawfulPlan plans → IsBytes bytes
    → GivesAfterTests refused.NoMemory (λ (v : Vec Stand). v.items) r (banks_decoded plans until bytes) → IfOk r (λ v. AreEncoded plans until bytes v.items)
banks-found plans until bytes (Ok v) some lawful are given = decoded-are plans until bytes v.items some lawful are given
banks-found plans until bytes (Err e) some lawful are given = tt

same-ok : (a b : List Stand) → ◌≡◌ {A = Result (List Stand) CheckpointRefused} (Ok a) (Ok b) → a ≡ b
same-ok a b e = cc

given-only : (P : List Stand → Type 0) (stands : List Stand) (r : Result (Vec Stand) CheckpointRefused) → P stands
    → GivesAfterTests refused.NoMemory (λ (v : Vec Stand). v.items) r (Ok stands) → IfOk r (λ v. P v.items) × IfErr r (λ e. e ≡ refused.NoMemory)
given-only P stands (Ok v) holds given = (subst P (same-ok stands v.items given) holds, tt)
given-only P stands (Err e) holds given = elim (memory-or e) [
  | inl memory ↦ (tt, memory)
  | inr not ↦ let clash = given.1 not in absurd cc
]

-- states at one epoch in time are read, packed
pub states-read : (plans : List Plan) (epoch until : ℕ) (states : List (ℕ → Sample)) → 0 < length plans → length plans ≤ 4 → All IsLawfulPlan plans → HaveOneShape plans
    → AreBanks epoch plans states → epoch ≤ until → (stands : List Stand) × (banks_decoded plans until (banks_encoding plans states) ≡ Ok stands) × BanksStand plans states stands
unfolding banks_encoding
states-read plans epoch until states some few lawful shape are le =
    let p = packing epoch plans states lawful are in
    let whole : banks_encoding plans states ≡ whole_packed plans p.stands = ap (λ x. sealed (banks_header (length plans) ++ x)) p.bytes_are in
    (p.stands, ap (banks_decoded plans until) whole ∙ banks-read epoch until plans p.stands some few lawful shape p.fit le, p.stand_for)

pub banks-only : (plans : List Plan) (epoch until : ℕ) (bytes : List ℕ) (r : Result (Vec Stand) CheckpointRefused) (states : List (ℕ → Sample)) → 0 < length plans → length plans ≤ 4 → All IsLawfulPlan plans → HaveOneShape plans
    → AreBanks epoch plans states → epoch ≤ until → bytes ≡ banks_encoding plans states → GivesAfterTests refused.NoMemory (λ (v : Vec Stand). v.items) r (banks_decoded plans until bytes)
    → IfOk r (λ v. BanksStand plans states v.items) × IfErr r (λ e. e ≡ refused.NoMemory)
banks-only plans epoch until bytes r states some few lawful shape are le is given =
    let packed = states-read plans epoch until states some few lawful shape are le in
    let read = ap (banks_decoded plans until) is ∙ packed.1 in
    given-only (BanksStand plans states) packed.0 r packed.2 (subst (GivesAfterTests refused.NoMemory (λ (v : Vec Stand). v.items) r) read given)
