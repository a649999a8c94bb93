-- What is read is a file, and a file is read as what it was written from.
use Rattle.std.proofs.Common.{inl, inr, ◌≡◌, ℕ, ◌+◌, ◌-◌, ◌*◌, ◌/◌, ◌%◌, ◌<◌, ◌≤◌, ◌^◌, false, List, ◌++◌, length, take, drop, get_or, get_or-drop, Option, Some, None, refl, sym, ap, ◌∙◌, arith}
use Rattle.std.specs.Prelude.{nat_le}
use Rattle.std.proofs.lemmas.Bool.{and_parts, cases_lt, eqb-true, eq-eqb, leb-true, le-leb, lt-ltb, le-ltb}
use Rattle.std.proofs.lemmas.Slice.Eq.{bytes_eq-Decides}
use Rattle.std.proofs.lemmas.List.{take_at, drop_at, take-append-drop, length-append, length-take, length-drop, drop-drop, get_or-take, get_or_append_left, append_assoc}
use Rattle.std.proofs.lemmas.Nat.{mul-add-lt, div_below, mod_below, div-add-mod', div-mul-add, mod-mul-add}
use Rattle.std.proofs.Math.Nat.{mul_comm}
use Rattle.byteorder.specs.Endian.{big_bytes}
use Rattle.sha2.specs.Sha256.{sha256}
use Rattle.sha2.proofs.Facts256.{length-sha256}
use Rattle.glass_edges.proofs.FirstRefusals.{or-none, if-none}
use Rattle.glass_edges.proofs.NumberBytes.{IsBytes, bytes-drop, word-back, word-read, join}
use Rattle.spin_model.specs.Couplings.{Bonds}
use Rattle.spin_model.specs.Lattice.{IsLawfulSize, bond_count}
use Rattle.spin_model.specs.Steps.{table}
use Rattle.spin_model.specs.Words.{is_set}
use Rattle.spin_model.proofs.Tables.{length-table, get_or-table, table-same, table-of_items}
use Rattle.multispin_word.proofs.Bits.{is_set-zero}
use Rattle.glass_edges.specs.Sealed.{body_of, digest_of}
use Rattle.coupling_set.specs.CouplingsFile.{magic, sample_bytes, coupling_byte, coupling_bytes, body_with, file_with, file_bytes, file_length, size_in, samples_in, byte_at, of_file, short, other_kind, other_size, other_samples, other_length, damaged, file_refusal, IsFileOf}
use Rattle.coupling_set.proofs.BondsAsWords.{word-of_bits, is_set-word_of, word_of-same}
use Rattle.coupling_set.proofs.FileBytes.{bond_count-bytes, sample_bytes-positive}

-- ---- the tests

-- what the tests say together
pub record HasForm (l : ℕ) (bytes : List ℕ) : Type 0 where
  pub kind : take 8 bytes ≡ magic
  pub size : size_in bytes ≡ l
  pub some : 1 ≤ samples_in bytes
  pub few : samples_in bytes ≤ 256
  pub len : length bytes ≡ file_length l (samples_in bytes)
  pub digest : digest_of bytes ≡ sha256 (body_of bytes)

pub not-both : {E : Type 0} (e : E) (found : Option E) → Some e ≡ found → None ≡ found → ⊥
not-both e found some none = absurd cc

pub refusal-form : (l : ℕ) (bytes : List ℕ) → None ≡ file_refusal l bytes → HasForm l bytes
unfolding file_refusal other_kind other_size other_samples other_length damaged
refusal-form l bytes none =
    let a = or-none (short bytes) _ none in
    let b = or-none (other_kind bytes) _ a.1 in
    let c = or-none (other_size l bytes) _ b.1 in
    let d = or-none (other_samples bytes) _ c.1 in
    let e = or-none (other_length l bytes) _ d.1 in
    let samples = and_parts (nat_le 1 (samples_in bytes)) (nat_le (samples_in bytes) 256) (if-none _ None _ d.0).0 in
    record {
      kind = (bytes_eq-Decides (take 8 bytes) magic).0 (if-none _ None _ b.0).0;
      size = eqb-true _ _ (if-none _ None _ c.0).0;
      some = leb-true 1 (samples_in bytes) samples.0;
      few = leb-true (samples_in bytes) 256 samples.1;
      len = eqb-true _ _ (if-none _ None _ e.0).0;
      digest = (bytes_eq-Decides (digest_of bytes) (sha256 (body_of bytes))).0 (if-none _ None _ e.1).0;
    }

pub form-refusal : (l : ℕ) (bytes : List ℕ) → HasForm l bytes → None ≡ file_refusal l bytes
unfolding file_refusal short other_kind other_size other_samples other_length damaged
form-refusal l bytes form =
    let long = le-ltb (length bytes) 48 (omega (arith, form.len)) in
    rw (
      long,
      (bytes_eq-Decides (take 8 bytes) magic).1 form.kind,
      eq-eqb (size_in bytes) l form.size,
      le-leb 1 (samples_in bytes) form.some,
      le-leb (samples_in bytes) 256 form.few,
      eq-eqb (length bytes) (file_length l (samples_in bytes)) form.len,
      (bytes_eq-Decides (digest_of bytes) (sha256 (body_of bytes))).1 form.digest,
    ) refl

-- ---- the parts

-- bytes in four parts, the first three of lengths 8, 4 and 4
pub record InParts (bytes m z t behind : List ℕ) : Type 0 where
  pub kind : take 8 bytes ≡ m
  pub size : take 4 (drop 8 bytes) ≡ z
  pub samples : take 4 (drop 12 bytes) ≡ t
  pub rest : drop 16 bytes ≡ behind

next-part : (xs p q : List ℕ) (place len further : ℕ) → drop place xs ≡ p ++ q → length p ≡ len → further ≡ place + len
    → (take len (drop place xs) ≡ p) × (drop further xs ≡ q)
next-part xs p q place len further e is at =
    (ap (take len) e ∙ take_at p q len is, rw at (sym (drop-drop len place xs) ∙ (ap (drop len) e ∙ drop_at p q len is)))

parts-of : (xs m z t behind : List ℕ) → xs ≡ m ++ (z ++ (t ++ behind)) → length m ≡ 8 → length z ≡ 4 → length t ≡ 4 → InParts xs m z t behind
parts-of xs m z t behind whole lm lz lt =
    let first = next-part xs m (z ++ (t ++ behind)) 0 8 8 whole lm refl in
    let second = next-part xs z (t ++ behind) 8 4 12 first.1 lz refl in
    let third = next-part xs t behind 12 4 16 second.1 lt refl in
    record { kind = first.0; size = second.0; samples = third.0; rest = third.1 }

joined : (bytes m0 z0 t0 r1 r2 r3 m z t behind : List ℕ) → bytes ≡ m0 ++ r1 → r1 ≡ z0 ++ r2 → r2 ≡ t0 ++ r3 → m0 ≡ m → z0 ≡ z → t0 ≡ t → r3 ≡ behind
    → bytes ≡ m ++ (z ++ (t ++ behind))
joined bytes m0 z0 t0 r1 r2 r3 m z t behind a b c i j k n = cc

parts-joined : (bytes m z t behind : List ℕ) → InParts bytes m z t behind → bytes ≡ m ++ (z ++ (t ++ behind))
parts-joined bytes m z t behind p =
    let next : (n k : ℕ) → drop n bytes ≡ take k (drop n bytes) ++ drop (n + k) bytes =
    λ n k. sym (take-append-drop k (drop n bytes)) ∙ ap (λ (x : List ℕ). take k (drop n bytes) ++ x) (drop-drop k n bytes) in
    let s0 : bytes ≡ take 8 bytes ++ drop 8 bytes = sym (take-append-drop 8 bytes) in
    let s1 : drop 8 bytes ≡ take 4 (drop 8 bytes) ++ drop 12 bytes = next 8 4 in
    let s2 : drop 12 bytes ≡ take 4 (drop 12 bytes) ++ drop 16 bytes = next 12 4 in
    joined bytes (take 8 bytes) (take 4 (drop 8 bytes)) (take 4 (drop 12 bytes)) (drop 8 bytes) (drop 12 bytes) (drop 16 bytes) m z t behind s0 s1 s2 p.kind p.size p.samples p.rest

-- ---- bytes and bits

-- a byte of a sample that the file has
pub byte_at-held : (l : ℕ) (bytes : List ℕ) (b k : ℕ) → b < samples_in bytes → byte_at l bytes b k ≡ get_or bytes (16 + b * sample_bytes l + k) 0
unfolding byte_at
byte_at-held l bytes b k held = rw (lt-ltb b (samples_in bytes) held) refl

pub byte_at-absent : (l : ℕ) (bytes : List ℕ) (b k : ℕ) → samples_in bytes ≤ b → byte_at l bytes b k ≡ 0
unfolding byte_at
byte_at-absent l bytes b k absent = rw (le-ltb b (samples_in bytes) absent) refl

pub of_file-absent : (l : ℕ) (bytes : List ℕ) (b n : ℕ) → samples_in bytes ≤ b → of_file l bytes b n ≡ false
of_file-absent l bytes b n absent = ap (λ byte. is_set byte (7 - n % 8)) (byte_at-absent l bytes b (n / 8) absent) ∙ is_set-zero (7 - n % 8)

-- the bits of a byte are the byte
stored-byte : (l : ℕ) (bytes : List ℕ) (b k : ℕ) → byte_at l bytes b k < 2 ^ 8 → coupling_byte (of_file l bytes b) k ≡ byte_at l bytes b k
stored-byte l bytes b k small =
    word_of-same (λ i. of_file l bytes b (8 * k + (7 - i))) (is_set (byte_at l bytes b k)) 8
    (λ i below.
    let byte : (8 * k + (7 - i)) / 8 ≡ k = omega arith in
    let place : 7 - (8 * k + (7 - i)) % 8 ≡ i = omega arith in
    rw (byte, place) refl)
    ∙ sym (word-of_bits (is_set (byte_at l bytes b k)) 8 (byte_at l bytes b k) small (λ i below. refl))

-- ---- what is read is a file

-- byte p of the samples
stored-item : (l : ℕ) (bytes : List ℕ) (p : ℕ) → IsLawfulSize l → IsBytes bytes → p < samples_in bytes * sample_bytes l
    → get_or bytes (16 + p) 0 ≡ coupling_byte (of_file l bytes (p / sample_bytes l)) (p % sample_bytes l)
stored-item l bytes p lawful fits within =
    let s = sample_bytes l in
    let some = sample_bytes-positive l lawful in
    let row = div_below p s (samples_in bytes) some within in
    let parts = div-add-mod' p s in
    let byte = byte_at-held l bytes (p / s) (p % s) row in
    let place : 16 + p / s * s + p % s ≡ 16 + p = omega (arith, parts) in
    let same : byte_at l bytes (p / s) (p % s) ≡ get_or bytes (16 + p) 0 = byte ∙ ap (λ i. get_or bytes i 0) place in
    sym (stored-byte l bytes (p / s) (p % s) (rw same (omega (arith, fits (16 + p)))) ∙ same)

stored-all : (l : ℕ) (bytes : List ℕ) → IsLawfulSize l → IsBytes bytes → HasForm l bytes
    → take (samples_in bytes * sample_bytes l) (drop 16 bytes) ≡ coupling_bytes l (samples_in bytes) (of_file l bytes)
unfolding coupling_bytes
stored-all l bytes lawful fits form =
    let count = samples_in bytes * sample_bytes l in
    table-of_items (λ p. coupling_byte (of_file l bytes (p / sample_bytes l)) (p % sample_bytes l)) count 0 (take count (drop 16 bytes))
    (omega (arith, length-take count (drop 16 bytes), length-drop 16 bytes, form.len))
    (λ p within. get_or-take count (drop 16 bytes) p 0 within ∙ get_or-drop 16 bytes p 0 ∙ stored-item l bytes p lawful fits within)

-- a body and a digest, piece by piece
grouped : (m z t s d : List ℕ) → m ++ (z ++ (t ++ (s ++ d))) ≡ (m ++ (z ++ (t ++ s))) ++ d
grouped m z t s d = simp append_assoc

pub form-file : (l : ℕ) (bytes : List ℕ) → IsLawfulSize l → IsBytes bytes → HasForm l bytes → bytes ≡ file_bytes l (samples_in bytes) (of_file l bytes)
unfolding file_with
form-file l bytes lawful fits form =
    let n = samples_in bytes in
    let count = n * sample_bytes l in
    let stored = coupling_bytes l n (of_file l bytes) in
    let d = digest_of bytes in
    let parts : InParts bytes magic (big_bytes 4 l) (big_bytes 4 n) (drop 16 bytes) = record {
      kind = form.kind;
      size = sym (ap (big_bytes 4) (sym form.size) ∙ word-back (drop 8 bytes) (bytes-drop 8 bytes fits) (omega (arith, form.len, length-drop 8 bytes)));
      samples = sym (word-back (drop 12 bytes) (bytes-drop 12 bytes fits) (omega (arith, form.len, length-drop 12 bytes)));
      rest = refl;
    } in
    let end : 16 + count ≡ length bytes - 32 = omega (arith, form.len) in
    let behind : drop count (drop 16 bytes) ≡ d = drop-drop count 16 bytes ∙ ap (λ i. drop i bytes) end in
    let rest : drop 16 bytes ≡ stored ++ d = sym (take-append-drop count (drop 16 bytes))
    ∙ join _ _ _ _ (stored-all l bytes lawful fits form) behind in
    let whole : bytes ≡ body_with l n stored ++ d = parts-joined bytes _ _ _ _ parts
    ∙ ap (λ x. magic ++ (big_bytes 4 l ++ (big_bytes 4 n ++ x))) rest ∙ grouped magic (big_bytes 4 l) (big_bytes 4 n) stored d in
    let digest : length d ≡ 32 = ap length form.digest ∙ length-sha256 (body_of bytes) in
    let long : length (body_with l n stored) ≡ length bytes - 32 = omega (arith, ap length whole, length-append (body_with l n stored) d, digest) in
    let body : body_of bytes ≡ body_with l n stored = ap (take (length bytes - 32)) whole ∙ take_at (body_with l n stored) d (length bytes - 32) long in
    whole ∙ ap (λ x. body_with l n stored ++ x) (form.digest ∙ ap sha256 body)

-- ---- a file is read as what it was written from

length-body : (l n : ℕ) (stored : List ℕ) → length (body_with l n stored) ≡ 16 + length stored
length-body l n stored =
    let kind : length magic ≡ 8 = refl in
    let side : length (big_bytes 4 l) ≡ 4 = refl in
    let count : length (big_bytes 4 n) ≡ 4 = refl in
    omega (arith, kind, side, count, length-append magic (big_bytes 4 l ++ (big_bytes 4 n ++ stored)), length-append (big_bytes 4 l) (big_bytes 4 n ++ stored), length-append (big_bytes 4 n) stored)

-- bytes that are a body and its digest
pub record IsWhole (l n : ℕ) (stored bytes : List ℕ) : Type 0 where
  pub parts : InParts bytes magic (big_bytes 4 l) (big_bytes 4 n) (stored ++ sha256 (body_with l n stored))
  pub len : length bytes ≡ 48 + length stored
  pub body : body_of bytes ≡ body_with l n stored
  pub digest : digest_of bytes ≡ sha256 (body_with l n stored)

whole-of : (l n : ℕ) (stored bytes : List ℕ) → bytes ≡ file_with l n stored → IsWhole l n stored bytes
unfolding file_with
whole-of l n stored bytes same =
    let body = body_with l n stored in
    let d = sha256 body in
    let len : length bytes ≡ 48 + length stored = omega (arith, ap length same, length-append body d, length-body l n stored, length-sha256 body) in
    let end : length body ≡ length bytes - 32 = omega (arith, len, length-body l n stored) in
    record {
      parts = parts-of bytes magic (big_bytes 4 l) (big_bytes 4 n) (stored ++ d) (same ∙ sym (grouped magic (big_bytes 4 l) (big_bytes 4 n) stored d)) refl refl refl;
      len = len;
      body = ap (take (length bytes - 32)) same ∙ take_at body d (length bytes - 32) end;
      digest = ap (drop (length bytes - 32)) same ∙ drop_at body d (length bytes - 32) end;
    }

length-stored : (l n : ℕ) (bonds : ℕ → Bonds) → length (coupling_bytes l n bonds) ≡ n * sample_bytes l
unfolding coupling_bytes
length-stored l n bonds = length-table _ (n * sample_bytes l)

whole-samples : (l n : ℕ) (stored bytes : List ℕ) → n ≤ 256 → IsWhole l n stored bytes → samples_in bytes ≡ n
whole-samples l n stored bytes few whole = word-read n (drop 12 bytes) (omega arith) whole.parts.samples

pub file-form : (l n : ℕ) (bonds : ℕ → Bonds) (bytes : List ℕ) → IsLawfulSize l → IsFileOf l n bonds bytes → HasForm l bytes
file-form l n bonds bytes lawful is =
    let whole = whole-of l n (coupling_bytes l n bonds) bytes is.same in
    let samples = whole-samples l n _ bytes is.few whole in
    record {
      kind = whole.parts.kind;
      size = word-read l (drop 8 bytes) (omega arith) whole.parts.size;
      some = rw samples is.some;
      few = rw samples is.few;
      len = whole.len ∙ ap (λ k. 48 + k) (length-stored l n bonds) ∙ ap (λ k. 48 + k * sample_bytes l) (sym samples);
      digest = whole.digest ∙ ap sha256 (sym whole.body);
    }

-- a byte of the samples
stored-at : (l n b k : ℕ) (bonds : ℕ → Bonds) (d : List ℕ) → b < n → k < sample_bytes l
    → get_or (coupling_bytes l n bonds ++ d) (b * sample_bytes l + k) 0 ≡ coupling_byte (bonds b) k
unfolding coupling_bytes
stored-at l n b k bonds d held within =
    let s = sample_bytes l in
    let item : ℕ → ℕ = λ p. coupling_byte (bonds (p / s)) (p % s) in
    let place = mul-add-lt b s k n held within in
    let turned = mul_comm s n in
    let below : b * s + k < n * s = omega arith in
    get_or_append_left (table item (n * s)) d 0 (b * s + k) (omega (arith, below, length-table item (n * s)))
    ∙ get_or-table item (n * s) (b * s + k) 0 below
    ∙ ap (λ q. coupling_byte (bonds q) ((b * s + k) % s)) (div-mul-add b s k within) ∙ ap (coupling_byte (bonds b)) (mod-mul-add b s k within)

file-byte : (l n b k : ℕ) (bonds : ℕ → Bonds) (bytes : List ℕ) → IsFileOf l n bonds bytes → b < n → k < sample_bytes l
    → byte_at l bytes b k ≡ coupling_byte (bonds b) k
file-byte l n b k bonds bytes is held within =
    let s = sample_bytes l in
    let whole = whole-of l n (coupling_bytes l n bonds) bytes is.same in
    let samples = whole-samples l n _ bytes is.few whole in
    let place : 16 + b * s + k ≡ 16 + (b * s + k) = omega arith in
    byte_at-held l bytes b k (rw samples held) ∙ ap (λ i. get_or bytes i 0) place ∙ sym (get_or-drop 16 bytes (b * s + k) 0)
    ∙ ap (λ xs. get_or xs (b * s + k) 0) whole.parts.rest ∙ stored-at l n b k bonds _ held within

pub file-says : (l n : ℕ) (bonds : ℕ → Bonds) (bytes : List ℕ) → IsLawfulSize l → IsFileOf l n bonds bytes
    → (b m : ℕ) → m < bond_count l → of_file l bytes b m ≡ bonds b m
file-says l n bonds bytes lawful is b m within =
    let whole = whole-of l n (coupling_bytes l n bonds) bytes is.same in
    let samples = whole-samples l n _ bytes is.few whole in
    elim (cases_lt b n) [
      | inl held ↦
          let k = m / 8 in
          let bits = bond_count-bytes l lawful in
          let bond : 8 * k + (7 - (7 - m % 8)) ≡ m = omega arith in
          ap (λ byte. is_set byte (7 - m % 8)) (file-byte l n b k bonds bytes is held (omega arith))
          ∙ is_set-word_of (λ i. bonds b (8 * k + (7 - i))) 8 (7 - m % 8) (omega arith) ∙ ap (bonds b) bond
      | inr absent ↦ of_file-absent l bytes b m (rw samples absent) ∙ sym (is.others b m absent)
    ]

-- ---- couplings that agree are one file

pub file_bytes-same : (l n : ℕ) (f g : ℕ → Bonds) → IsLawfulSize l → ((b m : ℕ) → b < n → m < bond_count l → f b m ≡ g b m)
    → file_bytes l n f ≡ file_bytes l n g
unfolding coupling_bytes
file_bytes-same l n f g lawful same =
    let s = sample_bytes l in
    let some = sample_bytes-positive l lawful in
    let bits = bond_count-bytes l lawful in
    ap (file_with l n) (table-same (λ p. coupling_byte (f (p / s)) (p % s)) (λ p. coupling_byte (g (p / s)) (p % s)) (n * s)
    (λ p within.
    let row = div_below p s n some within in
    let column = mod_below p s some in
    word_of-same (λ i. f (p / s) (8 * (p % s) + (7 - i))) (λ i. g (p / s) (8 * (p % s) + (7 - i))) 8
    (λ i below. same (p / s) (8 * (p % s) + (7 - i)) row (omega arith))))
