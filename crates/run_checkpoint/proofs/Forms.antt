-- Bytes that are cut into parts, and parts that are joined.
use Rattle.std.proofs.Common.{◌≡◌, ℕ, ◌+◌, ◌-◌, ◌≤◌, List, ◌++◌, length, take, drop, refl, sym, ap, ◌∙◌, arith}
use Rattle.std.proofs.lemmas.List.{take_at, drop_at, take-append-drop, length-append, drop-drop}
use Rattle.sha2.specs.Sha256.{sha256}
use Rattle.sha2.proofs.Facts256.{length-sha256}
use Rattle.run_checkpoint.specs.Kinds.{sealed}
use Rattle.run_checkpoint.specs.Reading.{piece, body_of, digest_of}

-- the next part stands at its place
pub next-part : (xs p q : List ℕ) (place len further : ℕ) → drop place xs ≡ p ++ q → length p ≡ len → further ≡ place + len → (piece place len xs ≡ p) × (drop further xs ≡ q)
next-part xs p q place len further e is at = (ap (take len) e ∙ take_at p q len is, rw at (sym (drop-drop len place xs) ∙ (ap (drop len) e ∙ drop_at p q len is)))

-- a part, and what is behind it
pub cut : (bytes : List ℕ) (place len : ℕ) → drop place bytes ≡ piece place len bytes ++ drop (place + len) bytes
cut bytes place len = sym (take-append-drop len (drop place bytes)) ∙ ap (λ (x : List ℕ). piece place len bytes ++ x) (drop-drop len place bytes)

-- the digest is the last 32 bytes
pub tail-at : (b h : List ℕ) → length h ≡ 32 → (digest_of (b ++ h) ≡ h) × (body_of (b ++ h) ≡ b)
tail-at b h e =
    let n : length (b ++ h) - 32 ≡ length b = omega (arith, length-append b h) in
    (rw n (drop_at b h (length b) refl), rw n (take_at b h (length b) refl))

pub sealed-digest : (bytes : List ℕ) → digest_of (sealed bytes) ≡ sha256 (body_of (sealed bytes))
unfolding sealed
sealed-digest bytes =
    let tail = tail-at bytes (sha256 bytes) (length-sha256 bytes) in
    tail.0 ∙ sym (ap sha256 tail.1)

-- bytes that end with their digest are sealed
pub sealed-back : (bytes body : List ℕ) → 32 ≤ length bytes → digest_of bytes ≡ sha256 (body_of bytes) → body_of bytes ≡ body → bytes ≡ sealed body
unfolding sealed
sealed-back bytes body long digest front =
    sym (take-append-drop (length bytes - 32) bytes)
    ∙ ap (λ (x : List ℕ). x ++ digest_of bytes) front
    ∙ ap (λ (x : List ℕ). body ++ x) (digest ∙ ap sha256 front)

pub length-sealed : (bytes : List ℕ) → length (sealed bytes) ≡ length bytes + 32
unfolding sealed
length-sealed bytes = omega (arith, length-append bytes (sha256 bytes), length-sha256 bytes)
