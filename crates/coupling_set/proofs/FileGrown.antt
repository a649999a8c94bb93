-- A file that was made piece by piece.
use Rattle.std.proofs.Common.{◌≡◌, ℕ, List, [], ◌++◌, ap, ◌∙◌, append_assoc}
use Rattle.byteorder.specs.Endian.{big_bytes}
use Rattle.sha2.specs.Sha256.{sha256}
use Rattle.coupling_set.specs.CouplingsFile.{magic, body_with, file_with}

body-grown : (r0 r1 r2 r3 r4 m z t s : List ℕ) → r0 ≡ [] → r1 ≡ r0 ++ m → r2 ≡ r1 ++ z → r3 ≡ r2 ++ t → r4 ≡ r3 ++ s
    → r4 ≡ m ++ (z ++ (t ++ s))
body-grown r0 r1 r2 r3 r4 m z t s h0 h1 h2 h3 h4 = rw (h4, h3, h2, h1, h0) (simp append_assoc)

pub file_with-grown : (l n : ℕ) (r0 r1 r2 r3 r4 r5 m z t s d : List ℕ) → r0 ≡ [] → r1 ≡ r0 ++ m → r2 ≡ r1 ++ z → r3 ≡ r2 ++ t → r4 ≡ r3 ++ s
    → r5 ≡ r4 ++ d → m ≡ magic → z ≡ big_bytes 4 l → t ≡ big_bytes 4 n → d ≡ sha256 r4 → r5 ≡ file_with l n s
unfolding file_with
file_with-grown l n r0 r1 r2 r3 r4 r5 m z t s d h0 h1 h2 h3 h4 h5 kind side count digest =
    let body : r4 ≡ body_with l n s = body-grown r0 r1 r2 r3 r4 magic (big_bytes 4 l) (big_bytes 4 n) s h0
    (h1 ∙ ap (λ x. r0 ++ x) kind) (h2 ∙ ap (λ x. r1 ++ x) side) (h3 ∙ ap (λ x. r2 ++ x) count) h4 in
    h5 ∙ ap (λ x. r4 ++ x) digest ∙ ap (λ x. x ++ sha256 x) body
