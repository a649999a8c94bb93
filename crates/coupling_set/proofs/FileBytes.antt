-- Bonds, bytes and samples of a couplings file.
use Rattle.std.proofs.Common.{◌≡◌, ℕ, ◌*◌, ◌/◌, ◌<◌, ap, ◌∙◌, arith}
use Rattle.std.proofs.Math.Nat.{mul_assoc, mul_comm}
use Rattle.std.proofs.lemmas.Nat.{mul-lt}
use Rattle.spin_model.specs.Lattice.{IsLawfulSize, bond_count, volume, half_plane}
use Rattle.coupling_set.specs.CouplingsFile.{sample_bytes}
use Rattle.coupling_set.proofs.KeptPlaces.{volume-planes}
use Rattle.coupling_set.proofs.Places.{half_plane-positive}

-- the bonds of a lattice of even side are whole bytes
pub bond_count-bytes : (l : ℕ) → IsLawfulSize l → bond_count l ≡ 8 * sample_bytes l
bond_count-bytes l lawful =
    let h = l / 2 in
    let even : l ≡ 2 * h = omega arith in
    let plane : half_plane l ≡ 2 * (h * h) = ap (λ m. m * h) even ∙ mul_assoc 2 h h in
    let column : l * half_plane l ≡ 2 * (h * half_plane l) = ap (λ m. m * half_plane l) even ∙ mul_assoc 2 h (half_plane l) in
    let half : h * half_plane l ≡ 2 * (h * h * h) = ap (λ m. h * m) plane ∙ mul_comm h (2 * (h * h)) ∙ mul_assoc 2 (h * h) h in
    let sites : volume l ≡ 2 * (l * half_plane l) = volume-planes l lawful ∙ mul_assoc 2 l (half_plane l) in
    omega arith

pub sample_bytes-positive : (l : ℕ) → IsLawfulSize l → 0 < sample_bytes l
sample_bytes-positive l lawful =
    let sites = mul-lt 0 0 (2 * l) (half_plane l) (omega arith) (half_plane-positive l lawful) in
    omega (arith, sites, volume-planes l lawful, bond_count-bytes l lawful)
