-- Powers of overlaps and of energies fit.
use Rattle.std.proofs.Common.{◌*◌, ◌^◌, ◌<◌, ◌≤◌, ℤ, nat_abs, ◌*ℤ◌, arith}
use Rattle.std.proofs.lemmas.Nat.{mul-le}
use Rattle.measured_sums.proofs.BoundedSums.{abs-product}

pub square_few : (q : ℤ) → nat_abs q ≤ 262144 → nat_abs (q *ℤ q) ≤ 68719476736
square_few q few =
    let most = mul-le (nat_abs q) (nat_abs q) 262144 262144 few few in
    rw (abs-product q q) (omega (arith, most))

pub fourth_few : (q : ℤ) → nat_abs q ≤ 68719476736 → nat_abs (q *ℤ q) ≤ 4722366482869645213696
fourth_few q few =
    let most = mul-le (nat_abs q) (nat_abs q) 68719476736 68719476736 few few in
    rw (abs-product q q) (omega (arith, most))

pub fourth_fits : (q : ℤ) → nat_abs q ≤ 68719476736 → nat_abs q * nat_abs q < 2 ^ 127
fourth_fits q few =
    let most = mul-le (nat_abs q) (nat_abs q) 68719476736 68719476736 few few in
    omega (arith, most)

pub energy_fits : (e q : ℤ) → nat_abs e ≤ 1572864 → nat_abs q ≤ 4722366482869645213696 → nat_abs e * nat_abs q < 2 ^ 127
energy_fits e q few less =
    let most = mul-le (nat_abs e) (nat_abs q) 1572864 4722366482869645213696 few less in
    omega (arith, most)
