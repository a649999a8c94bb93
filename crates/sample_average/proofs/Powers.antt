-- Powers of an overlap are small.
use Rattle.std.proofs.Common.{ℕ, ◌*◌, ◌≤◌}
use Rattle.std.proofs.lemmas.Nat.{mul-le}

pub square_few : (n : ℕ) → n ≤ 262144 → n * n ≤ 68719476736
square_few n few = mul-le n n 262144 262144 few few

pub fourth_few : (n : ℕ) → n ≤ 68719476736 → n * n ≤ 4722366482869645213696
fourth_few n few = mul-le n n 68719476736 68719476736 few few
