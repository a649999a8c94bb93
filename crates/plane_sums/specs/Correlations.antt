-- Sums of products of numbers by family, plane and sample.
use Rattle.std.specs.Prelude.{ℕ, ◌+◌, ◌%◌, ℤ, pos, ◌*ℤ◌, List, slice_index_or}
use Rattle.spin_model.specs.SignedSums.{sum_of}
use Rattle.plane_sums.specs.Rooms.{number_in}

-- number b of a list of numbers by sample
abbrev pub signed_at : List ℤ → ℕ → ℤ
signed_at numbers b = slice_index_or numbers b (pos 0)

-- over a family's planes, the sum of the number of each times that of the plane r on, around the boundary
abbrev pub product_sum : ℕ → List (List (List ℤ)) → ℕ → ℕ → ℕ → ℤ
product_sum l numbers f r b = sum_of (λ m. number_in numbers f m b *ℤ number_in numbers f ((m + r) % l) b) l
