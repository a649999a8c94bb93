-- Terms at the first places of the compact order, and where the sites some steps on have their words.
use Rattle.std.specs.Prelude.{ℕ, zero, suc, ◌+◌, ◌*◌, ◌/◌, ◌%◌, Bool, List}
use Rattle.spin_model.specs.Steps.{count_below}
use Rattle.spin_model.specs.Lattice.{from_compact, half_plane}
use Rattle.overlap_lines.specs.Overlaps as model

-- at how many of the sites at the first n places q q' = +1 with the site r steps on in direction d
unfoldable pub line_from : ℕ → List Bool → List Bool → ℕ → ℕ → ℕ → ℕ
line_from l first second d r n = count_below (λ p. model.term first second (from_compact l p) (model.steps_on l (from_compact l p) d r)) n

-- the plane of the sites r steps on in direction d from those of plane q: of the other colour where r is odd
unfoldable pub plane_on : ℕ → ℕ → ℕ → ℕ → ℕ
plane_on l q d r = (q / l + r) % 2 * l + height d
  where
    height : ℕ → ℕ
    height zero = q % l
    height (suc zero) = q % l
    height (suc (suc _)) = (q % l + r) % l

-- the place there of the site r steps on from place j: in x inside its row, in y some rows on, in z the same
unfoldable pub place_on : ℕ → ℕ → ℕ → ℕ → ℕ → ℕ
place_on l q zero r j = j / (l / 2) * (l / 2) + (j % (l / 2) + (r + (q / l + q % l + j / (l / 2)) % 2) / 2) % (l / 2)
place_on l q (suc zero) r j = (j + r * (l / 2)) % half_plane l
place_on l q (suc (suc _)) r j = j
