-- The overlap field of two configurations, and its sums over the sites and over pairs of sites some steps apart along an axis.
use Rattle.std.specs.Prelude.{ℕ, ℤ, pos, neg_ℤ, ◌*ℤ◌, Bool, if◌then◌else◌, List}
use Rattle.spin_model.specs.Steps.{steps}
use Rattle.spin_model.specs.SignedSums.{sum_of}
use Rattle.spin_model.specs.Lattice.{volume, forward}
use Rattle.scalar_rule.specs.Neighbours.{spin, agree}

-- a number at each site
abbrev pub Field : Type 0
Field = ℕ → ℤ

-- q at site i: the product of both spins, +1 where they agree, else -1
abbrev pub site_overlap : List Bool → List Bool → Field
site_overlap first second i = if agree (spin first i) (spin second i) then pos 1 else neg_ℤ (pos 1)

-- Q: the sum of q over all sites
abbrev pub total_overlap : ℕ → Field → ℤ
total_overlap l q = sum_of q (volume l)

-- the site r steps on from site i in direction d, around the boundary
abbrev pub steps_ahead : ℕ → ℕ → ℕ → ℕ → ℕ
steps_ahead l i d r = steps (λ _ k. forward l k d) 0 r i

-- B: the sum over the three directions and all sites of q at a site times q at the site r steps on
abbrev pub distance_correlation : ℕ → Field → ℕ → ℤ
distance_correlation l q r = sum_of (λ d. sum_of (λ i. q i *ℤ q (steps_ahead l i d r)) (volume l)) 3

-- A: the sum of q at both ends over all bonds
abbrev pub link_overlap : ℕ → Field → ℤ
link_overlap l q = distance_correlation l q 1
