-- Values of fields on the lattice of side 4 that were worked out by hand, and of bins and classes.
use Rattle.std.proofs.Common.{◌≡◌, ℕ, ◌+◌, ◌%◌, Bool, ◌==◌, if◌then◌else◌, List, [], ◌∷◌, ℤ, pos, neg_ℤ, nat_lt, map, refl}
use Rattle.spin_model.specs.Steps.{count_below, steps}
use Rattle.spin_model.specs.SignedSums.{sum_of}
use Rattle.spin_model.specs.Lattice.{forward, colour, x_of, y_of}
use Rattle.measured_sums.specs.OverlapField.{Field, link_overlap}
use Rattle.measured_sums.specs.PlaneCorrelations.{axis_correlation, face_correlation, over_families}
use Rattle.measured_sums.specs.EpochBins.{bin_of, class_of}
use Rattle.measured_sums.specs.MeasuredSums.{Observed, Quantity, Number, Energies, EnergySquares, EnergyProducts, Overlaps, Magnitudes, OverlapSquares, OverlapFourths, EnergyOverlapSquares, EnergyOverlapFourths, InClass, term_of}

-- the distances from 0 to half the side
abbrev distances : List ℕ
distances = 0 ∷ 1 ∷ 2 ∷ []

-- -1 where the test holds, else +1
abbrev down_where : Bool → ℤ
down_where test = if test then neg_ℤ (pos 1) else pos 1

-- q = +1 everywhere
abbrev equal : Field
equal i = pos 1

-- -1 in one plane across the x axis; at site 0 alone; where x is odd; where x + y is 0 or 1 around the boundary; where x + y + z is odd
abbrev one_plane : Field
one_plane i = down_where (x_of 4 i == 0)

abbrev one_site : Field
one_site i = down_where (i == 0)

abbrev layers : Field
layers i = down_where (x_of 4 i % 2 == 1)

abbrev columns : Field
columns i = down_where ((x_of 4 i + y_of 4 i) % 2 == 1)

abbrev diagonal : Field
diagonal i = down_where (nat_lt ((x_of 4 i + y_of 4 i) % 4) 2)

abbrev board : Field
board i = down_where (colour 4 i == 1)

pub equal_along_axes : map (axis_correlation 4 equal) distances ≡ pos 3072 ∷ pos 3072 ∷ pos 3072 ∷ []
unfolding sum_of over_families
equal_along_axes = refl

pub equal_along_diagonals : map (face_correlation 4 equal) distances ≡ pos 6144 ∷ pos 6144 ∷ pos 6144 ∷ []
unfolding sum_of over_families
equal_along_diagonals = refl

pub equal_links : link_overlap 4 equal ≡ pos 192
unfolding sum_of steps forward
equal_links = refl

pub one_plane_along_axes : map (axis_correlation 4 one_plane) distances ≡ pos 1536 ∷ pos 512 ∷ pos 512 ∷ []
unfolding sum_of over_families
one_plane_along_axes = refl

pub one_plane_along_diagonals : map (face_correlation 4 one_plane) distances ≡ pos 1536 ∷ pos 1536 ∷ pos 1536 ∷ []
unfolding sum_of over_families
one_plane_along_diagonals = refl

pub one_plane_links : link_overlap 4 one_plane ≡ pos 128
unfolding sum_of steps forward
one_plane_links = refl

pub one_site_along_axes : map (axis_correlation 4 one_site) distances ≡ pos 2892 ∷ pos 2880 ∷ pos 2880 ∷ []
unfolding sum_of over_families
one_site_along_axes = refl

pub one_site_along_diagonals : map (face_correlation 4 one_site) distances ≡ pos 5784 ∷ pos 5760 ∷ pos 5760 ∷ []
unfolding sum_of over_families
one_site_along_diagonals = refl

pub one_site_links : link_overlap 4 one_site ≡ pos 180
unfolding sum_of steps forward
one_site_links = refl

pub layers_along_axes : map (axis_correlation 4 layers) distances ≡ pos 1024 ∷ neg_ℤ (pos 1024) ∷ pos 1024 ∷ []
unfolding sum_of over_families
layers_along_axes = refl

pub layers_along_diagonals : map (face_correlation 4 layers) distances ≡ pos 0 ∷ pos 0 ∷ pos 0 ∷ []
unfolding sum_of over_families
layers_along_diagonals = refl

pub layers_links : link_overlap 4 layers ≡ pos 64
unfolding sum_of steps forward
layers_links = refl

pub columns_along_axes : map (axis_correlation 4 columns) distances ≡ pos 0 ∷ pos 0 ∷ pos 0 ∷ []
unfolding sum_of over_families
columns_along_axes = refl

pub columns_along_diagonals : map (face_correlation 4 columns) distances ≡ pos 2048 ∷ neg_ℤ (pos 2048) ∷ pos 2048 ∷ []
unfolding sum_of over_families
columns_along_diagonals = refl

pub columns_links : link_overlap 4 columns ≡ neg_ℤ (pos 64)
unfolding sum_of steps forward
columns_links = refl

pub diagonal_along_axes : map (axis_correlation 4 diagonal) distances ≡ pos 0 ∷ pos 0 ∷ pos 0 ∷ []
unfolding sum_of over_families
diagonal_along_axes = refl

pub diagonal_along_diagonals : map (face_correlation 4 diagonal) distances ≡ pos 1024 ∷ pos 0 ∷ neg_ℤ (pos 1024) ∷ []
unfolding sum_of over_families
diagonal_along_diagonals = refl

pub diagonal_links : link_overlap 4 diagonal ≡ pos 64
unfolding sum_of steps forward
diagonal_links = refl

pub board_along_axes : map (axis_correlation 4 board) distances ≡ pos 0 ∷ pos 0 ∷ pos 0 ∷ []
unfolding sum_of over_families
board_along_axes = refl

pub board_along_diagonals : map (face_correlation 4 board) distances ≡ pos 0 ∷ pos 0 ∷ pos 0 ∷ []
unfolding sum_of over_families
board_along_diagonals = refl

pub board_links : link_overlap 4 board ≡ neg_ℤ (pos 192)
unfolding sum_of steps forward
board_links = refl

pub known_bins : map bin_of (0 ∷ 1 ∷ 2 ∷ 3 ∷ 4 ∷ 7 ∷ 8 ∷ 1023 ∷ 1024 ∷ 999999999 ∷ []) ≡ 0 ∷ 1 ∷ 2 ∷ 2 ∷ 3 ∷ 3 ∷ 4 ∷ 10 ∷ 11 ∷ 30 ∷ []
unfolding count_below
known_bins = refl

pub classes_at_side_4 : map (class_of 4) (pos 0 ∷ pos 1 ∷ pos 2 ∷ neg_ℤ (pos 2) ∷ pos 61 ∷ pos 62 ∷ pos 63 ∷ neg_ℤ (pos 64) ∷ []) ≡ 0 ∷ 0 ∷ 1 ∷ 1 ∷ 30 ∷ 31 ∷ 31 ∷ 31 ∷ []
classes_at_side_4 = refl

pub classes_at_side_6 : map (class_of 6) (pos 6 ∷ pos 7 ∷ pos 13 ∷ pos 14 ∷ neg_ℤ (pos 216) ∷ []) ≡ 0 ∷ 1 ∷ 1 ∷ 2 ∷ 31 ∷ []
classes_at_side_6 = refl

-- a sample with the energies -54 and -66 and the overlap -10
abbrev seen : Observed
seen = record { first_energy = neg_ℤ (pos 54); second_energy = neg_ℤ (pos 66); field = λ i. down_where (nat_lt i 37) }

abbrev without_space : List Quantity
without_space =
    Number ∷ Energies ∷ EnergySquares ∷ EnergyProducts ∷ Overlaps ∷ Magnitudes ∷ OverlapSquares ∷ OverlapFourths ∷ EnergyOverlapSquares
    ∷ EnergyOverlapFourths ∷ InClass 4 ∷ InClass 5 ∷ InClass 6 ∷ []

pub known_moments : map (term_of 4 seen) without_space
    ≡ pos 1 ∷ neg_ℤ (pos 120) ∷ pos 7272 ∷ pos 3564 ∷ neg_ℤ (pos 10) ∷ pos 10 ∷ pos 100 ∷ pos 10000 ∷ neg_ℤ (pos 12000) ∷ neg_ℤ (pos 1200000)
    ∷ pos 0 ∷ pos 1 ∷ pos 0 ∷ []
unfolding sum_of
known_moments = refl
