-- Counts over the lines of sites along an axis, and what rows of words in a plane of constant z show.
use Rattle.std.specs.Prelude.{ℕ, ◌≡◌, ◌+◌, ◌-◌, ◌%◌, ◌<◌, Bool, List, [], slice_index, slice_index_or}
use Rattle.spin_model.specs.Steps.{count_below}
use Rattle.spin_model.specs.Lattice.{site_at}
use Rattle.multispin_word.specs.Planes.{is_set}
use Rattle.scalar_rule.specs.Neighbours.{spin, agree}
use Rattle.scalar_rule.specs.Positions.{sum_below}
use Rattle.measured_sums.specs.PlaneFamilies.{Family, AlongX, AlongY, AlongZ, SumXY, DifferenceXY, SumXZ, DifferenceXZ, SumYZ, DifferenceYZ}
use Rattle.plane_sweep.specs.Packed.{spins_of}
use Rattle.plane_sweep.specs.declared.replica.Plane.{Plane}
use Rattle.plane_sums.specs.declared.totals.Turn.{Turn}
use Rattle.plane_sums.specs.declared.totals.Turn.TheVariants as turns

-- whether the spins of sample b agree at a site in the planes of two replicas
abbrev pub agrees : ℕ → List Plane → List Plane → ℕ → ℕ → Bool
agrees l first second b i = agree (spin (spins_of l b first) i) (spin (spins_of l b second) i)

-- at how many sites of a line along x, y or z a test holds, by the line's other coordinates
abbrev pub along_x : ℕ → (ℕ → Bool) → ℕ → ℕ → ℕ
along_x l test z y = count_below (λ x. test (site_at l x y z)) l

abbrev pub along_y : ℕ → (ℕ → Bool) → ℕ → ℕ → ℕ
along_y l test z x = count_below (λ y. test (site_at l x y z)) l

abbrev pub along_z : ℕ → (ℕ → Bool) → ℕ → ℕ → ℕ
along_z l test y x = count_below (λ z. test (site_at l x y z)) l

-- the place at which plane 0 meets line o, up to whole turns
abbrev pub begins_at : Turn → ℕ → ℕ → ℕ
begins_at turns.Straight l o = 0
begins_at turns.Sum l o = l - o
begins_at turns.Difference l o = o

-- the sum over all lines of their counts where plane m meets them
abbrev pub across : Turn → ℕ → (ℕ → ℕ → ℕ) → ℕ → ℕ
across turn l line m = sum_below (λ o. line o ((begins_at turn l o + m) % l)) l

-- at how many sites of plane m of a family a test holds, by the lines
abbrev pub family_count : ℕ → (ℕ → Bool) → Family → ℕ → ℕ
family_count l test AlongX m = across turns.Straight l (along_y l test) m
family_count l test AlongY m = across turns.Straight l (along_x l test) m
family_count l test AlongZ m = sum_below (along_y l test m) l
family_count l test SumXY m = across turns.Sum l (along_z l test) m
family_count l test DifferenceXY m = across turns.Difference l (along_z l test) m
family_count l test SumXZ m = across turns.Sum l (along_y l test) m
family_count l test DifferenceXZ m = across turns.Difference l (along_y l test) m
family_count l test SumYZ m = across turns.Sum l (along_x l test) m
family_count l test DifferenceYZ m = across turns.Difference l (along_x l test) m

-- word k of row j
abbrev pub word_in : List (List ℕ) → ℕ → ℕ → ℕ
word_in rows j k = slice_index (slice_index_or rows j []) k

-- the first words of the first rows show a test of each sample, row and place
abbrev pub Show : ℕ → (ℕ → ℕ → ℕ → Bool) → List (List ℕ) → Type 0
Show l test rows = (j k b : ℕ) → j < l → k < l → b < 64 → is_set (word_in rows j k) b ≡ test b j k
