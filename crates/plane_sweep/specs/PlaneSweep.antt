-- The sweep of the sites of one colour in a plane, for 64 samples at once.
use Rattle.std.specs.Prelude.{◌≡◌, ◌≢◌, ℕ, ◌+◌, ◌*◌, ◌/◌, ◌%◌, ◌^◌, ◌<◌, ◌≤◌, ◌==◌, if◌then◌else◌, bit_xor, List, [], ◌∷◌, take, drop, length, slice_index, slice_index_or, All}
use Rattle.coupling_set.specs.CouplingWords.{CouplingsView}
use Rattle.local_rule.specs.SiteBits.{equal_count, set_count}
use Rattle.spin_model.specs.Lattice.{half_plane, next, previous, IsLawfulSize}
use Rattle.spin_model.specs.Limits.{greatest_half_plane}
use Rattle.spin_model.specs.SiteRule.{Rule, new_spin}
use Rattle.spin_model.specs.Stream.{advanced, draws}
use Rattle.spin_model.specs.Words.{is_set}
use Rattle.threshold_table.specs.Tables.{rule_of}
use Rattle.plane_sweep.specs.Neighbourhood.{pulls}
use Rattle.plane_sweep.specs.Packed.{FitsPlane}
use Rattle.plane_sweep.specs.Storing.{Changed}
use Rattle.plane_sweep.specs.declared.replica.Plane.{Plane}
use Rattle.plane_sweep.specs.declared.rows.Row.{Row}
use Rattle.threshold_table.specs.declared.rule_table.SlotRule.{SlotRule}
use Rattle.plane_sweep.specs.declared.surroundings.Surroundings.{Surroundings}

-- a word after its site's update: in each sample the spin rule on the sample's six bits and its spin
pub record SweepsWord (rule : Rule) (thresholds six : List ℕ) (random old new : ℕ) : Type 0 where
  pub in_range : new < 2 ^ 64
  pub bits : (b : ℕ) → b < 64 → is_set new b ≡ new_spin rule thresholds (set_count six b) (equal_count six old b) random (is_set old b)

-- the words of plane z of colour c after the first n of its sites are updated, each by its draw
abbrev pub SweepsWords : CouplingsView → List Plane → SlotRule → List ℕ → ℕ → ℕ → ℕ → List ℕ → List ℕ → Type 0
SweepsWords couplings other rule draws c z n old new =
    Changed (λ j. SweepsWord (rule_of rule.kind) rule.row.values (pulls couplings other c z (j / (couplings.size / 2)) (j % (couplings.size / 2))) (slice_index draws j)) n old new

-- row y of plane z of colour c, and the rows beside it
pub record IsRow (l c z y : ℕ) (row : Row) : Type 0 where
  pub half : row.half ≡ l / 2
  pub here : row.here ≡ y * (l / 2)
  pub up : row.up ≡ next l y * (l / 2)
  pub down : row.down ≡ previous l y * (l / 2)
  pub even : row.even ≡ ((c + y + z) % 2 == 0)

-- the borrowed words have as many items as those of the plane itself, and the three rows lie within them
pub record HasRows (n : ℕ) (s : Surroundings) (row : Row) : Type 0 where
  pub few : n ≤ greatest_half_plane
  pub above : length s.above.now ≡ n
  pub below : length s.below.now ≡ n
  pub ahead_x : length s.ahead_x.now ≡ n
  pub ahead_y : length s.ahead_y.now ≡ n
  pub ahead_z : length s.ahead_z.now ≡ n
  pub here_x : length s.here_x.now ≡ n
  pub here_y : length s.here_y.now ≡ n
  pub below_z : length s.below_z.now ≡ n
  pub middle : row.here + row.half ≤ n
  pub up : row.up + row.half ≤ n
  pub down : row.down + row.half ≤ n

-- the column of the neighbour ahead in x, and of the one behind
abbrev pub right_column : Row → ℕ → ℕ
right_column row k = if row.even then k else next row.half k

abbrev pub left_column : Row → ℕ → ℕ
left_column row k = if row.even then previous row.half k else k

-- J times the neighbours' spins at column k, from the borrowed words
unfoldable pub pulls_lent : Surroundings → Row → ℕ → List ℕ
pulls_lent s row k =
    bit_xor (slice_index s.here.now (row.here + right_column row k)) (slice_index s.ahead_x.now here)
    ∷ bit_xor (slice_index s.here.now (row.up + k)) (slice_index s.ahead_y.now here)
    ∷ bit_xor (slice_index s.above.now here) (slice_index s.ahead_z.now here)
    ∷ bit_xor (slice_index s.here.now left) (slice_index s.here_x.now left)
    ∷ bit_xor (slice_index s.here.now (row.down + k)) (slice_index s.here_y.now (row.down + k))
    ∷ bit_xor (slice_index s.below.now here) (slice_index s.below_z.now here)
    ∷ []
  where
    here : ℕ
    here = row.here + k

    left : ℕ
    left = row.here + left_column row k

-- a plane's words after n of them from a place on are updated, each by its draw; those of lane i are six i
pub record SweepsSites (n : ℕ) (six : ℕ → List ℕ) (rule : SlotRule) (draws : List ℕ) (at : ℕ) (old new : List ℕ) : Type 0 where
  pub sized : length new ≡ length old
  pub done : (i : ℕ) → i < n → SweepsWord (rule_of rule.kind) rule.row.values (six i) (slice_index draws (at + i)) (slice_index old (at + i)) (slice_index new (at + i))
  pub before : (j : ℕ) → j < at → slice_index new j ≡ slice_index old j
  pub after : (j : ℕ) → at + n ≤ j → slice_index new j ≡ slice_index old j

-- a plane's words after the columns from m to n of a row are updated, each by its draw
pub record SweepsRow (s : Surroundings) (rule : SlotRule) (draws : List ℕ) (row : Row) (m n : ℕ) (old new : List ℕ) : Type 0 where
  pub sized : length new ≡ length old
  pub done : (k : ℕ) → m ≤ k → k < n → SweepsWord (rule_of rule.kind) rule.row.values (pulls_lent s row k) (slice_index draws (row.here + k)) (slice_index old (row.here + k)) (slice_index new (row.here + k))
  pub before : (j : ℕ) → j < row.here + m → slice_index new j ≡ slice_index old j
  pub after : (j : ℕ) → row.here + n ≤ j → slice_index new j ≡ slice_index old j

-- two rows of a plane that are one run of words
pub record IsBehind (row behind : Row) : Type 0 where
  pub half : behind.half ≡ row.half
  pub here : behind.here ≡ row.here + row.half
  pub two : 2 ≤ row.half

-- a plane's words after the columns of a row from m on, and then the first n of the row behind it, are updated
pub record SweepsAcross (s : Surroundings) (rule : SlotRule) (draws : List ℕ) (row behind : Row) (m n : ℕ) (old new : List ℕ) : Type 0 where
  pub between : List ℕ
  pub first : SweepsRow s rule draws row m row.half old between
  pub second : SweepsRow s rule draws behind 0 n between new

-- plane z of colour c may be swept, by these planes of the other colour
pub record CanSweep (couplings : CouplingsView) (other : List Plane) (c z : ℕ) (plane : Plane) : Type 0 where
  pub lawful : IsLawfulSize couplings.size
  pub fits : FitsPlane couplings.size plane
  pub others : length other ≡ couplings.size
  pub others_fit : All (FitsPlane couplings.size) other
  pub is_colour : c < 2
  pub known : z < couplings.size

-- a plane after its half sweep: its words from the other colour's planes, its generator a draw for each site further
pub record SweepsPlane (couplings : CouplingsView) (other : List Plane) (rule : SlotRule) (c z : ℕ) (old new : Plane) : Type 0 where
  pub fits : FitsPlane couplings.size new
  pub words : SweepsWords couplings other rule (draws old.wheel (half_plane couplings.size)) c z (half_plane couplings.size) old.words new.words
  pub generator : new.wheel ≡ advanced old.wheel (half_plane couplings.size)

-- the planes of a colour after plane z of them is swept
pub record SweepsAt (couplings : CouplingsView) (other : List Plane) (rule : SlotRule) (c z : ℕ) (old new : List Plane) : Type 0 where
  pub sized : length new ≡ length old
  pub done : (d : Plane) → SweepsPlane couplings other rule c z (slice_index_or old z d) (slice_index_or new z d)
  pub kept : (k : ℕ) (d : Plane) → k ≢ z → slice_index_or new k d ≡ slice_index_or old k d
  pub fit : All (FitsPlane couplings.size) new

-- all planes after a sweep: those of colour 0 by the old ones of colour 1, and those of colour 1 by the new ones of colour 0
pub record SweepsColours (couplings : CouplingsView) (rule : SlotRule) (old new : List Plane) : Type 0 where
  pub sized : length new ≡ length old
  pub first : Changed (SweepsPlane couplings (drop couplings.size old) rule 0) couplings.size (take couplings.size old) (take couplings.size new)
  pub second : Changed (SweepsPlane couplings (take couplings.size new) rule 1) couplings.size (drop couplings.size old) (drop couplings.size new)
