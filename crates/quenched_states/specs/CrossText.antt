-- The text of four copies. Each line ends with one line feed; numbers are plain decimals.
use Rattle.std.specs.Prelude.{ℕ, ◌+◌, ◌/◌, ℤ, List, [], ◌∷◌, ◌++◌, codes, decimal, flat_map}
use Rattle.std.specs.Fmt.{signed_decimal}
use Rattle.spin_model.specs.Steps.{table}
use Rattle.scalar_rule.specs.Epoch.{slot_at}
use Rattle.scalar_rule.specs.declared.sample.Sample.{Sample}
use Rattle.measured_sums.specs.OverlapField.{Field, total_overlap, link_overlap}
use Rattle.measured_sums.specs.PlaneCorrelations.{axis_correlation, face_correlation}
use Rattle.quenched_states.specs.Copies.{CopyPair, copy_pairs, pair_field}

-- what the first line says: the lattice, slots and samples, the rule's word, and the seeds and epochs of the two states
pub record CrossHeading : Type 0 where
  pub size : ℕ
  pub slots : ℕ
  pub samples : ℕ
  pub rule : List ℕ
  pub first_seed : ℕ
  pub second_seed : ℕ
  pub first_epoch : ℕ
  pub second_epoch : ℕ

unfoldable pub cross_heading_line : CrossHeading → List ℕ
cross_heading_line h =
    codes "cross 1 size=" ++ decimal h.size ++ codes " slots=" ++ decimal h.slots ++ codes " samples=" ++ decimal h.samples
    ++ codes " rule=" ++ h.rule ++ codes " seeds=" ++ decimal h.first_seed ++ codes "," ++ decimal h.second_seed
    ++ codes " epochs=" ++ decimal h.first_epoch ++ codes "," ++ decimal h.second_epoch ++ codes "\n"

-- numbers of two copies of a slot of a sample, behind a word for their kind
unfoldable pub copies_line : List ℕ → ℕ → ℕ → CopyPair → List ℤ → List ℕ
copies_line kind sample slot pair numbers =
    kind ++ codes "," ++ decimal sample ++ codes "," ++ decimal slot ++ codes "," ++ decimal pair.one ++ codes "," ++ decimal pair.other
    ++ flat_map (λ number. codes "," ++ signed_decimal number) numbers ++ codes "\n"

-- Q and A of their field, D and F at the distances from 0 to half the side
abbrev pub pair_lines : ℕ → ℕ → ℕ → CopyPair → Field → List ℕ
pair_lines l sample slot pair field =
    copies_line (codes "pair") sample slot pair (total_overlap l field ∷ link_overlap l field ∷ [])
    ++ copies_line (codes "axis") sample slot pair (table (axis_correlation l field) (l / 2 + 1))
    ++ copies_line (codes "face") sample slot pair (table (face_correlation l field) (l / 2 + 1))

-- those of each two copies of a slot, and of a sample's slots
abbrev pub copies_lines : CrossHeading → (ℕ → ℕ → CopyPair → Field) → ℕ → ℕ → List ℕ
copies_lines h fields b t = flat_map (λ pair. pair_lines h.size b t pair (fields b t pair)) copy_pairs

abbrev pub slots_lines : CrossHeading → (ℕ → ℕ → CopyPair → Field) → ℕ → List ℕ
slots_lines h fields b = flat_map (copies_lines h fields b) (table (λ t. t) h.slots)

-- the whole text, where `fields b t pair` is the field of two copies of slot t of sample b
unfoldable pub cross_text : CrossHeading → (ℕ → ℕ → CopyPair → Field) → List ℕ
cross_text h fields = cross_heading_line h ++ flat_map (slots_lines h fields) (table (λ b. b) h.samples) ++ codes "end\n"

-- of the states `first b` and `second b` of sample b
abbrev pub copies_fields : (ℕ → Sample) → (ℕ → Sample) → ℕ → ℕ → CopyPair → Field
copies_fields first second b t pair = pair_field (slot_at (first b).slots t) (slot_at (second b).slots t) pair
