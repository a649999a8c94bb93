-- The text of a quench. Each line ends with one line feed; numbers are plain decimals.
use Rattle.std.specs.Prelude.{ℕ, ◌+◌, ◌-◌, ◌/◌, List, ◌++◌, codes, decimal, flat_map, length}
use Rattle.std.specs.Fmt.{signed_decimal}
use Rattle.spin_model.specs.Steps.{table}
use Rattle.scalar_rule.specs.Plan.{Plan}
use Rattle.scalar_rule.specs.Epoch.{slot_at}
use Rattle.scalar_rule.specs.declared.sample.Sample.{Sample}
use Rattle.measured_sums.specs.OverlapField.{Field, total_overlap, link_overlap, distance_correlation}
use Rattle.measured_sums.specs.MeasuredSums.{Observed, observed_in}
use Rattle.quenched_states.specs.KeptStates.{time_at}
use Rattle.quenched_states.specs.Copies.{two_time_field}

-- what the first line says: the lattice, slots and samples, the rule's word, the sweeps of an epoch, how many times are listed, and
-- how many states were held from the beginning
pub record QuenchHeading : Type 0 where
  pub size : ℕ
  pub slots : ℕ
  pub samples : ℕ
  pub rule : List ℕ
  pub sweeps : ℕ
  pub times : List ℕ
  pub held : ℕ

unfoldable pub quench_heading_line : QuenchHeading → List ℕ
quench_heading_line h =
    codes "quench 1 size=" ++ decimal h.size ++ codes " slots=" ++ decimal h.slots ++ codes " samples=" ++ decimal h.samples
    ++ codes " rule=" ++ h.rule ++ codes " sweeps=" ++ decimal h.sweeps ++ codes " times=" ++ decimal (length h.times)
    ++ codes " held=" ++ decimal h.held ++ codes "\n"

-- of a state both energies, Q, and B at the distances from 1 to half the side
unfoldable pub state_line : ℕ → ℕ → ℕ → ℕ → Observed → List ℕ
state_line l time sample slot seen =
    codes "state," ++ decimal time ++ codes "," ++ decimal sample ++ codes "," ++ decimal slot ++ codes ","
    ++ signed_decimal seen.first_energy ++ codes "," ++ signed_decimal seen.second_energy ++ codes "," ++ signed_decimal (total_overlap l seen.field)
    ++ flat_map (λ k. codes "," ++ signed_decimal (distance_correlation l seen.field (k + 1))) (table (λ k. k) (l / 2)) ++ codes "\n"

-- of two states Q and A of each copy's field
unfoldable pub pair_line : ℕ → ℕ → ℕ → ℕ → ℕ → (ℕ → Field) → List ℕ
pair_line l waited time sample slot field =
    codes "pair," ++ decimal waited ++ codes "," ++ decimal time ++ codes "," ++ decimal sample ++ codes "," ++ decimal slot
    ++ codes "," ++ signed_decimal (total_overlap l (field 0)) ++ codes "," ++ signed_decimal (total_overlap l (field 1))
    ++ codes "," ++ signed_decimal (link_overlap l (field 0)) ++ codes "," ++ signed_decimal (link_overlap l (field 1)) ++ codes "\n"

-- state j of a slot, and then it with each state before
abbrev pub slot_lines : QuenchHeading → (ℕ → ℕ → ℕ → Observed) → (ℕ → ℕ → ℕ → ℕ → ℕ → Field) → ℕ → ℕ → ℕ → List ℕ
slot_lines h seen fields j b t =
    state_line h.size (time_at h.times j) b t (seen j b t)
    ++ flat_map (λ i. pair_line h.size (time_at h.times i) (time_at h.times j) b t (fields i j b t)) (table (λ i. i) j)

-- those of a sample's slots, and of the samples
abbrev pub sample_lines : QuenchHeading → (ℕ → ℕ → ℕ → Observed) → (ℕ → ℕ → ℕ → ℕ → ℕ → Field) → ℕ → ℕ → List ℕ
sample_lines h seen fields j b = flat_map (slot_lines h seen fields j b) (table (λ t. t) h.slots)

abbrev pub time_lines : QuenchHeading → (ℕ → ℕ → ℕ → Observed) → (ℕ → ℕ → ℕ → ℕ → ℕ → Field) → ℕ → List ℕ
time_lines h seen fields j = flat_map (sample_lines h seen fields j) (table (λ b. b) h.samples)

-- those of the states from one on and below another
abbrev pub lines_between : QuenchHeading → (ℕ → ℕ → ℕ → Observed) → (ℕ → ℕ → ℕ → ℕ → ℕ → Field) → ℕ → ℕ → List ℕ
lines_between h seen fields first end = flat_map (time_lines h seen fields) (table (λ k. first + k) (end - first))

-- the whole text, of the states behind those that are held: `seen j b t` is what is seen of state j in sample b and slot t, and
-- `fields i j b t a` the field of copy a in the states i and j
unfoldable pub quench_text : QuenchHeading → (ℕ → ℕ → ℕ → Observed) → (ℕ → ℕ → ℕ → ℕ → ℕ → Field) → List ℕ
quench_text h seen fields = quench_heading_line h ++ lines_between h seen fields h.held (length h.times) ++ codes "end\n"

-- of a quench whose sample b has the states `kept b j` under `plan b`
abbrev pub state_seen : (ℕ → Plan) → (ℕ → ℕ → Sample) → ℕ → ℕ → ℕ → Observed
state_seen plan kept j b t = observed_in (plan b) (kept b j).bit (slot_at (kept b j).slots t)

abbrev pub state_fields : (ℕ → ℕ → Sample) → ℕ → ℕ → ℕ → ℕ → ℕ → Field
state_fields kept i j b t a = two_time_field (slot_at (kept b i).slots t) (slot_at (kept b j).slots t) a
