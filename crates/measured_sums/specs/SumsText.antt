-- The text of the sums of a run. Each line ends with one line feed; numbers are plain decimals.
use Rattle.std.specs.Prelude.{ℕ, ℤ, nat_lt, if◌then◌else◌, List, [], ◌++◌, codes, decimal, flat_map, map}
use Rattle.std.specs.Fmt.{signed_decimal}
use Rattle.spin_model.specs.Steps.{table}
use Rattle.scalar_rule.specs.Plan.{Plan}
use Rattle.scalar_rule.specs.declared.sample.Sample.{Sample}
use Rattle.measured_sums.specs.EpochBins.{most_bins}
use Rattle.measured_sums.specs.MeasuredSums.{Quantity, moments, classes, axis_distances, face_distances, epochs_in_bin, sum_from}

-- what the first line says of a run: its lattice, slots and samples, the rule's word, how often an epoch is measured, from which
-- epoch to which it goes, and the digest of its plans in hexadecimal
pub record Heading : Type 0 where
  pub size : ℕ
  pub slots : ℕ
  pub samples : ℕ
  pub rule : List ℕ
  pub every : ℕ
  pub from : ℕ
  pub to : ℕ
  pub digest : List ℕ

unfoldable pub heading_line : Heading → List ℕ
heading_line h =
    codes "measure 1 size=" ++ decimal h.size ++ codes " slots=" ++ decimal h.slots ++ codes " samples=" ++ decimal h.samples
    ++ codes " rule=" ++ h.rule ++ codes " every=" ++ decimal h.every ++ codes " from=" ++ decimal h.from ++ codes " to=" ++ decimal h.to
    ++ codes " digest=" ++ h.digest ++ codes "\n"

-- numbers of a sample, slot and bin, behind a word for their kind
unfoldable pub numbers_line : List ℕ → ℕ → ℕ → ℕ → List ℤ → List ℕ
numbers_line kind sample slot k numbers =
    kind ++ codes "," ++ decimal sample ++ codes "," ++ decimal slot ++ codes "," ++ decimal k
    ++ flat_map (λ number. codes "," ++ signed_decimal number) numbers ++ codes "\n"

-- the four lines of a bin
abbrev pub bin_lines : ℕ → ℕ → ℕ → ℕ → (Quantity → ℤ) → List ℕ
bin_lines l sample slot k number =
    numbers_line (codes "sum") sample slot k (map number moments)
    ++ numbers_line (codes "hist") sample slot k (map number classes)
    ++ numbers_line (codes "axis") sample slot k (map number (axis_distances l))
    ++ numbers_line (codes "face") sample slot k (map number (face_distances l))

-- those of the bins that have a measured epoch, where `sums b t k quantity` is the sum of sample b in slot t and bin k
abbrev pub slot_sums : Heading → (ℕ → ℕ → ℕ → Quantity → ℤ) → ℕ → ℕ → List ℕ
slot_sums h sums sample slot =
    flat_map (λ k. if nat_lt 0 (epochs_in_bin h.every k h.from h.to) then bin_lines h.size sample slot k (sums sample slot k) else []) (table (λ k. k) most_bins)

-- those of a sample's slots
abbrev pub sample_sums : Heading → (ℕ → ℕ → ℕ → Quantity → ℤ) → ℕ → List ℕ
sample_sums h sums sample = flat_map (slot_sums h sums sample) (table (λ t. t) h.slots)

-- the whole text, in order of sample, slot, bin
unfoldable pub sums_text : Heading → (ℕ → ℕ → ℕ → Quantity → ℤ) → List ℕ
sums_text h sums = heading_line h ++ flat_map (sample_sums h sums) (table (λ b. b) h.samples) ++ codes "end," ++ decimal h.to ++ codes "\n"

-- the sums of a run to epoch e whose sample b starts with `start b` under `plan b`
abbrev pub run_sums : (ℕ → Plan) → (ℕ → Sample) → ℕ → ℕ → ℕ → ℕ → ℕ → Quantity → ℤ
run_sums plan start every e b t k quantity = sum_from (plan b) (start b) every e t k quantity
