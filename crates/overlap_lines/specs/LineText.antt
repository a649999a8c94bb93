-- The text of the link overlaps and correlation lines of a packed state. Each line ends with one line feed; numbers are plain
-- decimals.
use Rattle.std.specs.Prelude.{ℕ, ℤ, ◌+◌, ◌/◌, List, ◌++◌, codes, decimal, flat_map}
use Rattle.std.specs.Fmt.{signed_decimal}
use Rattle.spin_model.specs.Steps.{table}
use Rattle.scalar_rule.specs.Plan.{Plan, slots_of}
use Rattle.scalar_rule.specs.Epoch.{slot_at}
use Rattle.scalar_rule.specs.declared.sample.PlainSlot.{PlainSlot}
use Rattle.scalar_rule.specs.declared.sample.Sample.{Sample}
use Rattle.overlap_lines.specs.Overlaps.{link_sum, line_sum}

-- the sizes, the number of samples printed, and how many epochs the state has done
unfoldable pub header_line : Plan → ℕ → ℕ → List ℕ
header_line plan samples epoch =
    codes "lines 1 size=" ++ decimal plan.size ++ codes " slots=" ++ decimal (slots_of plan) ++ codes " samples=" ++ decimal samples
    ++ codes " epoch=" ++ decimal epoch ++ codes "\n"

-- A of a slot of a sample
unfoldable pub link_line : ℕ → ℕ → ℤ → List ℕ
link_line sample slot sum = codes "link," ++ decimal sample ++ codes "," ++ decimal slot ++ codes "," ++ signed_decimal sum ++ codes "\n"

-- B in direction d over r steps
unfoldable pub line_line : ℕ → ℕ → ℕ → ℕ → ℤ → List ℕ
line_line sample slot d r sum =
    codes "line," ++ decimal sample ++ codes "," ++ decimal slot ++ codes "," ++ decimal d ++ codes "," ++ decimal r ++ codes ","
    ++ signed_decimal sum ++ codes "\n"

-- all B in direction d, from one step to half the side
abbrev pub direction_lines : ℕ → ℕ → ℕ → PlainSlot → ℕ → List ℕ
direction_lines l sample t slot d =
    flat_map (λ k. line_line sample t d (k + 1) (line_sum l slot.first.spins slot.second.spins d (k + 1))) (table (λ k. k) (l / 2))

-- A of a slot and then its B, in order of direction and distance
abbrev pub slot_lines : ℕ → ℕ → ℕ → PlainSlot → List ℕ
slot_lines l sample t slot =
    link_line sample t (link_sum l slot.first.spins slot.second.spins) ++ flat_map (direction_lines l sample t slot) (table (λ d. d) 3)

-- those of the slots of a sample
abbrev pub sample_lines : Plan → ℕ → List PlainSlot → List ℕ
sample_lines plan sample slots = flat_map (λ t. slot_lines plan.size sample t (slot_at slots t)) (table (λ t. t) (slots_of plan))

-- those of the first samples, where `contents b` are the slots of sample b
abbrev pub all_lines : Plan → ℕ → (ℕ → List PlainSlot) → List ℕ
all_lines plan samples contents = flat_map (λ b. sample_lines plan b (contents b)) (table (λ b. b) samples)

-- the whole text of the states `states b` of the samples, which have done so many epochs
unfoldable pub lines_text : Plan → ℕ → ℕ → (ℕ → Sample) → List ℕ
lines_text plan samples epoch states =
    header_line plan samples epoch ++ all_lines plan samples (λ b. (states b).slots) ++ codes "end\n"
