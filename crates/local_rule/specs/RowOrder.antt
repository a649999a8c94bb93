-- Rows of thresholds in order, as those of a temperature are. Of such a row the bits of draws below its thresholds lie
-- within one another, and a choice between two of them is two operations.
use Rattle.std.specs.Prelude.{ℕ, Bool, ◌||◌, ◌&&◌, nat_le, if◌then◌else◌, List, slice_index}
use Rattle.threshold_table.specs.declared.rule_table.RuleKind.{RuleKind}
use Rattle.threshold_table.specs.declared.rule_table.RuleKind.TheVariants as kinds
use Rattle.threshold_table.specs.declared.rule_table.SlotRule.{SlotRule}

-- heat bath: no threshold is above that of one more aligned neighbour
abbrev pub is_rising : List ℕ → Bool
is_rising t =
    nat_le (slice_index t 0) (slice_index t 1) && nat_le (slice_index t 1) (slice_index t 2)
    && nat_le (slice_index t 2) (slice_index t 3) && nat_le (slice_index t 3) (slice_index t 4)
    && nat_le (slice_index t 4) (slice_index t 5) && nat_le (slice_index t 5) (slice_index t 6)

-- Metropolis: no threshold is above that of one satisfied bond less
abbrev pub is_falling : List ℕ → Bool
is_falling t = nat_le (slice_index t 1) (slice_index t 0) && nat_le (slice_index t 2) (slice_index t 1)

-- a row in the order of its kind
abbrev pub is_ordered : RuleKind → List ℕ → Bool
is_ordered kinds.Heat t = is_rising t
is_ordered kinds.Metropolis t = is_falling t

abbrev pub is_in_order : SlotRule → Bool
is_in_order rule = is_ordered rule.kind rule.row.values

-- a bit of the lower threshold, or of the higher where the mask is set
abbrev pub raised : Bool → Bool → Bool → Bool
raised mask inside outside = if mask then outside || inside else outside

-- of a count of four to six, by its bit of 1 and the bit of 2 turned over: a bit for six, or for one of fewer
abbrev pub fallen : Bool → Bool → Bool → Bool → Bool → Bool
fallen ones no_twos four five six = if no_twos then six || (if ones then five else five || four) else six
