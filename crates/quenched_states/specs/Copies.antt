-- Overlap fields of one replica at two times, and of the four copies that two states of equal couplings have.
use Rattle.std.specs.Prelude.{ℕ, ◌+◌, ◌-◌, ◌%◌, ◌==◌, nat_lt, if◌then◌else◌, List, [], ◌∷◌}
use Rattle.scalar_rule.specs.declared.plain_copy.PlainCopy.{PlainCopy}
use Rattle.scalar_rule.specs.declared.sample.PlainSlot.{PlainSlot}
use Rattle.measured_sums.specs.OverlapField.{Field, site_overlap}

-- copy 0 or 1 of a slot
abbrev pub copy_of : PlainSlot → ℕ → PlainCopy
copy_of slot a = if a == 0 then slot.first else slot.second

-- of copy a: its spins in the earlier state and in the later one
abbrev pub two_time_field : PlainSlot → PlainSlot → ℕ → Field
two_time_field earlier later a = site_overlap (copy_of earlier a).spins (copy_of later a).spins

-- ---- four copies

-- copies 0 and 1 are those of the first state's slot, 2 and 3 those of the second one's
abbrev pub copy_among : PlainSlot → PlainSlot → ℕ → PlainCopy
copy_among first second a = if nat_lt a 2 then copy_of first a else copy_of second (a - 2)

-- two of the four
pub record CopyPair : Type 0 where
  pub one : ℕ
  pub other : ℕ

abbrev pub pair_of : ℕ → ℕ → CopyPair
pair_of a b = record { one = a; other = b }

-- each two of them once
abbrev pub copy_pairs : List CopyPair
copy_pairs = pair_of 0 1 ∷ pair_of 0 2 ∷ pair_of 0 3 ∷ pair_of 1 2 ∷ pair_of 1 3 ∷ pair_of 2 3 ∷ []

-- their field
abbrev pub pair_field : PlainSlot → PlainSlot → CopyPair → Field
pair_field first second pair = site_overlap (copy_among first second pair.one).spins (copy_among first second pair.other).spins

-- the number that a copy has where the two states change places
abbrev pub turned : ℕ → ℕ
turned a = (a + 2) % 4
