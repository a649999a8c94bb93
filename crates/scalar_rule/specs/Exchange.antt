-- The replica exchange of a pair of neighbouring temperature slots (Hukushima and Nemoto, J. Phys. Soc. Jpn. 65, 1604
-- (1996)), with whole-number thresholds. The two real replicas of the slots exchange independently.
use Rattle.std.specs.Prelude.{ℕ, ◌-◌, ◌/◌, Bool, ◌||◌, nat_le, nat_lt, if◌then◌else◌, List}
use Rattle.coupling_set.specs.CouplingWords.{bonds_of}
use Rattle.threshold_table.specs.Tables.{swap_threshold}
use Rattle.spin_model.specs.Stream.{draw, advanced}
use Rattle.scalar_rule.specs.Plan.{Plan}
use Rattle.scalar_rule.specs.Sums.{unsatisfied}
use Rattle.scalar_rule.specs.declared.plain_copy.PlainCopy.{PlainCopy}
use Rattle.scalar_rule.specs.declared.sample.PlainSlot.{PlainSlot}
use Rattle.scalar_rule.specs.declared.sample.PlainPair.{PlainPair}

-- the colder slot has as many unsatisfied bonds as the hotter or more: always; else, with the gap between them, where the
-- draw is below the pair's entry (gap - 1) div 2, which past the last entry is 0
abbrev pub is_swapped : List (List ℕ) → ℕ → ℕ → ℕ → ℕ → Bool
is_swapped table pair draw cold hot = nat_le hot cold || nat_lt draw (swap_threshold table pair ((hot - cold - 1) / 2))

-- the swap of sample b in pair k and one replica, by draw b of the pair's generator for that replica, whose words are given
abbrev pub decision : Plan → ℕ → ℕ → List ℕ → PlainCopy → PlainCopy → Bool
decision plan b k words cold hot =
    is_swapped plan.swaps k (draw words b)
    (unsatisfied plan.size (bonds_of plan.couplings b) cold.spins)
    (unsatisfied plan.size (bonds_of plan.couplings b) hot.spins)

-- a swap moves the spins and the label; the generators stay with their slots
abbrev pub traded : Bool → PlainCopy → PlainCopy → PlainCopy
traded swap own other =
    if swap then record { spins = other.spins; wheels = own.wheels; replica = other.replica } else own

-- the colder slot of pair k after its exchange
unfoldable pub cold_side : Plan → ℕ → ℕ → PlainPair → PlainSlot → PlainSlot → PlainSlot
cold_side plan b k pair cold hot = record {
  first = traded (decision plan b k pair.first cold.first hot.first) cold.first hot.first;
  second = traded (decision plan b k pair.second cold.second hot.second) cold.second hot.second;
}

-- the hotter slot of pair k after its exchange
unfoldable pub hot_side : Plan → ℕ → ℕ → PlainPair → PlainSlot → PlainSlot → PlainSlot
hot_side plan b k pair cold hot = record {
  first = traded (decision plan b k pair.first cold.first hot.first) hot.first cold.first;
  second = traded (decision plan b k pair.second cold.second hot.second) hot.second cold.second;
}

-- the pair's generators have given 64 numbers each, one for each sample of the bank, used or not
abbrev pub drawn_pair : PlainPair → PlainPair
drawn_pair pair = record { first = advanced pair.first 64; second = advanced pair.second 64 }
