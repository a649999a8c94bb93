-- The lines of a report, each ended by one line feed. Numbers are plain decimals.
use Rattle.std.specs.Prelude.{ℕ, ℤ, List, Bool, ◌++◌, codes, decimal}
use Rattle.std.specs.Fmt.{signed_decimal}
use Rattle.threshold_table.specs.declared.rule_table.RuleKind.{RuleKind}
use Rattle.threshold_table.specs.declared.rule_table.RuleKind.TheVariants as kinds
use Rattle.scalar_rule.specs.Plan.{Plan, slots_of}
use Rattle.scalar_rule.specs.SpinDigits.{spin_digits}
use Rattle.scalar_rule.specs.declared.sample.Record.{Record}

-- a kind of dynamics by its word
abbrev pub kind_text : RuleKind → List ℕ
kind_text kinds.Heat = codes "heat"
kind_text kinds.Metropolis = codes "metropolis"

-- the first line says of which lattice, slots, samples and rule the run is, and from which epoch to which it goes
unfoldable pub header_line : Plan → ℕ → ℕ → ℕ → List ℕ
header_line plan samples from to =
    codes "glass 1 size=" ++ decimal plan.size ++ codes " slots=" ++ decimal (slots_of plan) ++ codes " samples=" ++ decimal samples
    ++ codes " rule=" ++ kind_text plan.rules.kind ++ codes " from=" ++ decimal from ++ codes " to=" ++ decimal to ++ codes "\n"

-- what was measured of a slot of a sample in an epoch: the energies of both replicas, their overlap, their labels
unfoldable pub row_line : ℕ → ℕ → ℕ → Record → List ℕ
row_line epoch sample slot values =
    codes "row," ++ decimal epoch ++ codes "," ++ decimal sample ++ codes "," ++ decimal slot ++ codes "," ++ signed_decimal values.first_energy
    ++ codes "," ++ signed_decimal values.second_energy ++ codes "," ++ signed_decimal values.overlap ++ codes ","
    ++ decimal values.first_replica ++ codes "," ++ decimal values.second_replica ++ codes "\n"

-- the epoch at which the run ended
unfoldable pub end_line : ℕ → List ℕ
end_line epoch = codes "end," ++ decimal epoch ++ codes "\n"

-- whose spins a line has: those of a sample, a slot and one of its two replicas
unfoldable pub spins_head : ℕ → ℕ → ℕ → List ℕ
spins_head sample slot copy = codes "spin," ++ decimal sample ++ codes "," ++ decimal slot ++ codes "," ++ decimal copy ++ codes ","

-- the spins of a replica on the lattice of side l, in hexadecimal
unfoldable pub spins_line : ℕ → ℕ → ℕ → ℕ → List Bool → List ℕ
spins_line l sample slot copy spins = spins_head sample slot copy ++ spin_digits l spins ++ codes "\n"

-- ---- the summary of a run whose plan is made from a number

-- the number, the sizes and the epoch at which the run ends
unfoldable pub summary_line : ℕ → Plan → ℕ → ℕ → List ℕ
summary_line n plan samples until =
    codes "demo 1 n=" ++ decimal n ++ codes " size=" ++ decimal plan.size ++ codes " slots=" ++ decimal (slots_of plan)
    ++ codes " samples=" ++ decimal samples ++ codes " epochs=" ++ decimal until ++ codes "\n"

-- a slot's energy, and the number of samples whose first replica began in another slot
unfoldable pub slot_line : ℕ → ℤ → ℕ → List ℕ
slot_line slot energy away = codes "slot," ++ decimal slot ++ codes "," ++ signed_decimal energy ++ codes "," ++ decimal away ++ codes "\n"
