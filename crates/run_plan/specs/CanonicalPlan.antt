-- The canonical bytes of a plan: all that fixes the physics of a run, as the one message whose SHA-256 is the plan's
-- digest. Numbers are big-endian and unsigned.
use Rattle.std.specs.Prelude.{ℕ, ◌+◌, ◌*◌, ◌/◌, ◌%◌, ◌++◌, List, [], ◌∷◌, length, codes}
use Rattle.std.specs.List.{flat_map, sum_by}
use Rattle.byteorder.specs.Endian.{big_bytes}
use Rattle.sha2.specs.Sha256.{sha256}
use Rattle.spin_model.specs.Lattice.{volume, bond_count}
use Rattle.spin_model.specs.Steps.{table}
use Rattle.spin_model.specs.Words.{words_64}
use Rattle.coupling_set.specs.CouplingWords.{CouplingsView, bond_word}
use Rattle.threshold_table.specs.declared.rule_table.RuleKind.{RuleKind}
use Rattle.threshold_table.specs.declared.rule_table.RuleKind.TheVariants as kinds
use Rattle.threshold_table.specs.Tables.{cases_of}
use Rattle.scalar_rule.specs.Plan.{Plan, slots_of}

-- the number of a kind of dynamics
abbrev pub kind_number : RuleKind → ℕ
kind_number kinds.Heat = 1
kind_number kinds.Metropolis = 2

-- eight letters, the size, the number of slots, the kind and the sweeps, 4 bytes each, and the seed, 8 bytes
unfoldable pub header_bytes : Plan → List ℕ
header_bytes plan =
    codes "GLASSPL1" ++ big_bytes 4 plan.size ++ big_bytes 4 (slots_of plan) ++ big_bytes 4 (kind_number plan.rules.kind)
    ++ big_bytes 4 plan.sweeps ++ big_bytes 8 plan.seed

-- of a pair of slots the number of its entries, 4 bytes, and then the entries
abbrev pub pair_bytes : List ℕ → List ℕ
pair_bytes entries = big_bytes 4 (length entries) ++ words_64 entries

-- the words of the bonds in the order of their numbers: bit b of a word is set where J of sample b is -1
abbrev pub bond_words : CouplingsView → List ℕ
bond_words couplings = table (λ n. bond_word couplings (n / 3) (n % 3)) (bond_count couplings.size)

-- the canonical bytes: the header, the thresholds slot by slot, the entries pair by pair, and the words of the bonds
unfoldable pub canonical : Plan → List ℕ
canonical plan =
    header_bytes plan ++ flat_map words_64 plan.rules.rows ++ flat_map pair_bytes plan.swaps
    ++ words_64 (bond_words plan.couplings)

-- the digest of a plan
abbrev pub plan_digest : Plan → List ℕ
plan_digest plan = sha256 (canonical plan)

-- of a run of several banks: eight letters, the number of banks, 4 bytes, and the digest of each bank's plan
unfoldable pub banks_message : List Plan → List ℕ
banks_message plans = codes "GLASSPL2" ++ big_bytes 4 (length plans) ++ flat_map plan_digest plans

-- the digest of a run's plans, one for each bank: that of the only one, or of the digests of all
unfoldable pub banks_digest : List Plan → List ℕ
banks_digest (plan ∷ []) = plan_digest plan
banks_digest plans = sha256 (banks_message plans)

-- how many canonical bytes there are
abbrev pub canonical_length : Plan → ℕ
canonical_length plan =
    32 + 8 * (cases_of plan.rules.kind * slots_of plan) + sum_by (λ entries. 4 + 8 * length entries) plan.swaps
    + 24 * volume plan.size
