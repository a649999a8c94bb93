-- Values that were worked out with pencil and paper, so that a wrong definition of the words does not check.
use Rattle.std.proofs.Common.{◌≡◌, true, false, [], ◌∷◌, length, refl}
use Rattle.std.specs.Prelude.{take, drop, map}
use Rattle.spin_model.specs.Steps.{count_below, table}
use Rattle.threshold_table.specs.declared.rule_table.RuleKind.TheVariants as kinds
use Rattle.scalar_rule.specs.Plan.{Plan}
use Rattle.run_decisions.specs.Decisions.{Update, Exchange, SweepGenerator, ExchangeGenerator, address_of, slot_of, places_of, turns_of, exchanges, epoch_decisions, run_decisions, measured_decisions, label_of}

-- size 4, three slots, two sweeps; an entry of 5 for the gap 6 of the first pair and of 9 for that of the second
abbrev plan : Plan
plan = record { size = 4; rules = record { kind = kinds.Heat; rows = [] ∷ [] ∷ [] ∷ [] }; swaps = (0 ∷ 0 ∷ 5 ∷ []) ∷ (0 ∷ 0 ∷ 9 ∷ []) ∷ []; couplings = record { size = 4; words = [] }; sweeps = 2; seed = 0 }

-- six places; place 4 is slot 1 of the second replica
pub places : (places_of plan ≡ 6) × (map (slot_of plan) (0 ∷ 2 ∷ 3 ∷ 4 ∷ []) ≡ 0 ∷ 2 ∷ 0 ∷ 1 ∷ [])
places = (refl, refl)

-- site 27 of size 4 is x = 3, y = 2, z = 1: colour 0, place 2 * 2 + 1 of its plane's eight; sweep 3 begins at number 24. The
-- third turn of a pair begins at number 128 of its generator
pub addresses : (address_of plan 7 (Update 4 3 27) ≡ record { generator = SweepGenerator 4 0 1; number = 29 })
    × (address_of plan 7 (Exchange 3 2) ≡ record { generator = ExchangeGenerator 3; number = 135 })
unfolding address_of
addresses = (refl, refl)

-- pair 0 has its turn at even epochs, pair 1 at odd ones, and the last slot of a replica has no partner
pub turns_of_places : (map (exchanges plan 4) (0 ∷ 1 ∷ 2 ∷ 3 ∷ 4 ∷ 5 ∷ []) ≡ true ∷ false ∷ false ∷ true ∷ false ∷ false ∷ [])
    × (map (exchanges plan 5) (0 ∷ 1 ∷ 2 ∷ 3 ∷ 4 ∷ 5 ∷ []) ≡ false ∷ true ∷ false ∷ false ∷ true ∷ false ∷ [])
    × (map (turns_of plan 1 4) (0 ∷ 1 ∷ []) ≡ 2 ∷ 2 ∷ [])
    × (map (turns_of plan 1 3) (0 ∷ 1 ∷ []) ≡ 1 ∷ 2 ∷ [])
unfolding count_below
turns_of_places = (refl, refl, refl, refl)

-- an epoch from epoch 1 on: 6 * 2 * 64 updates and the exchanges of pair 1 in both replicas. It begins with sites 0, 2 and 5 of
-- place 0; behind the 32 of colour 0 come 1, 3 and 4; behind the 64 the next sweep; behind 128 the next place
pub an_epoch : (length (epoch_decisions plan 1 0) ≡ 770)
    × (take 3 (epoch_decisions plan 1 0) ≡ Update 0 0 0 ∷ Update 0 0 2 ∷ Update 0 0 5 ∷ [])
    × (take 3 (drop 32 (epoch_decisions plan 1 0)) ≡ Update 0 0 1 ∷ Update 0 0 3 ∷ Update 0 0 4 ∷ [])
    × (take 1 (drop 64 (epoch_decisions plan 1 0)) ≡ Update 0 1 0 ∷ [])
    × (take 1 (drop 128 (epoch_decisions plan 1 0)) ≡ Update 1 0 0 ∷ [])
    × (drop 768 (epoch_decisions plan 1 0) ≡ Exchange 1 0 ∷ Exchange 4 0 ∷ [])
unfolding count_below table
an_epoch = (refl, refl, refl, refl, refl, refl)

-- the next epoch goes on with sweep 2, and with pair 0
pub two_epochs : (take 1 (drop 770 (run_decisions plan 1 2)) ≡ Update 0 2 0 ∷ []) × (drop 1538 (run_decisions plan 1 2) ≡ Exchange 0 0 ∷ Exchange 3 0 ∷ [])
    × (length (measured_decisions plan 1 1) ≡ 1538)
unfolding count_below table
two_epochs = (refl, refl, refl)

-- the labels of colour 1 in plane 3 of the second replica of slot 1, and of the first replica's pair 0 in bank 2
pub labels : (label_of plan 2 (SweepGenerator 4 1 3) ≡ record { kind = 1; part_a = 1; part_b = 3; part_c = 3 })
    × (label_of plan 2 (ExchangeGenerator 0) ≡ record { kind = 2; part_a = 0; part_b = 0; part_c = 2 })
unfolding label_of
labels = (refl, refl)
