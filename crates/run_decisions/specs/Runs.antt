-- A run is its decisions in order, each by its own draw.
use Rattle.std.specs.Prelude.{◌≡◌, ◌≢◌, ℕ, ◌+◌, ◌*◌, ◌^◌, ◌<◌, ◌≤◌, Bool, ◌==◌, ◌++◌, List, length, All, count_by}
use Rattle.std.specs.List.{AllPairs}
use Rattle.spin_model.specs.Lattice.{IsLawfulSize, volume}
use Rattle.finite_chance.specs.Chains.{after}
use Rattle.scalar_rule.specs.Plan.{Plan, slots_of, dynamics_of, IsLawfulPlan}
use Rattle.scalar_rule.specs.Replica.{configuration_of}
use Rattle.scalar_rule.specs.Sweep.{sweeps}
use Rattle.scalar_rule.specs.Serial.{serial}
use Rattle.coupling_set.specs.CouplingWords.{bonds_of}
use Rattle.spin_model.specs.Seeding.{seeded}
use Rattle.scalar_rule.specs.Sums.{energy, overlap}
use Rattle.scalar_rule.specs.Epoch.{epoch_records}
use Rattle.scalar_rule.specs.Records.{record_at, measured_from}
use Rattle.scalar_rule.specs.Opening.{opening}
use Rattle.scalar_rule.specs.Shape.{Fits}
use Rattle.scalar_rule.specs.declared.sample.Start.{Start}
use Rattle.scalar_rule.specs.declared.sample.Record.{Record}
use Rattle.scalar_rule.specs.declared.sample.Sample.{Sample}
use Rattle.run_decisions.specs.Decisions.{Generator, IsDecisionOf, IsGeneratorOf, label_of, message_of, words_of, spins_at, swept_state, measured_decisions, drawn, state_of, slot_of, places_of, decide, address_of, sites_of, exchanges, copy_at, sweeps_decisions, run_decisions}

-- the state after n epochs of the defined dynamics is that after the decisions of n epochs, each by the draw at its address
abbrev pub RunsAreDecisions : Type 0
RunsAreDecisions = (plan : Plan) (s : Sample) (n : ℕ) → IsLawfulPlan plan → Fits plan s
    → state_of plan (serial plan s (s.epoch + n))
    ≡ after (decide plan s.bit) (run_decisions plan s.epoch n) (drawn plan s (run_decisions plan s.epoch n)) (state_of plan s)

-- no two decisions of a run go by one draw: their addresses differ
abbrev pub DrawsAreOwn : Type 0
DrawsAreOwn = (plan : Plan) (b start n : ℕ) → IsLawfulSize plan.size → AllPairs (λ d e. address_of plan b d ≢ address_of plan b e) (run_decisions plan start n)
    × AllPairs (λ d e. address_of plan b d ≢ address_of plan b e) (measured_decisions plan start n)

-- each is about places and sites that there are
abbrev pub DecisionsAreLawful : Type 0
DecisionsAreLawful = (plan : Plan) (start n : ℕ) → All (IsDecisionOf plan) (run_decisions plan start n) × All (IsDecisionOf plan) (measured_decisions plan start n)

-- a sweep updates each site once: those of colour 0 and then those of colour 1 are all sites
abbrev pub SweepsVisitEachOnce : Type 0
SweepsVisitEachOnce = (l i : ℕ) → i < volume l → count_by (λ j. j == i) (sites_of l 0 ++ sites_of l 1) ≡ 1

-- of two epochs that follow, a place has an exchange with the next in one and none in the other, if they are neighbouring slots
-- of one replica
abbrev pub TurnsAlternate : Type 0
TurnsAlternate = (plan : Plan) (e p : ℕ) → p < places_of plan → slot_of plan p + 1 < slots_of plan → exchanges plan e p ≢ exchanges plan (e + 1) p

-- what is measured at an epoch is of the state after its sweeps, which is that after the decisions of the epochs before and
-- those of its sweeps
abbrev pub SweptStatesAreDecisions : Type 0
SweptStatesAreDecisions = (plan : Plan) (s : Sample) (n : ℕ) → IsLawfulPlan plan → Fits plan s
    → swept_state plan (serial plan s (s.epoch + n))
    ≡ after (decide plan s.bit) (measured_decisions plan s.epoch n) (drawn plan s (measured_decisions plan s.epoch n)) (state_of plan s)

-- a record is what is measured of slot t in a state of sample b: the energies and the overlap of places t and n + t
pub record IsMeasuredIn (plan : Plan) (b : ℕ) (state : List (List Bool)) (t : ℕ) (measured : Record) : Type 0 where
  pub first : measured.first_energy ≡ energy plan.size (bonds_of plan.couplings b) (spins_at state t)
  pub second : measured.second_energy ≡ energy plan.size (bonds_of plan.couplings b) (spins_at state (slots_of plan + t))
  pub overlap : measured.overlap ≡ overlap plan.size (spins_at state t) (spins_at state (slots_of plan + t))

abbrev pub RecordsAreOfSweptStates : Type 0
RecordsAreOfSweptStates = (plan : Plan) (s : Sample) (t : ℕ) → t < slots_of plan → IsMeasuredIn plan s.bit (swept_state plan s) t (record_at (epoch_records plan s) t)

-- so the numbers that a report has of sample b and slot t, n epochs after the start, are measured in what the decisions since
-- then make of the starting state, each by its own draw
abbrev pub PrintedNumbersAreDecisions : Type 0
PrintedNumbersAreDecisions = (plan : Plan) (start : ℕ → Sample) (b n t : ℕ) → IsLawfulPlan plan → Fits plan (start b) → t < slots_of plan
    → IsMeasuredIn plan (start b).bit
    (after (decide plan (start b).bit) (measured_decisions plan (start b).epoch n) (drawn plan (start b) (measured_decisions plan (start b).epoch n)) (state_of plan (start b)))
    t (record_at (measured_from plan start b ((start b).epoch + n)) t)

-- n epochs are at most this many decisions: an update of each site of each place in each sweep, and at most an exchange of each
-- place
abbrev pub DecisionsAreCounted : Type 0
DecisionsAreCounted = (plan : Plan) (start n : ℕ) → length (run_decisions plan start n) ≤ n * (places_of plan * (plan.sweeps * volume plan.size + 1))

-- at the start of a run the words of each generator are those of its label, and no two generators have one label
abbrev pub GeneratorsAreLabelled : Type 0
GeneratorsAreLabelled = (plan : Plan) (start : Start) (bank b : ℕ) (g : Generator) → IsGeneratorOf plan g
    → words_of plan (opening plan start bank b) g ≡ seeded plan.seed (label_of plan bank g).kind (label_of plan bank g).part_a (label_of plan bank g).part_b (label_of plan bank g).part_c

abbrev pub LabelsAreOwn : Type 0
LabelsAreOwn = (plan : Plan) (bank : ℕ) (g h : Generator) → IsGeneratorOf plan g → IsGeneratorOf plan h → label_of plan bank g ≡ label_of plan bank h → g ≡ h

-- and so two blocks of words of a run, of one generator or of two, are digests of two messages
abbrev pub MessagesAreOwn : Type 0
MessagesAreOwn = (plan : Plan) (bank : ℕ) (g h : Generator) (i j : ℕ) → IsLawfulPlan plan → bank < 2 ^ 32 → IsGeneratorOf plan g → IsGeneratorOf plan h → i < 8 → j < 8
    → message_of plan bank g i ≡ message_of plan bank h j → (g ≡ h) × (i ≡ j)

-- n sweeps of one place alone, as a replica has them that ages after a quench, are the decisions of these sweeps, which are
-- lawful, each by the draw at its own address
abbrev pub SweepsAloneAreDecisions : Type 0
SweepsAloneAreDecisions = (plan : Plan) (s : Sample) (n p : ℕ) → IsLawfulPlan plan → Fits plan s → p < places_of plan
    → ((sweeps (dynamics_of plan s.bit (slot_of plan p)) n (configuration_of (copy_at plan s p))).spins
    ≡ spins_at (after (decide plan s.bit) (sweeps_decisions plan 0 n p) (drawn plan s (sweeps_decisions plan 0 n p)) (state_of plan s)) p)
    × All (IsDecisionOf plan) (sweeps_decisions plan 0 n p)
    × AllPairs (λ d e. address_of plan s.bit d ≢ address_of plan s.bit e) (sweeps_decisions plan 0 n p)
