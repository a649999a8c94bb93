-- The report of a run: the text of what the rule gives from the states that the disorder samples start with, as far as
-- every slot came.
use Rattle.std.specs.Prelude.{ℕ, ◌+◌, ◌-◌, ◌++◌, Bool, not, ◌&&◌, ◌==◌, if◌then◌else◌, List, [], length, flat_map}
use Rattle.std.specs.List.{list_all}
use Rattle.spin_model.specs.Steps.{table}
use Rattle.scalar_rule.specs.Plan.{Plan, slots_of}
use Rattle.scalar_rule.specs.Epoch.{slot_at}
use Rattle.scalar_rule.specs.Positions.{floor_of, uneven_record}
use Rattle.scalar_rule.specs.Ragged.{Position, UnevenState, all_ready}
use Rattle.scalar_rule.specs.Records.{is_recorded, measured_from, record_at}
use Rattle.scalar_rule.specs.Serial.{serial}
use Rattle.scalar_rule.specs.declared.sample.PlainSlot.{PlainSlot}
use Rattle.scalar_rule.specs.declared.sample.Record.{Record}
use Rattle.scalar_rule.specs.declared.sample.Sample.{Sample}
use Rattle.run_plan.specs.declared.run_file.Orders.{Orders}
use Rattle.report_text.specs.Lines.{header_line, row_line, end_line, spins_line}
use Rattle.glass_engine.specs.Runs.{RunView, starts}

-- ---- rows

-- the rows of a sample at an epoch, slot by slot
abbrev pub sample_rows : ℕ → ℕ → List Record → List ℕ
sample_rows epoch sample records = flat_map (λ t. row_line epoch sample t (record_at records t)) (table (λ t. t) (length records))

-- the rows of the first samples at an epoch, where `measured b f` are the records of sample b at epoch f
abbrev pub epoch_rows : (ℕ → ℕ → List Record) → ℕ → ℕ → List ℕ
epoch_rows measured samples f = flat_map (λ b. sample_rows f b (measured b f)) (table (λ b. b) samples)

-- the rows of the recorded epochs from c on and below e, in order of epoch, sample, slot
abbrev pub rows_in_order : (ℕ → ℕ → List Record) → ℕ → ℕ → ℕ → ℕ → List ℕ
rows_in_order measured samples every c e =
    flat_map (λ f. if is_recorded every f then epoch_rows measured samples f else []) (table (λ k. c + k) (e - c))

-- ---- spins

-- the spins of both replicas of a slot
abbrev pub slot_spins : ℕ → ℕ → ℕ → PlainSlot → List ℕ
slot_spins l sample t slot = spins_line l sample t 0 slot.first.spins ++ spins_line l sample t 1 slot.second.spins

-- the spins of a sample's slots
abbrev pub sample_spins : Plan → ℕ → List PlainSlot → List ℕ
sample_spins plan sample slots = flat_map (λ t. slot_spins plan.size sample t (slot_at slots t)) (table (λ t. t) (slots_of plan))

-- the spins of the first samples, where `contents b` are the slots of sample b
abbrev pub all_spins : Plan → ℕ → (ℕ → List PlainSlot) → List ℕ
all_spins plan samples contents = flat_map (λ b. sample_spins plan b (contents b)) (table (λ b. b) samples)

-- ---- the report

-- the records of sample b at epoch f, slot by slot, from states whose slots may stand at different epochs
abbrev pub uneven_measured : Plan → (ℕ → UnevenState) → List Record → ℕ → ℕ → ℕ → ℕ → List Record
uneven_measured plan states pending samples every b f = table (uneven_record plan states pending samples every b f) (slots_of plan)

-- every slot is at rest at epoch e
abbrev pub all_rest : ℕ → List Position → Bool
all_rest e ends = list_all (λ p. not p.waits && p.epoch == e) ends

-- of a run from these states of its samples to epoch `until`, which ended with its slots at the positions `ends`: the header
-- from the starting state's least completed epoch to the end's; the rows of the epochs between; the end; where spins are
-- ordered and every slot is at rest at until those of the rule there, after its last exchange
unfoldable pub uneven_report : Plan → (ℕ → UnevenState) → List Record → ℕ → ℕ → Bool → ℕ → List Position → List ℕ
uneven_report plan states pending samples every spins until ends =
    header_line plan samples (floor_of (states 0).positions) (floor_of ends)
    ++ rows_in_order (uneven_measured plan states pending samples every) samples every (floor_of (states 0).positions) (floor_of ends)
    ++ end_line (floor_of ends)
    ++ (if spins && all_rest until ends then all_spins plan samples (λ b. (all_ready plan (states b) until).slots) else [])

-- that of what a run of one bank was opened with
abbrev pub bank_report : RunView → List Position → List ℕ
bank_report run ends = uneven_report run.plan (starts run) run.base.pending run.orders.samples run.orders.every run.orders.spins run.until ends

-- of a run from the states `start b` of its samples, which are at one epoch, to epoch e: the header; the rows of what the
-- serial dynamics measures; the end; where spins are ordered those of the states at epoch e, after its last exchange
unfoldable pub report : Plan → (ℕ → Sample) → Orders → ℕ → List ℕ
report plan start orders e =
    header_line plan orders.samples (start 0).epoch e
    ++ rows_in_order (measured_from plan start) orders.samples orders.every (start 0).epoch e
    ++ end_line e
    ++ (if orders.spins then all_spins plan orders.samples (λ b. (serial plan (start b) e).slots) else [])
