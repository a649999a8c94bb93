-- The measurement records of a run: of each recorded epoch, each printed sample and each slot, in this order.
use Rattle.std.specs.Prelude.{ℕ, ◌+◌, ◌-◌, ◌/◌, ◌%◌, Bool, ◌==◌, if◌then◌else◌, List, [], flat_map, slice_index_or, pos}
use Rattle.spin_model.specs.Steps.{table}
use Rattle.scalar_rule.specs.Plan.{Plan}
use Rattle.scalar_rule.specs.Epoch.{epoch_records}
use Rattle.scalar_rule.specs.Serial.{serial}
use Rattle.scalar_rule.specs.declared.sample.Sample.{Sample}
use Rattle.scalar_rule.specs.declared.sample.Record.{Record}

-- an epoch is recorded: it is the last of each `every`
abbrev pub is_recorded : ℕ → ℕ → Bool
is_recorded every e = e % every == every - 1

-- how many epochs from `from` on and below `to` are recorded
abbrev pub recorded_epochs : ℕ → ℕ → ℕ → ℕ
recorded_epochs every from to = to / every - from / every

-- a record of zeros, which stands where there is none
abbrev pub no_record : Record
no_record = record { first_energy = pos 0; second_energy = pos 0; overlap = pos 0; first_replica = 0; second_replica = 0 }

-- record j of a list
abbrev pub record_at : List Record → ℕ → Record
record_at records j = slice_index_or records j no_record

-- the records of the first samples at epoch e, where `measured b e` are those of sample b, slot by slot
abbrev pub records_at : (ℕ → ℕ → List Record) → ℕ → ℕ → List Record
records_at measured samples e = flat_map (λ b. measured b e) (table (λ b. b) samples)

-- the records of the recorded epochs from c on and below e, in order of epoch, sample, slot
abbrev pub in_order : (ℕ → ℕ → List Record) → ℕ → ℕ → ℕ → ℕ → List Record
in_order measured samples every c e =
    flat_map (λ f. if is_recorded every f then records_at measured samples f else []) (table (λ k. c + k) (e - c))

-- what is measured of sample b at epoch e, from the state that it starts with
abbrev pub measured_from : Plan → (ℕ → Sample) → ℕ → ℕ → List Record
measured_from plan start b e = epoch_records plan (serial plan (start b) e)

-- the records of a run until epoch e, from states at one epoch, which is that of sample 0
abbrev pub records_until : Plan → (ℕ → Sample) → ℕ → ℕ → ℕ → List Record
records_until plan start samples every e = in_order (measured_from plan start) samples every (start 0).epoch e
