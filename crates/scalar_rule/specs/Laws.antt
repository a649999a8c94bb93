-- What holds of the dynamics of a disorder sample under every plan.
use Rattle.std.specs.Prelude.{◌≡◌, ℕ, ◌+◌, ◌-◌, ◌*◌, ◌%◌, ◌<◌, ◌≤◌, Bool, true, false, List, [], ◌++◌, length}
use Rattle.spin_model.specs.Steps.{table, count_below}
use Rattle.spin_model.specs.Couplings.{Bonds}
use Rattle.spin_model.specs.Lattice.{IsLawfulSize}
use Rattle.scalar_rule.specs.Sums.{unsatisfied}
use Rattle.scalar_rule.specs.Plan.{Plan, slots_of, pairs_of}
use Rattle.scalar_rule.specs.Epoch.{slot_at, pair_at, swept_slot}
use Rattle.scalar_rule.specs.Serial.{serial}
use Rattle.scalar_rule.specs.Records.{is_recorded, recorded_epochs, records_until}
use Rattle.scalar_rule.specs.Ragged.{Position, UnevenState, position_at, ready, arrived, generators, all_ready}
use Rattle.scalar_rule.specs.Positions.{sum_below, done, rank, content, position_in, floor_of, deepest_of, HasSameTurns, AreInStep, pending_count, pending_record, uneven_record, uneven_records}
use Rattle.scalar_rule.specs.Shape.{Fits}
use Rattle.scalar_rule.specs.declared.sample.Record.{Record}
use Rattle.scalar_rule.specs.declared.sample.Sample.{Sample}

-- all configurations of one disorder sample have the same number of unsatisfied bonds modulo 2
abbrev pub EnergiesHaveOneParity : Type 0
EnergiesHaveOneParity = (l : ℕ) (bonds : Bonds) (s t : List Bool) → IsLawfulSize l → unsatisfied l bonds s % 2 ≡ unsatisfied l bonds t % 2

-- the dynamics to epoch c, and on from there to epoch e, is that to epoch e
abbrev pub ResumingGoesOn : Type 0
ResumingGoesOn = (plan : Plan) (s : Sample) (c e : ℕ) → s.epoch ≤ c → c ≤ e → serial plan (serial plan s c) e ≡ serial plan s e

-- the records until epoch c, and then those from the states that stand there until e, are all records until e
abbrev pub RecordsGoOn : Type 0
RecordsGoOn = (plan : Plan) (start : ℕ → Sample) (samples every c e : ℕ) → (start 0).epoch ≤ c → c ≤ e
    → ((b : ℕ) → b < samples → (start b).epoch ≡ (start 0).epoch)
    → records_until plan start samples every c ++ records_until plan (λ b. serial plan (start b) c) samples every e
    ≡ records_until plan start samples every e

-- the number of recorded epochs is how many of the epochs are recorded
abbrev pub RecordedEpochsAreCounted : Type 0
RecordedEpochsAreCounted = (every from to : ℕ) → 1 ≤ every → from ≤ to → count_below (λ k. is_recorded every (from + k)) (to - from) ≡ recorded_epochs every from to

-- two states at one epoch have equal generator words in every slot and pair
pub record HaveSameWords (plan : Plan) (s t : Sample) : Type 0 where
  pub epochs : s.epoch ≡ t.epoch
  pub first : (k : ℕ) → k < slots_of plan → (slot_at s.slots k).first.wheels ≡ (slot_at t.slots k).first.wheels
  pub second : (k : ℕ) → k < slots_of plan → (slot_at s.slots k).second.wheels ≡ (slot_at t.slots k).second.wheels
  pub exchange : (k : ℕ) → k < pairs_of plan → pair_at s.pairs k ≡ pair_at t.pairs k

-- the generators move by counts that do not depend on the spins, so two samples of a bank keep equal words
abbrev pub WordsStaySame : Type 0
WordsStaySame = (plan : Plan) (s t : Sample) (e : ℕ) → HaveSameWords plan s t → HaveSameWords plan (serial plan s e) (serial plan t e)

-- a state from which every slot starts at the same epoch, at rest
abbrev pub level_start : Plan → Sample → UnevenState
level_start plan s = record {
  bit = s.bit;
  positions = table (λ t. here) (slots_of plan);
  slots = s.slots;
  pairs = s.pairs;
}
  where
    here : Position
    here = record { epoch = s.epoch; waits = false }

-- from there the content of a slot at rest is that of the serial dynamics, that of a slot that waits is the same after its
-- sweeps, and the generators of a pair are those of the serial dynamics
abbrev pub LevelStartIsSerial : Type 0
LevelStartIsSerial = (plan : Plan) (s : Sample) (e t : ℕ) → s.epoch ≤ e → t < slots_of plan
    → ready plan (level_start plan s) e t ≡ slot_at (serial plan s e).slots t

abbrev pub LevelStartWaits : Type 0
LevelStartWaits = (plan : Plan) (s : Sample) (e t : ℕ) → s.epoch ≤ e → t < slots_of plan
    → arrived plan (level_start plan s) e t ≡ swept_slot plan s.bit t (slot_at (serial plan s e).slots t)

abbrev pub LevelGeneratorsAreSerial : Type 0
LevelGeneratorsAreSerial = (plan : Plan) (s : Sample) (e k : ℕ) → s.epoch ≤ e → k < pairs_of plan
    → generators plan (level_start plan s) k e ≡ pair_at (serial plan s e).pairs k

-- so the state with every slot at rest at one epoch is that of the serial dynamics, and the records are those of its run
abbrev pub LevelEndIsSerial : Type 0
LevelEndIsSerial = (plan : Plan) (s : Sample) (e : ℕ) → Fits plan s → s.epoch ≤ e → all_ready plan (level_start plan s) e ≡ serial plan s e

abbrev pub LevelRecordsAreSerial : Type 0
LevelRecordsAreSerial = (plan : Plan) (start : ℕ → Sample) (samples every e : ℕ) → 0 < slots_of plan
    → ((b : ℕ) → b < samples → ((start b).bit ≡ b) × ((start b).epoch ≡ (start 0).epoch))
    → uneven_records plan (λ b. level_start plan (start b)) [] samples every e ≡ records_until plan start samples every e

-- the state of a sample whose slots and pairs have the content of a run from another state, at positions that are not before
-- that other's, in step
pub record IsReached (plan : Plan) (s r : UnevenState) : Type 0 where
  pub bit_is : r.bit ≡ s.bit
  pub later : (t : ℕ) → t < slots_of plan → rank (position_at s t) ≤ rank (position_at r t)
  pub turns : (k : ℕ) → k + 1 < slots_of plan → HasSameTurns k (position_at r k).epoch (position_at r (k + 1)).epoch
  pub slots : (t : ℕ) → t < slots_of plan → slot_at r.slots t ≡ content plan s t (position_at r t).epoch (position_at r t).waits
  pub pairs : (k : ℕ) → k + 1 < slots_of plan → pair_at r.pairs k ≡ generators plan s k (position_at r k).epoch

-- from there the content of a slot at rest, that of a slot that waits, and the generators of a pair are those of the run from
-- that other state
abbrev pub ReachedStateGoesOn : Type 0
ReachedStateGoesOn = (plan : Plan) (s r : UnevenState) (e t : ℕ) → IsReached plan s r → t < slots_of plan → rank (position_at r t) ≤ 4 * e
    → ready plan r e t ≡ ready plan s e t

abbrev pub ReachedStateWaits : Type 0
ReachedStateWaits = (plan : Plan) (s r : UnevenState) (e t : ℕ) → IsReached plan s r → t < slots_of plan → rank (position_at r t) ≤ 4 * e + 2
    → arrived plan r e t ≡ arrived plan s e t

abbrev pub ReachedGeneratorsGoOn : Type 0
ReachedGeneratorsGoOn = (plan : Plan) (s r : UnevenState) (k e : ℕ) → IsReached plan s r → k + 1 < slots_of plan → (position_at r k).epoch ≤ e
    → generators plan r k e ≡ generators plan s k e

-- so is the state with every slot at rest at one epoch
abbrev pub ReachedEndIsSame : Type 0
ReachedEndIsSame = (plan : Plan) (s r : UnevenState) (e : ℕ) → IsReached plan s r → ((t : ℕ) → t < slots_of plan → done (position_at r t) ≤ e)
    → all_ready plan r e ≡ all_ready plan s e

-- the states of the first samples at common positions, each reached from its own start, with the records of the run that are
-- kept ahead of the least completed epoch
pub record AreReached (plan : Plan) (samples every : ℕ) (starts : ℕ → UnevenState) (pending : List Record) (later : ℕ → UnevenState) (kept : List Record) : Type 0 where
  pub some : 0 < samples
  pub from : floor_of (starts 0).positions ≤ floor_of (later 0).positions
  pub each : (b : ℕ) → b < samples → IsReached plan (starts b) (later b)
  pub together : (b t : ℕ) → b < samples → t < slots_of plan → position_at (later b) t ≡ position_at (later 0) t
  pub records : (b f t : ℕ) → b < samples → t < slots_of plan → floor_of (later 0).positions ≤ f → f < done (position_at (later 0) t) → is_recorded every f ≡ true
      → pending_record samples every (later 0).positions kept b f t ≡ uneven_record plan starts pending samples every b f t

-- the records until their least completed epoch, and then those from there on, are all records from the start
abbrev pub ReachedRecordsGoOn : Type 0
ReachedRecordsGoOn = (plan : Plan) (samples every e : ℕ) (starts : ℕ → UnevenState) (pending : List Record) (later : ℕ → UnevenState) (kept : List Record)
    → AreReached plan samples every starts pending later kept → floor_of (later 0).positions ≤ e
    → uneven_records plan starts pending samples every (floor_of (later 0).positions) ++ uneven_records plan later kept samples every e
    ≡ uneven_records plan starts pending samples every e

-- slots in step are at most as many completed epochs apart as there are slots
abbrev pub StepsAreShort : Type 0
StepsAreShort = (n : ℕ) (ps : List Position) → length ps ≡ n → AreInStep n ps → deepest_of ps ≤ floor_of ps + n

-- so at most this many records are kept ahead
abbrev pub PendingRecordsAreFew : Type 0
PendingRecordsAreFew = (n samples every : ℕ) (ps : List Position) → length ps ≡ n → AreInStep n ps → pending_count samples every ps ≤ samples * n * n

-- where no slot in step has completed more than u epochs, and together they have completed n u, each is at rest at epoch u
abbrev pub CompletedSlotsRest : Type 0
CompletedSlotsRest = (n u : ℕ) (ps : List Position) → AreInStep n ps → ((t : ℕ) → t < n → done (position_in ps t) ≤ u)
    → sum_below (λ t. done (position_in ps t)) n ≡ n * u → (t : ℕ) → t < n → position_in ps t ≡ record { epoch = u; waits = false }
