-- The checkpoints of a bank: of states at one epoch, and of states whose slots may be at different epochs; and what is
-- written of a packed state, by the kind.
use Rattle.std.specs.Prelude.{◌≡◌, ◌<◌, ℕ, List}
use Rattle.scalar_rule.specs.Plan.{Plan}
use Rattle.scalar_rule.specs.Ragged.{UnevenState}
use Rattle.scalar_rule.specs.declared.sample.Record.{Record}
use Rattle.scalar_rule.specs.declared.sample.Sample.{Sample}
use Rattle.plane_sweep.specs.Packed.{part, StandFits, StandsFor}
use Rattle.plane_sweep.specs.Uneven.{place_at, positions_of, uneven_part, level_stand, RaggedStandFits}
use Rattle.plane_sweep.specs.declared.stand.Stand.{Stand}
use Rattle.plane_sweep.specs.declared.uneven.RaggedStand.{RaggedStand}
use Rattle.run_checkpoint.specs.Kinds.{Standing, Level, Uneven, PlainBank, bank_encoding}
use Rattle.run_checkpoint.specs.declared.kinds.Kind.{Kind}
use Rattle.run_checkpoint.specs.declared.kinds.Kind.TheVariants as kinds

-- the states of 64 samples, which are at one epoch and share their generators: those of sample 0
unfoldable pub level_bank : (ℕ → Sample) → PlainBank
level_bank states = record { standing = Level (states 0).epoch; slots = λ b. (states b).slots; pairs = (states 0).pairs }

-- those of 64 samples that share their positions and generators, and the records that are kept
unfoldable pub uneven_bank : ℕ → ℕ → (ℕ → UnevenState) → List Record → PlainBank
uneven_bank samples every states pending =
    record { standing = Uneven samples every (states 0).positions pending; slots = λ b. (states b).slots; pairs = (states 0).pairs }

-- their checkpoints
abbrev pub encoding : Plan → (ℕ → Sample) → List ℕ
encoding plan states = bank_encoding plan (level_bank states)

abbrev pub uneven_encoding : Plan → ℕ → ℕ → (ℕ → UnevenState) → List Record → List ℕ
uneven_encoding plan samples every states pending = bank_encoding plan (uneven_bank samples every states pending)

-- the slots and pairs of a state whose slots are all at rest at the epoch of slot 0
abbrev pub flattened : RaggedStand → Stand
flattened ragged = record { epoch = (place_at ragged.places 0).epoch; slots = ragged.slots; pairs = ragged.pairs }

-- states of 64 samples that are at one epoch and share their generators, with lists of the plan's lengths and labels that
-- permute: those for which a packed state that fits stands
pub record AreBankStates (plan : Plan) (states : ℕ → Sample) : Type 0 where
  pub stand : Stand
  pub fits : StandFits plan stand
  pub stands : StandsFor plan states stand

-- states of 64 samples and records for which a packed state that fits stands
pub record AreUnevenStates (plan : Plan) (samples every : ℕ) (states : ℕ → UnevenState) (pending : List Record) : Type 0 where
  pub stand : RaggedStand
  pub fits : RaggedStandFits plan samples every stand
  pub stands : (b : ℕ) → b < 64 → uneven_part plan.size b stand ≡ states b
  pub records : stand.pending ≡ pending

-- ---- what is written of a packed state

abbrev pub standing_of : Kind → RaggedStand → Standing
standing_of kinds.Level stand = Level (place_at stand.places 0).epoch
standing_of (kinds.Uneven samples every) stand = Uneven samples every (positions_of stand) stand.pending

abbrev pub bank_of : Kind → Plan → RaggedStand → PlainBank
bank_of kinds.Level plan stand = level_bank (λ b. part plan.size b (flattened stand))
bank_of (kinds.Uneven samples every) plan stand = uneven_bank samples every (λ b. uneven_part plan.size b stand) stand.pending

-- a state of the first kind is at one epoch; one of the second has its printed samples and recorded epochs
abbrev pub FitsKind : Kind → Plan → RaggedStand → Type 0
FitsKind kinds.Level plan stand = (stand ≡ level_stand (flattened stand)) × StandFits plan (flattened stand)
FitsKind (kinds.Uneven samples every) plan stand = RaggedStandFits plan samples every stand
