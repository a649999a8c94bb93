-- The bytes of a checkpoint of several banks of 64 samples: the checkpoints of the banks, one after the other. Each bank has
-- a plan of its own, which differs from the others in its couplings.
use Rattle.std.specs.Prelude.{◌≡◌, ℕ, ◌+◌, ◌*◌, ◌++◌, List, [], ◌∷◌, length, codes}
use Rattle.byteorder.specs.Endian.{big_bytes}
use Rattle.scalar_rule.specs.Plan.{Plan, slots_of}
use Rattle.scalar_rule.specs.declared.sample.Sample.{Sample}
use Rattle.plane_sweep.specs.Packed.{part, StandFits, StandsFor}
use Rattle.plane_sweep.specs.declared.stand.Stand.{Stand}
use Rattle.run_checkpoint.specs.Encoding.{encoding, AreBankStates}
use Rattle.run_checkpoint.specs.Kinds.{sealed}
use Rattle.run_checkpoint.specs.Lengths.{encoding_len}

-- the eight letters of the kind, and the number of banks
abbrev pub banks_kind : List ℕ
banks_kind = codes "GLASSCK3"

unfoldable pub banks_header : ℕ → List ℕ
banks_header count = banks_kind ++ big_bytes 4 count

-- the checkpoints of the banks in order, each of its plan and its states
unfoldable pub banks_bytes : List Plan → List (ℕ → Sample) → List ℕ
banks_bytes [] states = []
banks_bytes (plan ∷ plans) [] = []
banks_bytes (plan ∷ plans) (states ∷ more) = encoding plan states ++ banks_bytes plans more

unfoldable pub banks_encoding : List Plan → List (ℕ → Sample) → List ℕ
banks_encoding plans states = sealed (banks_header (length plans) ++ banks_bytes plans states)

-- all plans have this size and this number of slots
unfoldable pub HaveShape : ℕ → ℕ → List Plan → Type 0
HaveShape l n [] = Unit {0}
HaveShape l n (plan ∷ plans) = (plan.size ≡ l) × (slots_of plan ≡ n) × HaveShape l n plans

-- and so a checkpoint of each has the same length
pub record HaveOneShape (plans : List Plan) : Type 0 where
  pub size : ℕ
  pub slots : ℕ
  pub shape : HaveShape size slots plans

unfoldable pub bank_len : List Plan → ℕ
bank_len [] = 0
bank_len (plan ∷ plans) = encoding_len plan.size (slots_of plan)

-- the length of the whole
abbrev pub banks_len : List Plan → ℕ
banks_len plans = 44 + bank_len plans * length plans

-- states of each bank at one epoch
unfoldable pub AreBanks : ℕ → List Plan → List (ℕ → Sample) → Type 0
AreBanks epoch [] [] = Unit {0}
AreBanks epoch [] (states ∷ more) = ⊥
AreBanks epoch (plan ∷ plans) [] = ⊥
AreBanks epoch (plan ∷ plans) (states ∷ more) = AreBankStates plan states × ((states 0).epoch ≡ epoch) × AreBanks epoch plans more

-- packed states stand for the states of the banks
unfoldable pub BanksStand : List Plan → List (ℕ → Sample) → List Stand → Type 0
BanksStand [] [] [] = Unit {0}
BanksStand (plan ∷ plans) (states ∷ more) (stand ∷ stands) = StandsFor plan states stand × BanksStand plans more stands
BanksStand _ _ _ = ⊥

-- the states that packed states stand for
unfoldable pub banks_parts : List Plan → List Stand → List (ℕ → Sample)
banks_parts [] stands = []
banks_parts (plan ∷ plans) [] = []
banks_parts (plan ∷ plans) (stand ∷ stands) = (λ b. part plan.size b stand) ∷ banks_parts plans stands

-- packed states at one epoch that fit the plans
unfoldable pub BanksFit : ℕ → List Plan → List Stand → Type 0
BanksFit epoch [] [] = Unit {0}
BanksFit epoch [] (stand ∷ stands) = ⊥
BanksFit epoch (plan ∷ plans) [] = ⊥
BanksFit epoch (plan ∷ plans) (stand ∷ stands) = StandFits plan stand × (stand.epoch ≡ epoch) × BanksFit epoch plans stands
