-- The checkpoint of a state at one epoch: of one bank of 64 samples that of the bank, of several that of the banks. Each bank has a plan of
-- its own.
use Rattle.std.specs.Prelude.{◌≡◌, ◌≤◌, ℕ, ◌+◌, List, [], ◌∷◌, drop, Option, Result}
use Rattle.glass_edges.specs.Refusals.{unless}
use Rattle.plane_sweep.specs.declared.stand.Stand.{Stand}
use Rattle.run_checkpoint.specs.BankDecoding.{banks_refusal, banks_in}
use Rattle.run_checkpoint.specs.BankEncoding.{bank_len, banks_len, banks_parts, banks_encoding, BanksFit}
use Rattle.run_checkpoint.specs.Decoding.{level_refusal}
use Rattle.run_checkpoint.specs.Encoding.{encoding}
use Rattle.run_checkpoint.specs.Lengths.{encoding_len}
use Rattle.run_checkpoint.specs.Reading.{stand_in}
use Rattle.run_checkpoint.specs.declared.refused.CheckpointRefused.{CheckpointRefused}
use Rattle.scalar_rule.specs.Plan.{Plan, slots_of}
use Rattle.scalar_rule.specs.declared.sample.Sample.{Sample}

-- ---- what is written

-- of states of 64 samples, bank by bank
unfoldable pub level_encoding : List Plan → List (ℕ → Sample) → List ℕ
level_encoding (plan ∷ []) (states ∷ more) = encoding plan states
level_encoding plans states = banks_encoding plans states

-- of the states that packed states stand for
abbrev pub stands_encoding : List Plan → List Stand → List ℕ
stands_encoding plans stands = level_encoding plans (banks_parts plans stands)

-- the number of its bytes
unfoldable pub level_len : List Plan → ℕ
level_len (plan ∷ []) = bank_len (plan ∷ [])
level_len plans = banks_len plans

-- how long the checkpoints of the banks are, one behind the other
unfoldable pub banks_spare : List Plan → ℕ
banks_spare [] = 0
banks_spare (plan ∷ plans) = encoding_len plan.size (slots_of plan) + banks_spare plans

-- ---- what is read

-- the first refusal of bytes as such a checkpoint
unfoldable pub level_banks_refusal : List Plan → ℕ → List ℕ → Option CheckpointRefused
level_banks_refusal (plan ∷ []) until bytes = level_refusal plan until bytes
level_banks_refusal plans until bytes = banks_refusal plans until bytes

-- the packed state of each bank that they are
unfoldable pub level_banks_in : List Plan → List ℕ → List Stand
level_banks_in (plan ∷ []) bytes = stand_in plan bytes ∷ []
level_banks_in plans bytes = banks_in (bank_len plans) plans (drop 12 bytes)

-- these, or the first refusal
unfoldable pub level_banks_decoded : List Plan → ℕ → List ℕ → Result (List Stand) CheckpointRefused
level_banks_decoded plans until bytes = unless (level_banks_refusal plans until bytes) (level_banks_in plans bytes)

-- the epoch of packed states: that of the first bank
unfoldable pub stands_at : List Stand → ℕ
stands_at [] = 0
stands_at (stand ∷ stands) = stand.epoch

-- packed states that fit the plans, all at one epoch
pub record AreLevel (plans : List Plan) (stands : List Stand) : Type 0 where
  pub epoch : ℕ
  pub fit : BanksFit epoch plans stands

-- the bytes are the checkpoint of the states that such packed states stand for, in time
pub record IsLevelCheckpoint (plans : List Plan) (until : ℕ) (bytes : List ℕ) (stands : List Stand) : Type 0 where
  pub fit : BanksFit (stands_at stands) plans stands
  pub in_time : stands_at stands ≤ until
  pub bytes_are : bytes ≡ stands_encoding plans stands
