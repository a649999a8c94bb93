-- The states that the bytes of a checkpoint of several banks are, or their first refusal.
use Rattle.std.specs.Prelude.{◌≡◌, ◌≤◌, ℕ, zero, suc, ◌+◌, ◌==◌, if◌then◌else◌, List, [], ◌∷◌, length, drop, Option, Some, None, Result}
use Rattle.glass_edges.specs.Refusals.{or_else, unless}
use Rattle.scalar_rule.specs.Plan.{Plan}
use Rattle.plane_sweep.specs.declared.stand.Stand.{Stand}
use Rattle.run_checkpoint.specs.declared.refused.CheckpointRefused.{CheckpointRefused}
use Rattle.run_checkpoint.specs.declared.refused.CheckpointRefused.TheVariants as refused
use Rattle.run_checkpoint.specs.BankEncoding.{banks_kind, bank_len, banks_len, banks_encoding, banks_parts, BanksFit}
use Rattle.run_checkpoint.specs.Decoding.{level_refusal}
use Rattle.run_checkpoint.specs.Reading.{piece, number_at, stand_in}
use Rattle.run_checkpoint.specs.Tests.{short, other_kind, other_length, damaged}

-- the stored number of banks isn't that of the plans
unfoldable pub other_banks : ℕ → List ℕ → Option CheckpointRefused
other_banks wanted bytes = if number_at 4 8 bytes == wanted then None else Some (refused.BankCount (number_at 4 8 bytes) wanted)

-- bank by bank, each of so many bytes, the tests of its checkpoint
unfoldable pub banks_refused : ℕ → ℕ → List Plan → List ℕ → Option CheckpointRefused
banks_refused len until [] bytes = None
banks_refused len until (plan ∷ plans) bytes = or_else (level_refusal plan until (piece 0 len bytes)) (banks_refused len until plans (drop len bytes))

-- the first bank, of n from bank g on, that is at another epoch than bank 0
unfoldable pub other_epoch : ℕ → ℕ → ℕ → List ℕ → Option CheckpointRefused
other_epoch first g len bytes =
    if number_at 8 40 (piece 0 len bytes) == first then None else Some (refused.BankEpoch g (number_at 8 40 (piece 0 len bytes)) first)

unfoldable pub epochs_refused : ℕ → ℕ → ℕ → ℕ → List ℕ → Option CheckpointRefused
epochs_refused len first g zero bytes = None
epochs_refused len first g (suc n) bytes = or_else (other_epoch first g len bytes) (epochs_refused len first (g + 1) n (drop len bytes))

-- the epoch of bank 0
abbrev pub first_epoch : ℕ → List ℕ → ℕ
first_epoch len bytes = number_at 8 40 (piece 0 len bytes)

unfoldable pub banks_form : List Plan → List ℕ → Option CheckpointRefused
banks_form plans bytes =
    or_else (short 44 bytes) (or_else (other_kind banks_kind bytes) (or_else (other_banks (length plans) bytes)
    (or_else (other_length (banks_len plans) bytes) (damaged bytes))))

unfoldable pub banks_refusal : List Plan → ℕ → List ℕ → Option CheckpointRefused
banks_refusal plans until bytes =
    or_else (banks_form plans bytes) (or_else (banks_refused (bank_len plans) until plans (drop 12 bytes))
    (epochs_refused (bank_len plans) (first_epoch (bank_len plans) (drop 12 bytes)) 0 (length plans) (drop 12 bytes)))

-- the packed states of the banks
unfoldable pub banks_in : ℕ → List Plan → List ℕ → List Stand
banks_in len [] bytes = []
banks_in len (plan ∷ plans) bytes = stand_in plan (piece 0 len bytes) ∷ banks_in len plans (drop len bytes)

unfoldable pub banks_decoded : List Plan → ℕ → List ℕ → Result (List Stand) CheckpointRefused
banks_decoded plans until bytes = unless (banks_refusal plans until bytes) (banks_in (bank_len plans) plans (drop 12 bytes))

-- the bytes are the checkpoint of the states that packed states stand for, which fit and are at one epoch in time
pub record AreEncoded (plans : List Plan) (until : ℕ) (bytes : List ℕ) (stands : List Stand) : Type 0 where
  pub epoch : ℕ
  pub fit : BanksFit epoch plans stands
  pub in_time : epoch ≤ until
  pub bytes_are : bytes ≡ banks_encoding plans (banks_parts plans stands)
