-- A run over 1 to 4 banks of 64 samples, by the serial dynamics: what it is opened with, the states that it comes to, and their
-- checkpoint.
use Rattle.std.specs.Prelude.{ℕ, ◌≤◌, Bool, List, [], ◌∷◌, length}
use Rattle.scalar_rule.specs.Plan.{Plan}
use Rattle.scalar_rule.specs.Serial.{serial}
use Rattle.scalar_rule.specs.declared.sample.Sample.{Sample}
use Rattle.plane_sweep.specs.declared.stand.Stand.{Stand}
use Rattle.run_checkpoint.specs.BankEncoding.{banks_encoding, HaveShape, BanksFit}
use Rattle.run_checkpoint.specs.Encoding.{encoding}

-- the plan and the packed state of each bank, bank 0 first; of how many epochs the last is measured; the epoch to which it goes; and
-- whether its checkpoint is to be placed
pub record RunView : Type 0 where
  pub plans : List Plan
  pub bases : List Stand
  pub every : ℕ
  pub until : ℕ
  pub saves : Bool

-- the banks have one size and one number of slots, and start in states at one epoch that fit, in time
pub record AreStarts (plans : List Plan) (bases : List Stand) (until : ℕ) : Type 0 where
  pub some : 1 ≤ length plans
  pub few : length plans ≤ 4
  pub size : ℕ
  pub slots : ℕ
  pub epoch : ℕ
  pub shape : HaveShape size slots plans
  pub fit : BanksFit epoch plans bases
  pub in_time : epoch ≤ until

-- the states of each bank at epoch e, from those with which its samples start
unfoldable pub states_at : List Plan → List (ℕ → Sample) → ℕ → List (ℕ → Sample)
states_at [] starts e = []
states_at (plan ∷ plans) [] e = []
states_at (plan ∷ plans) (start ∷ starts) e = (λ b. serial plan (start b) e) ∷ states_at plans starts e

-- their checkpoint: of one bank that of states at one epoch, of several that of banks
unfoldable pub checkpoint_at : List Plan → List (ℕ → Sample) → ℕ → List ℕ
checkpoint_at [] starts e = []
checkpoint_at (plan ∷ []) [] e = []
checkpoint_at (plan ∷ []) (start ∷ starts) e = encoding plan (λ b. serial plan (start b) e)
checkpoint_at (plan ∷ next ∷ plans) starts e = banks_encoding (plan ∷ next ∷ plans) (states_at (plan ∷ next ∷ plans) starts e)
