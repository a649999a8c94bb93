-- Sums over a run: what it starts from, and what is printed and saved. Its plans are a list, of one bank of 64 samples or of several.
use Rattle.std.specs.Prelude.{◌≡◌, ◌≤◌, ℕ, List, [], ◌∷◌, drop, Option, Result}
use Rattle.hex.specs.Hex.{encode_lower}
use Rattle.glass_edges.specs.Refusals.{unless}
use Rattle.measured_run.specs.Text.{measure_text}
use Rattle.report_text.specs.Lines.{kind_text}
use Rattle.run_checkpoint.specs.BankDecoding.{banks_refusal, banks_in}
use Rattle.run_checkpoint.specs.BankEncoding.{bank_len, banks_parts, banks_encoding, AreBanks}
use Rattle.run_checkpoint.specs.Decoding.{level_refusal}
use Rattle.run_checkpoint.specs.Encoding.{encoding}
use Rattle.run_checkpoint.specs.Reading.{stand_in}
use Rattle.run_checkpoint.specs.declared.refused.CheckpointRefused.{CheckpointRefused}
use Rattle.run_plan.specs.CanonicalPlan.{banks_digest}
use Rattle.plane_sweep.specs.declared.stand.Stand.{Stand}
use Rattle.scalar_rule.specs.Plan.{Plan}
use Rattle.scalar_rule.specs.declared.sample.Sample.{Sample}
use Rattle.glass_main.specs.ManyBanks.{PlannedBanks, banks_at}
use Rattle.glass_main.specs.declared.plans.Plans.{Plans}
use Rattle.glass_main.specs.declared.plans.Plans.TheVariants.{One, Banks}

-- the plan of each bank, also of the only one, and the orders of the whole
abbrev pub banks_of : Plans → PlannedBanks
banks_of (One planned) = record { plans = planned.plan ∷ []; orders = planned.orders }
banks_of (Banks planned) = planned

-- ---- checkpoints of states at one epoch

-- of one bank, or of as many banks as there are plans
unfoldable pub level_encoding : List Plan → List (ℕ → Sample) → List ℕ
level_encoding (plan ∷ []) (states ∷ more) = encoding plan states
level_encoding plans states = banks_encoding plans states

-- the first refusal of bytes as such a checkpoint
unfoldable pub level_banks_refusal : List Plan → ℕ → List ℕ → Option CheckpointRefused
level_banks_refusal (plan ∷ []) until bytes = level_refusal plan until bytes
level_banks_refusal plans until bytes = banks_refusal plans until bytes

-- the packed state of each bank that they are
unfoldable pub level_banks_in : List Plan → List ℕ → List Stand
level_banks_in (plan ∷ []) bytes = stand_in plan bytes ∷ []
level_banks_in plans bytes = banks_in (bank_len plans) plans (drop 12 bytes)

-- the states of each bank, or the first refusal
unfoldable pub level_resumed_by : PlannedBanks → ℕ → List ℕ → Result (List (ℕ → Sample)) CheckpointRefused
level_resumed_by planned until bytes =
    unless (level_banks_refusal planned.plans until bytes) (banks_parts planned.plans (level_banks_in planned.plans bytes))

-- the bytes are the checkpoint of these states of each bank, which are at one epoch, in time
pub record IsLevelEncoding (plans : List Plan) (until : ℕ) (bytes : List ℕ) (states : List (ℕ → Sample)) : Type 0 where
  pub epoch : ℕ
  pub states_are : AreBanks epoch plans states
  pub in_time : epoch ≤ until
  pub bytes_are : bytes ≡ level_encoding plans states

-- ---- what is printed and saved

-- the word of the rule, which all plans share
unfoldable pub rule_word : List Plan → List ℕ
rule_word [] = []
rule_word (plan ∷ plans) = kind_text plan.rules.kind

-- the sums of the serial dynamics of each bank's samples, over the measured epochs of the run; the first line has the digest of the plans
-- that `check` prints
abbrev pub measured_text : PlannedBanks → List (ℕ → Sample) → ℕ → List ℕ
measured_text planned starts until =
    measure_text planned.plans starts planned.orders.samples (rule_word planned.plans) (encode_lower (banks_digest planned.plans)) planned.orders.every until

-- the checkpoint of the states at the last epoch, by the same dynamics
abbrev pub measured_bytes : PlannedBanks → List (ℕ → Sample) → ℕ → List ℕ
measured_bytes planned starts until = level_encoding planned.plans (banks_at planned.plans starts until)
