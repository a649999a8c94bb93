-- What the seal of a checkpoint and the digest in it refuse: changed bytes, and the checkpoints of other plans.
use Rattle.std.specs.Prelude.{◌≡◌, ℕ, List, None}
use Rattle.sha2.specs.Sha256.{sha256}
use Rattle.scalar_rule.specs.Plan.{Plan}
use Rattle.run_plan.specs.CanonicalPlan.{canonical}
use Rattle.run_checkpoint.specs.BankDecoding.{banks_refusal}
use Rattle.run_checkpoint.specs.Reading.{body_of, digest_of}
use Rattle.run_checkpoint.specs.UnevenDecoding.{any_refusal}

-- bytes that a run of this plan goes on from, which prints so many samples at such epochs and ends at epoch until
abbrev pub AreRead : Plan → ℕ → ℕ → ℕ → List ℕ → Type 0
AreRead plan samples every until bytes = any_refusal plan samples every until bytes ≡ None

-- the same of several banks
abbrev pub AreReadByBanks : List Plan → ℕ → List ℕ → Type 0
AreReadByBanks plans until bytes = banks_refusal plans until bytes ≡ None

-- of bytes that are read and others with the same 32 bytes at their end, the others are refused, unless what stands before has
-- the same SHA-256
pub record ChangedBytesAreRefused : Type 0 where
  pub runs : (plan : Plan) (samples every until : ℕ) (bytes changed : List ℕ) → AreRead plan samples every until bytes → digest_of changed ≡ digest_of bytes
      → AreRead plan samples every until changed → sha256 (body_of changed) ≡ sha256 (body_of bytes)
  pub banks : (plans : List Plan) (until : ℕ) (bytes changed : List ℕ) → AreReadByBanks plans until bytes → digest_of changed ≡ digest_of bytes
      → AreReadByBanks plans until changed → sha256 (body_of changed) ≡ sha256 (body_of bytes)

-- the checkpoint of a plan is refused by every other one, unless the canonical bytes of both have the same SHA-256
abbrev pub OtherPlansAreRefused : Type 0
OtherPlansAreRefused = (plan other : Plan) (samples every until other_samples other_every other_until : ℕ) (bytes : List ℕ)
    → AreRead plan samples every until bytes → AreRead other other_samples other_every other_until bytes → sha256 (canonical other) ≡ sha256 (canonical plan)
