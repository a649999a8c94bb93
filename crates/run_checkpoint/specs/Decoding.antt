-- The state that the bytes of a checkpoint are, or their first refusal.
use Rattle.std.specs.Prelude.{◌≡◌, ◌≤◌, ℕ, List, drop, Option, Result}
use Rattle.glass_edges.specs.Refusals.{or_else, unless}
use Rattle.scalar_rule.specs.Plan.{Plan, slots_of}
use Rattle.plane_sweep.specs.Packed.{part, StandFits}
use Rattle.plane_sweep.specs.declared.stand.Stand.{Stand}
use Rattle.run_checkpoint.specs.Kinds.{level_kind}
use Rattle.run_checkpoint.specs.declared.refused.CheckpointRefused.{CheckpointRefused}
use Rattle.run_checkpoint.specs.Encoding.{encoding}
use Rattle.run_checkpoint.specs.Lengths.{encoding_len}
use Rattle.run_checkpoint.specs.Reading.{parts_in, stand_in}
use Rattle.run_checkpoint.specs.Tests.{Layout, form_refusal, wrong_label, late}

abbrev pub level_layout : Plan → Layout
level_layout plan = record { least = 88; kind = level_kind; place = 48; len = encoding_len plan.size (slots_of plan) }

-- the tests of the form, and then those of the state
unfoldable pub level_refusal : Plan → ℕ → List ℕ → Option CheckpointRefused
level_refusal plan until bytes =
    or_else (form_refusal (level_layout plan) plan bytes) (or_else
    (wrong_label (slots_of plan) (parts_in plan.size (slots_of plan) (drop 56 bytes)))
    (late until (stand_in plan bytes).epoch))

unfoldable pub decoded : Plan → ℕ → List ℕ → Result Stand CheckpointRefused
decoded plan until bytes = unless (level_refusal plan until bytes) (stand_in plan bytes)

-- the bytes are the checkpoint of the states that a packed state stands for, which fits and is in time
pub record IsEncoded (plan : Plan) (until : ℕ) (bytes : List ℕ) (stand : Stand) : Type 0 where
  pub fits : StandFits plan stand
  pub in_time : stand.epoch ≤ until
  pub bytes_are : bytes ≡ encoding plan (λ b. part plan.size b stand)
