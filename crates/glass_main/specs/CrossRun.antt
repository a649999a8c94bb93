-- Overlaps of the copies of two saved states: what the two checkpoints are read as, and what is printed of them.
use Rattle.std.specs.Prelude.{ℕ, List, [], ◌∷◌, map, Result, Ok, Err}
use Rattle.copies_report.specs.States.{states_fields}
use Rattle.quenched_states.specs.CrossText.{CrossHeading, cross_text}
use Rattle.report_text.specs.Lines.{kind_text}
use Rattle.run_checkpoint.specs.BankDecoding.{banks_decoded, AreEncoded}
use Rattle.run_checkpoint.specs.Decoding.{decoded, IsEncoded}
use Rattle.run_checkpoint.specs.declared.refused.CheckpointRefused.{CheckpointRefused}
use Rattle.plane_sweep.specs.declared.stand.Stand.{Stand}
use Rattle.scalar_rule.specs.Plan.{Plan, slots_of}
use Rattle.spin_model.specs.Limits.{last_epoch}
use Rattle.glass_main.specs.ManyBanks.{PlannedBanks, stands_at}

-- ---- what is read

-- the plan with another seed and all else the same
abbrev pub with_seed : ℕ → Plan → Plan
with_seed seed plan = record {
  size = plan.size;
  rules = plan.rules;
  swaps = plan.swaps;
  couplings = plan.couplings;
  sweeps = plan.sweeps;
  seed = seed;
}

-- those of all banks
abbrev pub seeded : ℕ → List Plan → List Plan
seeded seed plans = map (with_seed seed) plans

-- the packed states of the banks that the bytes of a checkpoint at one epoch are, or their first refusal: of one bank those of 64
-- samples, of more those of as many banks
abbrev pub alone : Result Stand CheckpointRefused → Result (List Stand) CheckpointRefused
alone (Ok stand) = Ok (stand ∷ [])
alone (Err e) = Err e

unfoldable pub states_decoded : List Plan → List ℕ → Result (List Stand) CheckpointRefused
states_decoded [] bytes = banks_decoded [] last_epoch bytes
states_decoded (plan ∷ []) bytes = alone (decoded plan last_epoch bytes)
states_decoded (plan ∷ next ∷ plans) bytes = banks_decoded (plan ∷ next ∷ plans) last_epoch bytes

-- the bytes are the checkpoint of the states that these packed states stand for, which fit, at an epoch up to 1000000000
unfoldable pub AreStatesOf : List Plan → List ℕ → List Stand → Type 0
AreStatesOf [] bytes stands = AreEncoded [] last_epoch bytes stands
AreStatesOf (plan ∷ []) bytes [] = ⊥
AreStatesOf (plan ∷ []) bytes (stand ∷ []) = IsEncoded plan last_epoch bytes stand
AreStatesOf (plan ∷ []) bytes (stand ∷ other ∷ stands) = ⊥
AreStatesOf (plan ∷ next ∷ plans) bytes stands = AreEncoded (plan ∷ next ∷ plans) last_epoch bytes stands

-- ---- what is printed

-- the plans and orders of the first state, the seed of the second, and both states, packed bank by bank
pub record CrossedStates : Type 0 where
  pub planned : PlannedBanks
  pub seed : ℕ
  pub first : List Stand
  pub second : List Stand

abbrev pub crossed_heading : Plan → CrossedStates → CrossHeading
crossed_heading plan crossed = record {
  size = plan.size;
  slots = slots_of plan;
  samples = crossed.planned.orders.samples;
  rule = kind_text plan.rules.kind;
  first_seed = plan.seed;
  second_seed = crossed.seed;
  first_epoch = stands_at crossed.first;
  second_epoch = stands_at crossed.second;
}

-- the text of both states, by the size, slots, dynamics and seed that all plans have
unfoldable pub crossed_by : List Plan → CrossedStates → List ℕ
crossed_by [] crossed = []
crossed_by (plan ∷ plans) crossed = cross_text (crossed_heading plan crossed) (states_fields plan.size crossed.first crossed.second)

abbrev pub crossed_text : CrossedStates → List ℕ
crossed_text crossed = crossed_by crossed.planned.plans crossed
