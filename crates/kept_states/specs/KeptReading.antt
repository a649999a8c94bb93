-- How the states from which a quench goes on are read: with the tests of a checkpoint at one epoch, and with words for what refuses them.
use Rattle.std.specs.Prelude.{◌≡◌, ◌<◌, ◌≤◌, ℕ, List, [], ◌∷◌, map, length, slice_index_or, Option, option_map, Result, ◌⊎◌}
use Rattle.glass_edges.specs.Refusals.{unless}
use Rattle.kept_frame.specs.declared.refused.KeptRefused.TheVariants as kept
use Rattle.kept_states.specs.Levels.{level_len, level_banks_refusal, level_banks_in, stands_at, stands_encoding}
use Rattle.kept_states.specs.declared.refused.KeptStatesRefused.{KeptStatesRefused}
use Rattle.kept_states.specs.declared.refused.KeptStatesRefused.TheVariants as refused
use Rattle.plane_sweep.specs.declared.stand.Stand.{Stand}
use Rattle.quenched_states.specs.KeptBytes.{kept_encoding}
use Rattle.quenched_states.specs.KeptStates.{time_at}
use Rattle.quenched_states.specs.KeptTests.{KeptRefusals, LevelTests, kept_refusal, states_in}
use Rattle.run_checkpoint.specs.BankEncoding.{BanksFit}
use Rattle.scalar_rule.specs.Plan.{Plan}
use Rattle.spin_model.specs.Limits.{last_epoch}

-- the tests of one state are those of its checkpoint, with 1000000000 as the last epoch
abbrev pub level_tests : List Plan → LevelTests KeptStatesRefused
level_tests plans = record {
  len = level_len plans;
  refuses = λ bytes. option_map refused.State (level_banks_refusal plans last_epoch bytes);
  epoch = λ bytes. stands_at (level_banks_in plans bytes);
}

-- each cause with its words
abbrev pub told : KeptRefusals KeptStatesRefused
told = record {
  short = λ len. refused.Kept (kept.Short len);
  states = λ count most. refused.Kept (kept.States count most);
  other_length = λ found wanted. refused.Kept (kept.Length found wanted);
  damaged = λ stored computed. refused.Kept (kept.Digest stored computed);
  other_time = λ state epoch time. refused.Kept (kept.Times state epoch time);
}

-- the first refusal of bytes as states at these times, one after the other from the first time on
abbrev pub states_refusal : List Plan → List ℕ → List ℕ → Option KeptStatesRefused
states_refusal plans times bytes = kept_refusal told (level_tests plans) times bytes

-- the packed states of the banks of each state
abbrev pub kept_stands_in : List Plan → List ℕ → List (List Stand)
kept_stands_in plans bytes = map (level_banks_in plans) (states_in (level_len plans) bytes)

-- these, or the first refusal
unfoldable pub kept_decoded : List Plan → List ℕ → List ℕ → Result (List (List Stand)) KeptStatesRefused
kept_decoded plans times bytes = unless (states_refusal plans times bytes) (kept_stands_in plans bytes)

-- the bytes of the states that packed states stand for
abbrev pub stands_kept : List Plan → List (List Stand) → List ℕ
stands_kept plans states = kept_encoding (map (stands_encoding plans) states)

-- the bytes are those of kept states, or the checkpoint of one state
abbrev pub AreBytesOf : List Plan → List (List Stand) → List ℕ → Type 0
AreBytesOf plans states bytes =
    (bytes ≡ stands_kept plans states) ⊎ ((stands : List Stand) × (states ≡ stands ∷ []) × (bytes ≡ stands_encoding plans stands))

-- of states at the first of the times, which packed states stand for that fit
pub record AreKeptStates (plans : List Plan) (times bytes : List ℕ) (states : List (List Stand)) : Type 0 where
  pub some : 1 ≤ length states
  pub few : length states ≤ length times
  pub fit : (j : ℕ) → j < length states → BanksFit (time_at times j) plans (slice_index_or states j [])
  pub bytes_are : AreBytesOf plans states bytes
