-- What the steps of the reader say: for proofs alone.
use Rattle.std.specs.Prelude.{◌≡◌, ℕ, ◌==◌, if◌then◌else◌, List, ◌++◌, map, length, drop, Option, Some, None, option_map, Result}
use Rattle.glass_edges.specs.Refusals.{or_else, first_found, unless}
use Rattle.kept_frame.specs.declared.refused.KeptRefused.{KeptRefused}
use Rattle.kept_frame.specs.declared.refused.KeptRefused.TheVariants as kept
use Rattle.kept_states.specs.KeptReading.{level_tests, told, kept_stands_in}
use Rattle.kept_states.specs.Levels.{level_len, level_banks_in, stands_at}
use Rattle.kept_states.specs.declared.refused.KeptStatesRefused.{KeptStatesRefused}
use Rattle.plane_sweep.specs.declared.stand.Stand.{Stand}
use Rattle.quenched_states.specs.KeptStates.{time_at}
use Rattle.quenched_states.specs.KeptTests.{are_kept, frame_refusal, state_refusal, states_in}
use Rattle.scalar_rule.specs.Plan.{Plan}

-- the tests before that of the times
abbrev pub untimed_refusal : List Plan → ℕ → List ℕ → Option KeptStatesRefused
untimed_refusal plans most bytes =
    or_else (if are_kept bytes then frame_refusal told (level_len plans) most bytes else None) (state_refusal (level_tests plans) (states_in (level_len plans) bytes))

unfoldable pub untimed_decoded : List Plan → ℕ → List ℕ → Result (List (List Stand)) KeptStatesRefused
untimed_decoded plans most bytes = unless (untimed_refusal plans most bytes) (kept_stands_in plans bytes)

-- states by their own tests alone
unfoldable pub states_decoded : List Plan → List (List ℕ) → Result (List (List Stand)) KeptStatesRefused
states_decoded plans states = unless (state_refusal (level_tests plans) states) (map (level_banks_in plans) states)

-- one state
unfoldable pub state_decoded : List Plan → List ℕ → Result (List Stand) KeptStatesRefused
state_decoded plans bytes = unless ((level_tests plans).refuses bytes) (level_banks_in plans bytes)

-- packed states, of which one isn't at its time
unfoldable pub other_time_at : List ℕ → ℕ → List Stand → Option KeptRefused
other_time_at times j stands = if stands_at stands == time_at times j then None else Some (kept.Times j (stands_at stands) (time_at times j))

abbrev pub other_time : List ℕ → List (List Stand) → Option KeptRefused
other_time times states = first_found (other_time_at times) 0 states

-- of found states the first j are read
pub record AreReadTo (plans : List Plan) (found : List (List ℕ)) (j : ℕ) (states : List (List Stand)) : Type 0 where
  pub count : length states ≡ j
  pub passed : first_found (λ (k : ℕ) (state : List ℕ). (level_tests plans).refuses state) j (drop j found) ≡ state_refusal (level_tests plans) found
  pub read : states ++ map (level_banks_in plans) (drop j found) ≡ map (level_banks_in plans) found
