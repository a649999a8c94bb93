-- The text of the sums over a run of several banks: sample b is sample b mod 64 of bank b div 64.
use Rattle.std.specs.Prelude.{ℕ, ◌/◌, ◌%◌, List, [], ◌∷◌, slice_index_or}
use Rattle.scalar_rule.specs.Plan.{Plan, slots_of}
use Rattle.scalar_rule.specs.declared.sample.Sample.{Sample}
use Rattle.measured_sums.specs.SumsText.{Heading, sums_text, run_sums}

-- bank 0 stands where there is no such bank
abbrev pub plan_in : Plan → List Plan → ℕ → Plan
plan_in plan plans b = slice_index_or (plan ∷ plans) (b / 64) plan

abbrev pub start_in : (ℕ → Sample) → List (ℕ → Sample) → ℕ → Sample
start_in start starts b = slice_index_or (start ∷ starts) (b / 64) start (b % 64)

-- what the first line says
abbrev pub heading_from : Plan → ℕ → List ℕ → ℕ → ℕ → ℕ → List ℕ → Heading
heading_from plan samples rule every from to digest =
    record { size = plan.size; slots = slots_of plan; samples = samples; rule = rule; every = every; from = from; to = to; digest = digest }

-- the text over the first samples, to epoch `until`: the rule's word and the digest stand in the first line
unfoldable pub measure_text : List Plan → List (ℕ → Sample) → ℕ → List ℕ → List ℕ → ℕ → ℕ → List ℕ
measure_text [] starts samples rule digest every until = []
measure_text (plan ∷ plans) [] samples rule digest every until = []
measure_text (plan ∷ plans) (start ∷ starts) samples rule digest every until =
    sums_text (heading_from plan samples rule every (start 0).epoch until digest) (run_sums (plan_in plan plans) (start_in start starts) every until)
