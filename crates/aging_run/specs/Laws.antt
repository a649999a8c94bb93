-- What holds of the text of an aging run under every plan.
use Rattle.std.specs.Prelude.{◌≡◌, ℕ, ◌≤◌, List}
use Rattle.plane_sweep.specs.Packed.{part, StandsFor}
use Rattle.plane_sweep.specs.declared.stand.Stand.{Stand}
use Rattle.scalar_rule.specs.Plan.{Plan}
use Rattle.scalar_rule.specs.declared.sample.Sample.{Sample}
use Rattle.aging_run.specs.Aging.{aging_text}

-- the text from a packed state is that from the states that it stands for
abbrev pub TextIsOfTheStates : Type 0
TextIsOfTheStates = (plan : Plan) (states : ℕ → Sample) (stand : Stand) (samples wait : ℕ) (times : List ℕ) → StandsFor plan states stand → samples ≤ 64
    → aging_text plan samples wait times (λ b. part plan.size b stand) ≡ aging_text plan samples wait times states
