-- The serial dynamics of one disorder sample: epoch after epoch.
use Rattle.std.specs.Prelude.{ℕ, ◌-◌}
use Rattle.spin_model.specs.Steps.{steps}
use Rattle.scalar_rule.specs.Plan.{Plan}
use Rattle.scalar_rule.specs.Epoch.{epoch}
use Rattle.scalar_rule.specs.declared.sample.Sample.{Sample}

-- a state, after epochs until e are done
abbrev pub serial : Plan → Sample → ℕ → Sample
serial plan s e = steps (λ _ t. epoch plan t) s.epoch (e - s.epoch) s
