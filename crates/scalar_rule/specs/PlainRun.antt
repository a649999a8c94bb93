-- One replica of the ferromagnet under heat bath, from its start.
use Rattle.std.specs.Prelude.{ℕ, List}
use Rattle.spin_model.specs.Couplings.{Bonds, plus}
use Rattle.spin_model.specs.SiteRule.{HeatBath}
use Rattle.scalar_rule.specs.Opening.{all_up, seeded_words}
use Rattle.scalar_rule.specs.Sweep.{Dynamics, Configuration, sweeps}

-- heat bath at some thresholds, on a sample's couplings
abbrev pub heat_bath_on : ℕ → List ℕ → Bonds → Dynamics
heat_bath_on l thresholds bonds = record { size = l; rule = HeatBath; thresholds = thresholds; bonds = bonds }

-- replica 0 of slot 0 of the ferromagnet by heat bath, begun with every spin +1, after that many sweeps
abbrev pub plain_configuration : ℕ → ℕ → ℕ → List ℕ → Configuration
plain_configuration l count seed thresholds =
    sweeps (heat_bath_on l thresholds (plus 0)) count (record { spins = all_up l; words = seeded_words l seed 0 0 })
