-- Two-time overlaps on a lattice of side 2 with made-up words, computed from the definition. The values are from a program
-- apart from this repository, which updates one spin at a time.
use Rattle.std.proofs.Common.{◌≡◌, ◌+◌, ◌*◌, ◌%◌, ◌^◌, [], ◌∷◌, refl}
use Rattle.std.specs.Prelude.{map, pos, ◌-ℤ◌}
use Rattle.spin_model.specs.Words.{is_set}
use Rattle.spin_model.specs.Steps.{steps, table, count_below}
use Rattle.spin_model.specs.Stream.{advanced}
use Rattle.spin_model.specs.Lattice.{forward, backward}
use Rattle.spin_model.specs.SiteRule.{HeatBath}
use Rattle.scalar_rule.specs.Neighbours.{aligned, satisfied}
use Rattle.scalar_rule.specs.Sweep.{Dynamics, visit}
use Rattle.scalar_rule.specs.declared.plain_copy.PlainCopy.{PlainCopy}
use Rattle.aging_run.specs.Aging.{two_time_overlap}

-- heat bath, with couplings of which some are -1
abbrev heat : Dynamics
heat = record {
  size = 2;
  rule = HeatBath;
  thresholds = 429496729 ∷ 858993459 ∷ 1288490188 ∷ 2147483648 ∷ 3006477107 ∷ 3435973836 ∷ 3865470566 ∷ [];
  bonds = λ n. is_set ((11 * n * n + 5 * n) % 4) 1;
}

-- made-up spins and generators
abbrev replica : PlainCopy
replica = record {
  spins = table (λ i. is_set 287 i) 8;
  wheels = table (λ k. table (λ n. (n + 1) * (123456789 + 1000003 * (10 + k)) % 2 ^ 32) 61) 4;
  replica = 0;
}

pub from_the_quench : map (λ t. two_time_overlap heat 0 t replica) (0 ∷ 1 ∷ 3 ∷ []) ≡ pos 8 ∷ pos 2 ∷ pos 2 ∷ []
unfolding two_time_overlap steps table count_below advanced forward backward aligned satisfied visit
from_the_quench = refl

pub after_one_sweep : map (λ t. two_time_overlap heat 1 t replica) (0 ∷ 1 ∷ 3 ∷ []) ≡ pos 8 ∷ pos 4 ∷ (pos 0 -ℤ pos 6) ∷ []
unfolding two_time_overlap steps table count_below advanced forward backward aligned satisfied visit
after_one_sweep = refl
