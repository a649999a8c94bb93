-- Sweeps with thresholds that agree case by case are the same.
use Rattle.std.proofs.Common.{◌≡◌, ℕ, ◌+◌, ◌-◌, Bool, not, ◌||◌, cond, ◌==◌, nat_le, nat_lt, List, get_or, set, ap, ◌∙◌}
use Rattle.spin_model.specs.Couplings.{Bonds}
use Rattle.spin_model.specs.Lattice.{volume, colour}
use Rattle.spin_model.specs.SiteRule.{Rule, HeatBath, Metropolis, new_spin}
use Rattle.spin_model.specs.Steps.{steps}
use Rattle.spin_model.proofs.Stepping.{steps-same}
use Rattle.scalar_rule.specs.Neighbours.{spin, aligned, satisfied}
use Rattle.scalar_rule.specs.Sweep.{Dynamics, Configuration, visit, site_draw, plane_drawn, half_sweep, sweep, sweeps}

-- a rule with thresholds
abbrev pub dynamics : ℕ → Rule → Bonds → List ℕ → Dynamics
dynamics l rule bonds thresholds = record { size = l; rule = rule; thresholds = thresholds; bonds = bonds }

abbrev pub AgreeByCase : List ℕ → List ℕ → Type 0
AgreeByCase ts us = (k : ℕ) → get_or ts k 0 ≡ get_or us k 0

new_spin-same : (rule : Rule) (ts us : List ℕ) (a s u : ℕ) (old : Bool) → AgreeByCase ts us → new_spin rule ts a s u old ≡ new_spin rule us a s u old
new_spin-same HeatBath ts us a s u old same = ap (λ t. nat_lt u t) (same a)
new_spin-same Metropolis ts us a s u old same = ap (λ t. cond (nat_le s 3 || nat_lt u t) (not old) old) (same (s - 4))

visit-same : (l : ℕ) (rule : Rule) (bonds : Bonds) (ts us : List ℕ) (draw_at : ℕ → ℕ) (c i : ℕ) (t : List Bool) → AgreeByCase ts us
    → visit (dynamics l rule bonds ts) draw_at c i t ≡ visit (dynamics l rule bonds us) draw_at c i t
unfolding visit
visit-same l rule bonds ts us draw_at c i t same =
    ap (λ v. cond (colour l i == c) (set t i v) t) (new_spin-same rule ts us (aligned l bonds t i) (satisfied l bonds t i) (draw_at i) (spin t i) same)

pub half_sweep-same : (l : ℕ) (rule : Rule) (bonds : Bonds) (ts us : List ℕ) (c : ℕ) (s : Configuration) → AgreeByCase ts us
    → half_sweep (dynamics l rule bonds ts) c s ≡ half_sweep (dynamics l rule bonds us) c s
half_sweep-same l rule bonds ts us c s same =
    let spins = steps-same (visit (dynamics l rule bonds ts) (site_draw l s.words) c) (visit (dynamics l rule bonds us) (site_draw l s.words) c) 0 (volume l) s.spins (λ k t below. visit-same l rule bonds ts us (site_draw l s.words) c (0 + k) t same) in
    ap (λ (xs : List Bool). record { spins = xs; words = steps (plane_drawn l c) 0 l s.words }) spins

pub sweep-same : (l : ℕ) (rule : Rule) (bonds : Bonds) (ts us : List ℕ) (s : Configuration) → AgreeByCase ts us
    → sweep (dynamics l rule bonds ts) s ≡ sweep (dynamics l rule bonds us) s
sweep-same l rule bonds ts us s same =
    half_sweep-same l rule bonds ts us 1 (half_sweep (dynamics l rule bonds ts) 0 s) same
    ∙ ap (half_sweep (dynamics l rule bonds us) 1) (half_sweep-same l rule bonds ts us 0 s same)

pub sweeps-same : (l : ℕ) (rule : Rule) (bonds : Bonds) (ts us : List ℕ) (n : ℕ) (s : Configuration) → AgreeByCase ts us
    → sweeps (dynamics l rule bonds ts) n s ≡ sweeps (dynamics l rule bonds us) n s
sweeps-same l rule bonds ts us n s same = steps-same _ _ 0 n s (λ k t below. sweep-same l rule bonds ts us t same)
