-- The sweeps of the program are those of a plan's slot and sample.
use Rattle.std.proofs.Common.{◌≡◌, ℕ, ap, ◌∙◌}
use Rattle.coupling_set.specs.CouplingWords.{CouplingsView, bonds_of}
use Rattle.threshold_table.specs.Tables.{rule_of, thresholds_of}
use Rattle.scalar_rule.specs.Plan.{Plan, dynamics_of}
use Rattle.scalar_rule.specs.Replica.{configuration_of, with_configuration}
use Rattle.scalar_rule.specs.SlotRules.{dynamics_with, HasThresholds}
use Rattle.scalar_rule.specs.Sweep.{Configuration, half_sweep, sweep, sweeps}
use Rattle.scalar_rule.specs.declared.plain_copy.PlainCopy.{PlainCopy}
use Rattle.threshold_table.specs.declared.rule_table.SlotRule.{SlotRule}
use Rattle.scalar_rule.proofs.SameThresholds.{dynamics, half_sweep-same, sweep-same, sweeps-same}

-- a slot's rule and a sample's couplings, read from the plan
pub record IsRead (plan : Plan) (b slot l bit : ℕ) (rule : SlotRule) (couplings : CouplingsView) : Type 0 where
  pub side : l ≡ plan.size
  pub sample : bit ≡ b
  pub thresholds : HasThresholds plan.rules slot rule
  pub signs : couplings ≡ plan.couplings

dynamics_with-read : (plan : Plan) (b slot l bit : ℕ) (rule : SlotRule) (couplings : CouplingsView) → IsRead plan b slot l bit rule couplings
    → dynamics_with l rule (bonds_of couplings bit) ≡ dynamics plan.size (rule_of plan.rules.kind) (bonds_of plan.couplings b) rule.row.values
dynamics_with-read plan b slot l bit rule couplings r =
    ap (λ n. dynamics n (rule_of rule.kind) (bonds_of couplings bit) rule.row.values) r.side
    ∙ ap (λ k. dynamics plan.size (rule_of k) (bonds_of couplings bit) rule.row.values) r.thresholds.kind
    ∙ ap (λ (j : CouplingsView). dynamics plan.size (rule_of plan.rules.kind) (bonds_of j bit) rule.row.values) r.signs
    ∙ ap (λ n. dynamics plan.size (rule_of plan.rules.kind) (bonds_of plan.couplings n) rule.row.values) r.sample

pub half_sweep-read : (plan : Plan) (b slot l bit : ℕ) (rule : SlotRule) (couplings : CouplingsView) (c : ℕ) (s : Configuration) → IsRead plan b slot l bit rule couplings
    → half_sweep (dynamics_with l rule (bonds_of couplings bit)) c s ≡ half_sweep (dynamics_of plan b slot) c s
half_sweep-read plan b slot l bit rule couplings c s r =
    ap (λ d. half_sweep d c s) (dynamics_with-read plan b slot l bit rule couplings r)
    ∙ half_sweep-same plan.size (rule_of plan.rules.kind) (bonds_of plan.couplings b) rule.row.values (thresholds_of plan.rules slot) c s r.thresholds.cases

pub sweep-read : (plan : Plan) (b slot l bit : ℕ) (rule : SlotRule) (couplings : CouplingsView) (s : Configuration) → IsRead plan b slot l bit rule couplings
    → sweep (dynamics_with l rule (bonds_of couplings bit)) s ≡ sweep (dynamics_of plan b slot) s
sweep-read plan b slot l bit rule couplings s r =
    ap (λ d. sweep d s) (dynamics_with-read plan b slot l bit rule couplings r)
    ∙ sweep-same plan.size (rule_of plan.rules.kind) (bonds_of plan.couplings b) rule.row.values (thresholds_of plan.rules slot) s r.thresholds.cases

pub sweeps-read : (plan : Plan) (b slot l bit : ℕ) (rule : SlotRule) (couplings : CouplingsView) (n : ℕ) (s : Configuration) → IsRead plan b slot l bit rule couplings
    → sweeps (dynamics_with l rule (bonds_of couplings bit)) n s ≡ sweeps (dynamics_of plan b slot) n s
sweeps-read plan b slot l bit rule couplings n s r =
    ap (λ d. sweeps d n s) (dynamics_with-read plan b slot l bit rule couplings r)
    ∙ sweeps-same plan.size (rule_of plan.rules.kind) (bonds_of plan.couplings b) rule.row.values (thresholds_of plan.rules slot) n s r.thresholds.cases

-- a replica by its configuration and its label
pub with_configuration-is : (new old : PlainCopy) (s : Configuration) → configuration_of new ≡ s → new.replica ≡ old.replica → new ≡ with_configuration old s
with_configuration-is new old s moved label =
    ap (λ (t : Configuration). with_configuration new t) moved ∙ ap (λ n. with_configuration (record { spins = old.spins; wheels = old.wheels; replica = n }) s) label
