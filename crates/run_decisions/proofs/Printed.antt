-- The numbers of a report are measured in what its decisions make of the starting state.
use Rattle.std.proofs.Common.{◌≡◌, ℕ, ◌+◌, ◌-◌, ◌<◌, ap, ◌∙◌}
use Rattle.coupling_set.specs.CouplingWords.{bonds_of}
use Rattle.finite_chance.specs.Chains.{after}
use Rattle.scalar_rule.specs.Plan.{Plan, slots_of, IsLawfulPlan}
use Rattle.scalar_rule.specs.Sums.{energy, overlap}
use Rattle.scalar_rule.specs.Serial.{serial}
use Rattle.scalar_rule.specs.Records.{record_at, measured_from}
use Rattle.scalar_rule.specs.Shape.{Fits}
use Rattle.scalar_rule.specs.declared.sample.Sample.{Sample}
use Rattle.scalar_rule.proofs.Resuming.{epochs-bit}
use Rattle.run_decisions.specs.Decisions.{decide, spins_at, swept_state, state_of, measured_decisions, drawn}
use Rattle.run_decisions.specs.Runs.{IsMeasuredIn}
use Rattle.run_decisions.proofs.Records.{records-are}
use Rattle.run_decisions.proofs.Runs.{swept-are-decisions}

pub printed-are : (plan : Plan) (start : ℕ → Sample) (b n t : ℕ) → IsLawfulPlan plan → Fits plan (start b) → t < slots_of plan
    → IsMeasuredIn plan (start b).bit
    (after (decide plan (start b).bit) (measured_decisions plan (start b).epoch n) (drawn plan (start b) (measured_decisions plan (start b).epoch n)) (state_of plan (start b)))
    t (record_at (measured_from plan start b ((start b).epoch + n)) t)
printed-are plan start b n t lawful fits below =
    let s = start b in
    let now = serial plan s (s.epoch + n) in
    let here = records-are plan now t below in
    let bit : now.bit ≡ s.bit = epochs-bit plan s.epoch (s.epoch + n - s.epoch) s in
    let state = swept-are-decisions plan s n lawful fits in
    let other = slots_of plan + t in
    record {
      first = here.first ∙ ap (λ c. energy plan.size (bonds_of plan.couplings c) (spins_at (swept_state plan now) t)) bit ∙ ap (λ x. energy plan.size (bonds_of plan.couplings s.bit) (spins_at x t)) state;
      second = here.second ∙ ap (λ c. energy plan.size (bonds_of plan.couplings c) (spins_at (swept_state plan now) other)) bit ∙ ap (λ x. energy plan.size (bonds_of plan.couplings s.bit) (spins_at x other)) state;
      overlap = here.overlap ∙ ap (λ x. overlap plan.size (spins_at x t) (spins_at x other)) state;
    }
