-- The sweeps of one place alone.
use Rattle.std.proofs.Common.{◌≡◌, ◌≢◌, ℕ, ◌+◌, ◌*◌, ◌<◌, [], length, get_or, set, refl, ap, sym, ◌∙◌, arith}
use Rattle.std.specs.Prelude.{All}
use Rattle.std.specs.List.{AllPairs}
use Rattle.std.proofs.lemmas.List.{get_or-set_same}
use Rattle.std.proofs.lemmas.List.Elements.{All-weaker}
use Rattle.spin_model.specs.Stream.{draw}
use Rattle.spin_model.specs.Lattice.{colour, z_of, half_plane, place_in_plane}
use Rattle.spin_model.proofs.Tables.{length-table}
use Rattle.finite_chance.specs.Chains.{after}
use Rattle.scalar_rule.specs.Plan.{Plan, dynamics_of, IsLawfulPlan}
use Rattle.scalar_rule.specs.Replica.{configuration_of}
use Rattle.scalar_rule.specs.Sweep.{sweeps}
use Rattle.scalar_rule.specs.Shape.{Fits}
use Rattle.scalar_rule.specs.declared.sample.Sample.{Sample}
use Rattle.run_decisions.specs.Decisions.{IsDecisionOf, places_of, slot_of, copy_at, state_of, spins_at, decide, address_of, words_of, draw_at, drawn, sweeps_decisions}
use Rattle.run_decisions.proofs.Places.{placed-same}
use Rattle.run_decisions.proofs.Swept.{RunningDraws, sweeps-decided}
use Rattle.run_decisions.proofs.Runs.{copy-fits}
use Rattle.run_decisions.proofs.Distinct.{IsUpdateIn, sweeps-all, sweeps-pairs}
use Rattle.run_decisions.proofs.Lawful.{update-lawful}

running : (plan : Plan) (s : Sample) (n p : ℕ) → RunningDraws plan p 0 n (λ d. draw_at plan s (address_of plan s.bit d)) (copy_at plan s p).wheels
unfolding address_of words_of
running plan s n p = λ j i below inside.
    ap (draw (get_or (copy_at plan s p).wheels (colour plan.size i * plan.size + z_of plan.size i) []))
    (let e : (0 + j) * half_plane plan.size + place_in_plane plan.size i ≡ j * half_plane plan.size + place_in_plane plan.size i = omega arith in e)

alone : (plan : Plan) (s : Sample) (n p : ℕ) → IsLawfulPlan plan → Fits plan s → p < places_of plan
    → (sweeps (dynamics_of plan s.bit (slot_of plan p)) n (configuration_of (copy_at plan s p))).spins
    ≡ spins_at (after (decide plan s.bit) (sweeps_decisions plan 0 n p) (drawn plan s (sweeps_decisions plan 0 n p)) (state_of plan s)) p
alone plan s n p lawful fits below =
    let c = configuration_of (copy_at plan s p) in
    let state = state_of plan s in
    let spins = (sweeps (dynamics_of plan s.bit (slot_of plan p)) n c).spins in
    let long = length-table (λ k. (copy_at plan s k).spins) (places_of plan) in
    let inside : p < length state = omega arith in
    let same : set state p c.spins ≡ state = placed-same [] (λ k. (copy_at plan s k).spins) (λ k. (copy_at plan s k).spins) (places_of plan) p c.spins below refl (λ k within other. refl) in
    let go = after (decide plan s.bit) (sweeps_decisions plan 0 n p) (drawn plan s (sweeps_decisions plan 0 n p)) in
    sym (ap (λ x. spins_at (go x) p) (sym same)
    ∙ ap (λ x. spins_at x p) (sweeps-decided plan s.bit p 0 n (λ d. draw_at plan s (address_of plan s.bit d)) state c lawful.size inside (copy-fits plan s p fits below).wheels (running plan s n p))
    ∙ get_or-set_same state p spins [] inside)

pub alone-decided : (plan : Plan) (s : Sample) (n p : ℕ) → IsLawfulPlan plan → Fits plan s → p < places_of plan
    → ((sweeps (dynamics_of plan s.bit (slot_of plan p)) n (configuration_of (copy_at plan s p))).spins
    ≡ spins_at (after (decide plan s.bit) (sweeps_decisions plan 0 n p) (drawn plan s (sweeps_decisions plan 0 n p)) (state_of plan s)) p)
    × All (IsDecisionOf plan) (sweeps_decisions plan 0 n p)
    × AllPairs (λ d e. address_of plan s.bit d ≢ address_of plan s.bit e) (sweeps_decisions plan 0 n p)
alone-decided plan s n p lawful fits below = (
  alone plan s n p lawful fits below,
  All-weaker (IsUpdateIn plan 0 n p) (IsDecisionOf plan) (λ d h. update-lawful plan 0 n p d below h) (sweeps_decisions plan 0 n p) (sweeps-all plan 0 n p),
  sweeps-pairs plan s.bit 0 n p lawful.size,
)
