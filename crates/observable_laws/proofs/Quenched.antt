-- Sums of a quench as lines and as two-time overlaps.
use Rattle.std.proofs.Common.{◌≡◌, ℕ, zero, suc, ◌+◌, ◌-◌, ◌*◌, ◌<◌, ◌≤◌, Bool, true, false, cond, List, [], refl, ap, ap₂, sym, ◌∙◌, arith}
use Rattle.std.specs.Prelude.{ℤ, pos, neg_ℤ, ◌*ℤ◌, ◌==◌}
use Rattle.spin_model.specs.SignedSums.{sum_of}
use Rattle.spin_model.specs.Steps.{steps}
use Rattle.spin_model.specs.Lattice.{volume, forward}
use Rattle.spin_model.proofs.Tables.{get_or-table}
use Rattle.scalar_rule.specs.Neighbours.{spin, agree}
use Rattle.scalar_rule.specs.Plan.{Plan, slots_of, dynamics_of}
use Rattle.scalar_rule.specs.Replica.{configuration_of}
use Rattle.scalar_rule.specs.Sums.{overlap}
use Rattle.scalar_rule.specs.Sweep.{sweeps}
use Rattle.scalar_rule.specs.Epoch.{slot_at}
use Rattle.scalar_rule.specs.declared.plain_copy.PlainCopy.{PlainCopy}
use Rattle.scalar_rule.specs.declared.sample.PlainSlot.{PlainSlot}
use Rattle.scalar_rule.specs.declared.sample.Sample.{Sample}
use Rattle.model_laws.specs.Energies.{sign}
use Rattle.measured_sums.specs.OverlapField.{site_overlap, total_overlap, steps_ahead, link_overlap, distance_correlation}
use Rattle.measured_sums.proofs.Planes.{total-overlap}
use Rattle.measured_sums.proofs.SignedTerms.{terms-same}
use Rattle.overlap_lines.specs.Overlaps.{steps_on, link_sum, line_sum}
use Rattle.aging_run.specs.Aging.{spins_after, two_time_overlap}
use Rattle.quenched_states.specs.StillRule.{still, still_slot}
use Rattle.quenched_states.specs.Copies.{copy_of, two_time_field}
use Rattle.observable_laws.specs.Observables.{overlap_value}
use Rattle.observable_laws.proofs.Products.{line-sum}
use Rattle.observable_laws.proofs.Grid.{links-shortest}

-- ---- lines

one-value : (x y : Bool) → cond (agree x y) (pos 1) (neg_ℤ (pos 1)) ≡ sign x *ℤ sign y
one-value true true = refl
one-value true false = refl
one-value false true = refl
one-value false false = refl

field-value : (first second : List Bool) (i : ℕ) → site_overlap first second i ≡ overlap_value first second i
field-value first second i = one-value (spin first i) (spin second i)

same-steps : (l i d r : ℕ) → steps_ahead l i d r ≡ steps_on l i d r
unfolding steps steps_on
same-steps l i d zero = refl
same-steps l i d (suc r) = ap (λ k. forward l k d) (same-steps l i d r)

pub distances-lines : (l : ℕ) (first second : List Bool) (r : ℕ) → distance_correlation l (site_overlap first second) r ≡ sum_of (λ d. line_sum l first second d r) 3
distances-lines l first second r = terms-same (λ d. sum_of (λ i. site_overlap first second i *ℤ site_overlap first second (steps_ahead l i d r)) (volume l)) (λ d. line_sum l first second d r) 3
    (λ d _. terms-same (λ i. site_overlap first second i *ℤ site_overlap first second (steps_ahead l i d r)) (λ i. overlap_value first second i *ℤ overlap_value first second (steps_on l i d r)) (volume l)
    (λ i _. ap₂ (λ x y. x *ℤ y) (field-value first second i) (field-value first second (steps_ahead l i d r) ∙ ap (overlap_value first second) (same-steps l i d r)))
    ∙ sym (line-sum l first second d r))

pub links-sums : (l : ℕ) (first second : List Bool) → link_overlap l (site_overlap first second) ≡ link_sum l first second
links-sums l first second = distances-lines l first second 1 ∙ sym (links-shortest l first second)

-- ---- two times

-- of the first copy or the second
either-spins : (plan : Plan) (b t n : ℕ) (slot : PlainSlot) (first : Bool)
    → (cond first (still_slot plan b t n slot).first (still_slot plan b t n slot).second).spins ≡ spins_after (dynamics_of plan b t) (plan.sweeps * n) (cond first slot.first slot.second)
unfolding still_slot
either-spins plan b t n slot true = refl
either-spins plan b t n slot false = refl

copy-spins : (plan : Plan) (b t n : ℕ) (slot : PlainSlot) (a : ℕ) → (copy_of (still_slot plan b t n slot) a).spins ≡ spins_after (dynamics_of plan b t) (plan.sweeps * n) (copy_of slot a)
copy-spins plan b t n slot a = either-spins plan b t n slot (a == 0)

pub two-times : (plan : Plan) (s : Sample) (i j t a : ℕ) → s.epoch ≤ i → i ≤ j → t < slots_of plan
    → total_overlap plan.size (two_time_field (slot_at (still plan s i).slots t) (slot_at (still plan s j).slots t) a)
    ≡ two_time_overlap (dynamics_of plan s.bit t) (plan.sweeps * (i - s.epoch)) (plan.sweeps * (j - i)) (copy_of (slot_at s.slots t) a)
unfolding two_time_overlap
two-times plan s i j t a from to below =
    let d = dynamics_of plan s.bit t in
    let copy = copy_of (slot_at s.slots t) a in
    let nothing : PlainCopy = record { spins = []; wheels = []; replica = 0 } in
    let empty : PlainSlot = record { first = nothing; second = nothing } in
    let at = λ (e : ℕ). ap (λ (slot : PlainSlot). (copy_of slot a).spins)
    (get_or-table (λ k. still_slot plan s.bit k (e - s.epoch) (slot_at s.slots k)) (slots_of plan) t empty below) ∙ copy-spins plan s.bit t (e - s.epoch) (slot_at s.slots t) a in
    let whole : plan.sweeps * (j - s.epoch) ≡ plan.sweeps * (i - s.epoch) + plan.sweeps * (j - i) =
    ap (λ n. plan.sweeps * n) (let parts : j - s.epoch ≡ i - s.epoch + (j - i) = omega arith in parts) ∙ omega arith in
    total-overlap plan.size (copy_of (slot_at (still plan s i).slots t) a).spins (copy_of (slot_at (still plan s j).slots t) a).spins
    ∙ ap₂ (overlap plan.size) (at i) (at j ∙ ap (λ n. spins_after d n copy) whole)
