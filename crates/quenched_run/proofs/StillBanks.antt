-- Packed slots and banks after sweeps without exchange.
use Rattle.std.proofs.Common.{◌≡◌, ℕ, ◌+◌, ◌-◌, ◌<◌, ◌≤◌, List, [], length, map, ap, refl, sym, subst, ◌∙◌, arith}
use Rattle.std.proofs.lemmas.List.{get_or-map, length-map}
use Rattle.spin_model.specs.Limits.{last_epoch}
use Rattle.spin_model.specs.Steps.{table}
use Rattle.spin_model.proofs.Tables.{get_or-table, table-of_items}
use Rattle.scalar_rule.specs.Epoch.{slot_at}
use Rattle.scalar_rule.specs.Plan.{Plan, slots_of}
use Rattle.scalar_rule.specs.declared.plain_copy.PlainCopy.{PlainCopy}
use Rattle.scalar_rule.specs.declared.sample.PlainSlot.{PlainSlot}
use Rattle.scalar_rule.specs.declared.sample.Sample.{Sample}
use Rattle.plane_sweep.specs.Packed.{part, part_pair, part_slot, FitsDuo, PermutesLabels, StandFits}
use Rattle.plane_sweep.specs.Storing.{Changed}
use Rattle.plane_sweep.specs.declared.replica.Duo.{Duo}
use Rattle.plane_sweep.specs.declared.replica.Replica.{Replica}
use Rattle.plane_sweep.specs.declared.stand.Stand.{Stand}
use Rattle.plane_sweep.proofs.Gathering.{all-changed}
use Rattle.plane_sweep.proofs.LabelSteps.{HaveSameLabels, same-labels, labels-then, permutes-kept}
use Rattle.quenched_states.specs.StillRule.{still, still_slot}
use Rattle.quenched_states.proofs.StillParts.{slot-more}
use Rattle.quenched_run.specs.Steps.{IsStillSlot, IsStill}

-- ---- a slot

pub slot-then : (plan : Plan) (n m t : ℕ) (old mid new : Duo) → IsStillSlot plan n t old mid → IsStillSlot plan m t mid new → IsStillSlot plan (n + m) t old new
slot-then plan n m t old mid new first second = record {
  swept = λ b small. second.swept b small ∙ ap (still_slot plan b t m) (first.swept b small) ∙ slot-more plan b t n m (part_slot plan.size b old);
  fits = second.fits;
}

-- ---- labels

still-labels : (plan : Plan) (b t n : ℕ) (x : PlainSlot) → HaveSameLabels (still_slot plan b t n x) x
unfolding still_slot
still-labels plan b t n x = record { first = refl; second = refl }

pub still-permutes : (plan : Plan) (s : Sample) (e : ℕ) → PermutesLabels plan s → PermutesLabels plan (still plan s e)
still-permutes plan s e permute =
    let n = slots_of plan in
    permutes-kept n (λ t. slot_at s.slots t) (λ t. slot_at (still plan s e).slots t) permute (λ t below.
    labels-then (slot_at (still plan s e).slots t) (still_slot plan s.bit t (e - s.epoch) (slot_at s.slots t)) (slot_at s.slots t)
    (same-labels _ _ (get_or-table (λ k. still_slot plan s.bit k (e - s.epoch) (slot_at s.slots k)) n t _ below))
    (still-labels plan s.bit t (e - s.epoch) (slot_at s.slots t)))

-- ---- a bank

no_copy : PlainCopy
no_copy = record { spins = []; wheels = []; replica = 0 }

no_slot : PlainSlot
no_slot = record { first = no_copy; second = no_copy }

no_replica : Replica
no_replica = record { planes = []; labels = [] }

no_duo : Duo
no_duo = record { first = no_replica; second = no_replica }

still-slots : (plan : Plan) (b n : ℕ) (old new : List Duo) → b < 64 → length old ≡ slots_of plan → Changed (IsStillSlot plan n) (slots_of plan) old new
    → map (part_slot plan.size b) new ≡ table (λ t. still_slot plan b t n (slot_at (map (part_slot plan.size b) old) t)) (slots_of plan)
still-slots plan b n old new small count swept =
    let p = part_slot plan.size b in
    table-of_items (λ t. still_slot plan b t n (slot_at (map p old) t)) (slots_of plan) no_slot (map p new) (length-map new p ∙ swept.sized ∙ count)
    (λ t below. get_or-map p new t no_duo no_slot (omega (arith, below, count, swept.sized))
    ∙ (swept.done t no_duo below).swept b small
    ∙ ap (still_slot plan b t n) (sym (get_or-map p old t no_duo _ (omega (arith, below, count)))))

pub bank-still : (plan : Plan) (time : ℕ) (old : Stand) (slots : List Duo) → StandFits plan old → time ≤ last_epoch
    → Changed (IsStillSlot plan (time - old.epoch)) (slots_of plan) old.slots slots
    → IsStill plan time old (record { epoch = time; slots = slots; pairs = old.pairs })
unfolding part
bank-still plan time old slots fits early swept =
    let new : Stand = record { epoch = time; slots = slots; pairs = old.pairs } in
    let states : (b : ℕ) → b < 64 → part plan.size b new ≡ still plan (part plan.size b old) time =
    λ b small. ap (λ (xs : List PlainSlot). let s : Sample = record { bit = b; epoch = time; slots = xs; pairs = map part_pair old.pairs } in s)
    (still-slots plan b (time - old.epoch) old.slots slots small fits.slots swept) in
    record {
      states = states;
      fits = record {
        epoch = omega (arith, early);
        slots = swept.sized ∙ fits.slots;
        each_slot = all-changed (IsStillSlot plan (time - old.epoch)) (FitsDuo plan.size) (slots_of plan) old.slots slots swept fits.slots (λ t x y below is. is.fits);
        pairs = fits.pairs;
        each_pair = fits.each_pair;
        labels = λ b small. subst (PermutesLabels plan) (sym (states b small)) (still-permutes plan (part plan.size b old) time (fits.labels b small));
      };
      epoch = refl;
    }
