-- The parts of a packed state that fits the plan are states that a run can start with.
use Rattle.std.proofs.Common.{arith, ◌≡◌, ℕ, ◌<◌, ◌^◌, List, All, map, length, get_or, sym, subst, refl}
use Rattle.std.proofs.lemmas.List.{length-map, get_or-map}
use Rattle.spin_model.specs.Words.{AreGeneratorWords}
use Rattle.scalar_rule.specs.Epoch.{slot_at, pair_at}
use Rattle.scalar_rule.specs.Plan.{Plan, slots_of, pairs_of}
use Rattle.scalar_rule.specs.declared.sample.PlainPair.{PlainPair}
use Rattle.scalar_rule.specs.declared.sample.PlainSlot.{PlainSlot}
use Rattle.plane_sweep.specs.Packed.{generators_of, part_slot, part_pair, part, FitsReplica, StandFits}
use Rattle.plane_sweep.specs.StartingStates.{HasGenerators, AreStartingStates}
use Rattle.plane_sweep.specs.declared.replica.Plane.{Plane}
use Rattle.plane_sweep.specs.declared.replica.Replica.{Replica}
use Rattle.plane_sweep.specs.declared.stand.Stand.{Stand}
use Rattle.plane_sweep.proofs.Empties.{no_plane, no_duo, no_wheels}
use Rattle.plane_sweep.proofs.SampleParts.{part-fits}
use Rattle.plane_sweep.proofs.SharedWords.{words-part}

wheels-fit : (l : ℕ) (replica : Replica) → FitsReplica l replica → All AreGeneratorWords (generators_of replica.planes)
wheels-fit l replica fits = λ k d h.
    let long = length-map replica.planes (λ (plane : Plane). plane.wheel) in
    let within : k < length replica.planes = omega arith in
    let G : List ℕ → Type 0 = λ words. AreGeneratorWords words in
    subst G (sym (get_or-map (λ (plane : Plane). plane.wheel) replica.planes k no_plane d within)) (fits.planes k no_plane within).generator

part-generators : (plan : Plan) (b : ℕ) (stand : Stand) → StandFits plan stand → HasGenerators plan (part plan.size b stand)
unfolding part
part-generators plan b stand fits =
    let l = plan.size in
    let slot : (t : ℕ) → t < slots_of plan → slot_at (map (part_slot l b) stand.slots) t ≡ part_slot l b (get_or stand.slots t no_duo) =
    λ t h. get_or-map (part_slot l b) stand.slots t no_duo _ (omega (arith, fits.slots)) in
    let pair : (k : ℕ) → k < pairs_of plan → pair_at (map part_pair stand.pairs) k ≡ part_pair (get_or stand.pairs k no_wheels) =
    λ k h. get_or-map part_pair stand.pairs k no_wheels _ (omega (arith, fits.pairs)) in
    let first : PlainSlot → Type 0 = λ s. All AreGeneratorWords s.first.wheels in
    let second : PlainSlot → Type 0 = λ s. All AreGeneratorWords s.second.wheels in
    let first_pair : PlainPair → Type 0 = λ p. AreGeneratorWords p.first in
    let second_pair : PlainPair → Type 0 = λ p. AreGeneratorWords p.second in
    record {
      first = λ t h. subst first (sym (slot t h)) (wheels-fit l _ (fits.each_slot t no_duo (omega (arith, fits.slots))).first);
      second = λ t h. subst second (sym (slot t h)) (wheels-fit l _ (fits.each_slot t no_duo (omega (arith, fits.slots))).second);
      first_exchange = λ k h. subst first_pair (sym (pair k h)) (fits.each_pair k no_wheels (omega (arith, fits.pairs))).first;
      second_exchange = λ k h. subst second_pair (sym (pair k h)) (fits.each_pair k no_wheels (omega (arith, fits.pairs))).second;
    }

pub part-bit : (l b : ℕ) (stand : Stand) → (part l b stand).bit ≡ b
unfolding part
part-bit l b stand = refl

part-epoch : (l b : ℕ) (stand : Stand) → (part l b stand).epoch ≡ stand.epoch
unfolding part
part-epoch l b stand = refl

pub parts-start : (plan : Plan) (stand : Stand) → StandFits plan stand → AreStartingStates plan (λ b. part plan.size b stand)
parts-start plan stand fits = record {
  bit = λ b h. part-bit plan.size b stand;
  fits = λ b h. part-fits plan b stand h fits;
  labels = λ b h. fits.labels b h;
  together = λ b h. words-part plan b 0 stand fits;
  epoch = subst (λ e. e < 2 ^ 64) (sym (part-epoch plan.size 0 stand)) fits.epoch;
  generators = part-generators plan 0 stand fits;
}
