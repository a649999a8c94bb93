-- The packed state that a run begins with stands for the states that its samples begin with.
use Rattle.std.proofs.Common.{◌≡◌, ℕ, ◌*◌, ◌<◌, List, [], map, length, get_or, replicate, sym, ap, subst, ◌∙◌, arith}
use Rattle.std.proofs.lemmas.List.{length-replicate, get_or-replicate}
use Rattle.spin_model.specs.Lattice.{IsLawfulSize}
use Rattle.spin_model.specs.Steps.{table}
use Rattle.spin_model.proofs.Tables.{get_or-table}
use Rattle.scalar_rule.specs.Opening.{start_spins, seeded_words, opening_copy, opening_slot, opening_pair, opening}
use Rattle.scalar_rule.specs.Plan.{Plan, slots_of, pairs_of}
use Rattle.scalar_rule.specs.declared.sample.Start.{Start}
use Rattle.scalar_rule.specs.declared.sample.PlainSlot.{PlainSlot}
use Rattle.scalar_rule.specs.declared.sample.Sample.{Sample}
use Rattle.scalar_rule.proofs.OpeningShapes.{length-start_spins}
use Rattle.plane_sweep.specs.Packed.{generators_of, spins_of, part_copy, part_slot, part_pair, part, StandsFor, PermutesLabels, FitsPlane, FitsDuo, ArePairGenerators, StandFits}
use Rattle.plane_sweep.specs.Beginnings.{Each, BeginsPlane, BeginsReplica, BeginsDuo, BeginsPair}
use Rattle.plane_sweep.specs.declared.replica.Plane.{Plane}
use Rattle.plane_sweep.specs.declared.replica.Replica.{Replica}
use Rattle.plane_sweep.specs.declared.replica.Duo.{Duo}
use Rattle.plane_sweep.specs.declared.stand.PairWheels.{PairWheels}
use Rattle.plane_sweep.proofs.Empties.{no_plane, no_duo, no_slot, no_wheels, no_pair}
use Rattle.plane_sweep.proofs.Gathering.{all-each, map-each}
use Rattle.plane_sweep.proofs.PartSpins.{spins_of-planes}
use Rattle.plane_sweep.proofs.Labels.{permutes-same}

part_copy-begins : (plan : Plan) (start : Start) (bank slot r b : ℕ) (planes : List Plane) (labels : List ℕ) → IsLawfulSize plan.size → b < 64
    → Each (BeginsPlane plan start bank slot r) (2 * plan.size) planes → labels ≡ replicate 64 slot
    → part_copy plan.size b (record { planes = planes; labels = labels }) ≡ opening_copy plan start bank b slot r
part_copy-begins plan start bank slot r b planes labels lawful below items same =
    let l = plan.size in
    let spins : spins_of l b planes ≡ start_spins plan start bank b slot r =
    spins_of-planes l b planes (start_spins plan start bank b slot r) lawful (length-start_spins plan start bank b slot r)
    (λ k j chosen within. (items.each k no_plane chosen).spins b j below within) in
    let wheels : generators_of planes ≡ seeded_words l plan.seed slot r =
    map-each (BeginsPlane plan start bank slot r) (λ (plane : Plane). plane.wheel) _ no_plane [] (2 * l) planes items (λ k x chosen begins. begins.generator) in
    let label : get_or labels b 0 ≡ slot = ap (λ xs. get_or xs b 0) same ∙ get_or-replicate 64 b slot 0 below in
    cc

pub begins-replica : (plan : Plan) (start : Start) (bank slot r : ℕ) (planes : List Plane) (labels : List ℕ) → IsLawfulSize plan.size
    → Each (BeginsPlane plan start bank slot r) (2 * plan.size) planes → labels ≡ replicate 64 slot
    → BeginsReplica plan start bank slot r (record { planes = planes; labels = labels })
begins-replica plan start bank slot r planes labels lawful items same = record {
  fits = record {
    count = items.sized;
    planes = all-each (BeginsPlane plan start bank slot r) (FitsPlane plan.size) (2 * plan.size) planes items (λ k x chosen begins. begins.fits);
    labels = ap length same ∙ length-replicate 64 slot;
  };
  parts = λ b below. part_copy-begins plan start bank slot r b planes labels lawful below items same;
}

pub begins-duo : (plan : Plan) (start : Start) (bank slot : ℕ) (first second : Replica) → BeginsReplica plan start bank slot 0 first → BeginsReplica plan start bank slot 1 second
    → BeginsDuo plan start bank slot (record { first = first; second = second })
begins-duo plan start bank slot first second one two = record {
  fits = record { first = one.fits; second = two.fits };
  parts = λ b below. let e = one.parts b below in let f = two.parts b below in cc;
}

pub begins-stand : (plan : Plan) (start : Start) (bank : ℕ) (slots : List Duo) (pairs : List PairWheels)
    → Each (BeginsDuo plan start bank) (slots_of plan) slots → Each (BeginsPair plan bank) (pairs_of plan) pairs
    → StandsFor plan (opening plan start bank) (record { epoch = 0; slots = slots; pairs = pairs })
unfolding part
begins-stand plan start bank slots pairs all_slots all_pairs b below =
    let l = plan.size in
    let duos : map (part_slot l b) slots ≡ table (opening_slot plan start bank b) (slots_of plan) =
    map-each (BeginsDuo plan start bank) (part_slot l b) _ no_duo no_slot (slots_of plan) slots all_slots (λ k x chosen begins. begins.parts b below) in
    let wheels : map part_pair pairs ≡ table (opening_pair plan bank) (pairs_of plan) =
    map-each (BeginsPair plan bank) part_pair _ no_wheels no_pair (pairs_of plan) pairs all_pairs (λ k x chosen begins. begins.parts) in
    cc

pub opening-labels : (plan : Plan) (start : Start) (bank b : ℕ) → PermutesLabels plan (opening plan start bank b)
opening-labels plan start bank b =
    let n = slots_of plan in
    record {
      first = permutes-same n _ (λ t within. ap (λ (s : PlainSlot). s.first.replica) (get_or-table (opening_slot plan start bank b) n t _ within));
      second = permutes-same n _ (λ t within. ap (λ (s : PlainSlot). s.second.replica) (get_or-table (opening_slot plan start bank b) n t _ within));
    }

pub beginning-fits : (plan : Plan) (start : Start) (bank : ℕ) (slots : List Duo) (pairs : List PairWheels)
    → Each (BeginsDuo plan start bank) (slots_of plan) slots → Each (BeginsPair plan bank) (pairs_of plan) pairs
    → StandFits plan (record { epoch = 0; slots = slots; pairs = pairs })
beginning-fits plan start bank slots pairs all_slots all_pairs = record {
  epoch = omega arith;
  slots = all_slots.sized;
  each_slot = all-each (BeginsDuo plan start bank) (FitsDuo plan.size) (slots_of plan) slots all_slots (λ k x chosen begins. begins.fits);
  pairs = all_pairs.sized;
  each_pair = all-each (BeginsPair plan bank) ArePairGenerators (pairs_of plan) pairs all_pairs (λ k x chosen begins. begins.fits);
  labels = λ b below.
      let P : Sample → Type 0 = λ s. PermutesLabels plan s in
      subst P (sym (begins-stand plan start bank slots pairs all_slots all_pairs b below)) (opening-labels plan start bank b);
}
