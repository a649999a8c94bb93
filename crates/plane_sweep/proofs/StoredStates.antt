-- A packed state after one sample is stored: that sample's part is it, and the others keep their spins and labels.
use Rattle.std.proofs.Common.{inl, inr, ◌≡◌, ◌≢◌, ℕ, ◌^◌, ◌<◌, List, map, length, sym, ap, subst, ◌∙◌, arith}
use Rattle.std.proofs.lemmas.Bool.{cases_eq}
use Rattle.std.proofs.lemmas.List.{length-map, get_or-map, same_lists, get_or_default}
use Rattle.spin_model.specs.Steps.{table}
use Rattle.spin_model.proofs.Tables.{table-of_items}
use Rattle.scalar_rule.specs.Epoch.{slot_at, pair_at}
use Rattle.scalar_rule.specs.Plan.{Plan, slots_of}
use Rattle.scalar_rule.specs.Shape.{Fits}
use Rattle.scalar_rule.specs.declared.sample.PlainPair.{PlainPair}
use Rattle.scalar_rule.specs.declared.sample.PlainSlot.{PlainSlot}
use Rattle.scalar_rule.specs.declared.sample.Sample.{Sample}
use Rattle.plane_sweep.specs.Packed.{part_slot, part_pair, part, PermutesLabels, FitsDuo, ArePairGenerators, StandFits}
use Rattle.plane_sweep.specs.Sharing.{sharing_slot, sharing}
use Rattle.plane_sweep.specs.Storing.{Changed, StoresDuo, StoresPair}
use Rattle.plane_sweep.specs.declared.replica.Duo.{Duo}
use Rattle.plane_sweep.specs.declared.stand.PairWheels.{PairWheels}
use Rattle.plane_sweep.specs.declared.stand.Stand.{Stand}
use Rattle.plane_sweep.proofs.Empties.{no_duo, no_wheels, no_slot, no_pair}
use Rattle.plane_sweep.proofs.Gathering.{all-changed}
use Rattle.plane_sweep.proofs.Labels.{sharing-labels}

-- the changes of all slots and all pairs
pub record StoresSample (plan : Plan) (sample : Sample) (old new : Stand) : Type 0 where
  pub epoch : new.epoch ≡ sample.epoch
  pub slots : Changed (λ t. StoresDuo plan.size sample.bit (slot_at sample.slots t)) (slots_of plan) old.slots new.slots
  pub pairs : Changed (λ k. StoresPair (pair_at sample.pairs k)) (length sample.pairs) old.pairs new.pairs

stored-pairs : (parts : List PlainPair) (old new : List PairWheels) → length old ≡ length parts → Changed (λ k. StoresPair (pair_at parts k)) (length parts) old new → map part_pair new ≡ parts
stored-pairs parts old new count stored =
    let long = stored.sized in
    same_lists (map part_pair new) parts (length-map new part_pair ∙ stored.sized ∙ count) (λ k d within.
    let known : length (map part_pair new) ≡ length parts = length-map new part_pair ∙ stored.sized ∙ count in
    get_or-map part_pair new k no_wheels d (omega arith)
    ∙ (stored.done k no_wheels (omega arith)).own
    ∙ get_or_default parts k no_pair d (omega arith))

own-slots : (l bit : ℕ) (parts : List PlainSlot) (old new : List Duo) → length old ≡ length parts → Changed (λ t. StoresDuo l bit (slot_at parts t)) (length parts) old new → map (part_slot l bit) new ≡ parts
own-slots l bit parts old new count stored =
    let long = stored.sized in
    same_lists (map (part_slot l bit) new) parts (length-map new (part_slot l bit) ∙ stored.sized ∙ count) (λ t d within.
    let known : length (map (part_slot l bit) new) ≡ length parts = length-map new (part_slot l bit) ∙ stored.sized ∙ count in
    get_or-map (part_slot l bit) new t no_duo d (omega arith)
    ∙ (stored.done t no_duo (omega arith)).own
    ∙ get_or_default parts t no_slot d (omega arith))

other-slots : (l bit b n : ℕ) (parts : List PlainSlot) (old new : List Duo) → b < 64 → b ≢ bit → length old ≡ n → Changed (λ t. StoresDuo l bit (slot_at parts t)) n old new
    → map (part_slot l b) new ≡ table (λ t. sharing_slot (slot_at parts t) (slot_at (map (part_slot l b) old) t)) (length (map (part_slot l b) old))
other-slots l bit b n parts old new below apart count stored =
    let long = stored.sized in
    let known : length (map (part_slot l b) old) ≡ n = length-map old (part_slot l b) ∙ count in
    table-of_items _ (length (map (part_slot l b) old)) no_slot (map (part_slot l b) new) (length-map new (part_slot l b) ∙ stored.sized ∙ sym (length-map old (part_slot l b))) (λ t within.
    get_or-map (part_slot l b) new t no_duo no_slot (omega arith)
    ∙ (stored.done t no_duo (omega arith)).others b below apart
    ∙ ap (sharing_slot (slot_at parts t)) (sym (get_or-map (part_slot l b) old t no_duo no_slot (omega arith))))

-- a sample from its parts
sample-made : (s : Sample) (epoch : ℕ) (slots : List PlainSlot) (pairs : List PlainPair) → epoch ≡ s.epoch → slots ≡ s.slots → pairs ≡ s.pairs
    → (let made : Sample = record { bit = s.bit; epoch = epoch; slots = slots; pairs = pairs } in made ≡ s)
sample-made s epoch slots pairs one two three =
    let F : ℕ → List PlainSlot → List PlainPair → Sample = λ e t p. record { bit = s.bit; epoch = e; slots = t; pairs = p } in
    ap (λ e. F e slots pairs) one ∙ ap (λ t. F s.epoch t pairs) two ∙ ap (F s.epoch s.slots) three

pub own-part : (plan : Plan) (sample : Sample) (old new : Stand) → StandFits plan old → Fits plan sample → StoresSample plan sample old new → part plan.size sample.bit new ≡ sample
unfolding part
own-part plan sample old new fits shape stored =
    let S : ℕ → Type 0 = λ n. Changed (λ t. StoresDuo plan.size sample.bit (slot_at sample.slots t)) n old.slots new.slots in
    sample-made sample _ _ _ stored.epoch
    (own-slots plan.size sample.bit sample.slots old.slots new.slots (fits.slots ∙ sym shape.slots.count) (subst S (sym shape.slots.count) stored.slots))
    (stored-pairs sample.pairs old.pairs new.pairs (fits.pairs ∙ sym shape.pairs) stored.pairs)

pub other-part : (plan : Plan) (sample : Sample) (b : ℕ) (old new : Stand) → StandFits plan old → Fits plan sample → StoresSample plan sample old new
    → b < 64 → b ≢ sample.bit → part plan.size b new ≡ sharing sample (part plan.size b old)
unfolding part
other-part plan sample b old new fits shape stored below apart =
    let l = plan.size in
    let slots = other-slots l sample.bit b (slots_of plan) sample.slots old.slots new.slots below apart fits.slots stored.slots in
    let pairs = stored-pairs sample.pairs old.pairs new.pairs (fits.pairs ∙ sym shape.pairs) stored.pairs in
    sample-made (sharing sample (part l b old)) _ _ _ stored.epoch slots pairs

part-count : (plan : Plan) (b : ℕ) (stand : Stand) → StandFits plan stand → length (part plan.size b stand).slots ≡ slots_of plan
unfolding part
part-count plan b stand fits = length-map stand.slots (part_slot plan.size b) ∙ fits.slots

stored-labels : (plan : Plan) (sample : Sample) (b : ℕ) (old new : Stand) → StandFits plan old → Fits plan sample → PermutesLabels plan sample → StoresSample plan sample old new
    → b < 64 → PermutesLabels plan (part plan.size b new)
stored-labels plan sample b old new fits shape labels stored below =
    let P : Sample → Type 0 = λ s. PermutesLabels plan s in
    elim (cases_eq b sample.bit) [
      | inl same ↦
          let Q : ℕ → Type 0 = λ n. PermutesLabels plan (part plan.size n new) in
          subst Q (sym same) (subst P (sym (own-part plan sample old new fits shape stored)) labels)
      | inr apart ↦
          subst P (sym (other-part plan sample b old new fits shape stored below apart))
          (sharing-labels plan sample (part plan.size b old) (part-count plan b old fits) (fits.labels b below))
    ]

pub stored-fits : (plan : Plan) (sample : Sample) (old new : Stand) → StandFits plan old → Fits plan sample → PermutesLabels plan sample → sample.epoch < 2 ^ 64 → StoresSample plan sample old new
    → StandFits plan new
stored-fits plan sample old new fits shape labels bounded stored = record {
  epoch = rw stored.epoch bounded;
  slots = stored.slots.sized ∙ fits.slots;
  each_slot = all-changed _ (FitsDuo plan.size) (slots_of plan) old.slots new.slots stored.slots fits.slots (λ t x y within made. made.fits);
  pairs = stored.pairs.sized ∙ fits.pairs;
  each_pair = all-changed _ ArePairGenerators (length sample.pairs) old.pairs new.pairs stored.pairs (fits.pairs ∙ sym shape.pairs) (λ k x y within made. made.fits);
  labels = λ b below. stored-labels plan sample b old new fits shape labels stored below;
}
