-- The part of a sample in a packed state that fits a plan fits it too.
use Rattle.std.proofs.Common.{◌≡◌, ℕ, ◌<◌, List, map, length, get_or, sym, subst, ◌∙◌, arith}
use Rattle.std.proofs.lemmas.List.{length-map, get_or-map}
use Rattle.spin_model.specs.Lattice.{volume}
use Rattle.spin_model.proofs.Tables.{length-table}
use Rattle.scalar_rule.specs.Plan.{Plan}
use Rattle.scalar_rule.specs.Shape.{FitsSlot, Fits}
use Rattle.scalar_rule.specs.declared.sample.PlainPair.{PlainPair}
use Rattle.scalar_rule.specs.declared.sample.PlainSlot.{PlainSlot}
use Rattle.scalar_rule.specs.declared.sample.Sample.{Sample}
use Rattle.plane_sweep.specs.Packed.{spins_of, part_slot, part_pair, part, FitsDuo, StandFits}
use Rattle.plane_sweep.specs.declared.replica.Duo.{Duo}
use Rattle.plane_sweep.specs.declared.replica.Plane.{Plane}
use Rattle.plane_sweep.specs.declared.stand.Stand.{Stand}
use Rattle.plane_sweep.proofs.Empties.{no_duo}

pub part-made : (l b : ℕ) (stand : Stand) (slots : List PlainSlot) (pairs : List PlainPair) → slots ≡ map (part_slot l b) stand.slots → pairs ≡ map part_pair stand.pairs
    → (let s : Sample = record { bit = b; epoch = stand.epoch; slots = slots; pairs = pairs } in s ≡ part l b stand)
unfolding part
part-made l b stand slots pairs one two = cc

pub length-spins_of : (l b : ℕ) (planes : List Plane) → length (spins_of l b planes) ≡ volume l
unfolding spins_of
length-spins_of l b planes = length-table _ (volume l)

part_slot-fits : (l b : ℕ) (duo : Duo) → FitsDuo l duo → FitsSlot l (part_slot l b duo)
part_slot-fits l b duo fits = record {
  first = record { spins = length-spins_of l b duo.first.planes; wheels = length-map duo.first.planes _ ∙ fits.first.count };
  second = record { spins = length-spins_of l b duo.second.planes; wheels = length-map duo.second.planes _ ∙ fits.second.count };
}

pub part-fits : (plan : Plan) (b : ℕ) (stand : Stand) → b < 64 → StandFits plan stand → Fits plan (part plan.size b stand)
unfolding part
part-fits plan b stand below fits =
    let count = fits.slots in
    let F : PlainSlot → Type 0 = λ s. FitsSlot plan.size s in
    record {
      sample = below;
      slots = record {
        count = length-map stand.slots (part_slot plan.size b) ∙ fits.slots;
        each = λ t within.
            subst F (sym (get_or-map (part_slot plan.size b) stand.slots t no_duo _ (omega arith)))
            (part_slot-fits plan.size b (get_or stand.slots t no_duo) (fits.each_slot t no_duo (omega arith)));
      };
      pairs = length-map stand.pairs part_pair ∙ fits.pairs;
    }
