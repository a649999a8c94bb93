-- The state that a run begins with fits its plan.
use Rattle.std.proofs.Common.{◌≡◌, ℕ, ◌*◌, true, length, sym, subst}
use Rattle.std.proofs.lemmas.List.{length-replicate}
use Rattle.spin_model.specs.Lattice.{volume}
use Rattle.spin_model.specs.Steps.{table}
use Rattle.spin_model.proofs.Tables.{length-table, get_or-table}
use Rattle.scalar_rule.specs.Opening.{start_spins, opening_slot}
use Rattle.scalar_rule.specs.Plan.{Plan, slots_of}
use Rattle.scalar_rule.specs.Shape.{FitsSlot, FitSlots}
use Rattle.scalar_rule.specs.declared.sample.Start.{Start}
use Rattle.scalar_rule.specs.declared.sample.Start.TheVariants.{Up, Random}
use Rattle.scalar_rule.specs.declared.sample.PlainSlot.{PlainSlot}

pub length-start_spins : (plan : Plan) (start : Start) (bank b slot replica : ℕ) → length (start_spins plan start bank b slot replica) ≡ volume plan.size
unfolding start_spins
length-start_spins plan Up bank b slot replica = length-replicate (volume plan.size) true
length-start_spins plan Random bank b slot replica = length-table _ (volume plan.size)

opening_slot-fits : (plan : Plan) (start : Start) (bank b t : ℕ) → FitsSlot plan.size (opening_slot plan start bank b t)
opening_slot-fits plan start bank b t = record {
  first = record { spins = length-start_spins plan start bank b t 0; wheels = length-table _ (2 * plan.size) };
  second = record { spins = length-start_spins plan start bank b t 1; wheels = length-table _ (2 * plan.size) };
}

pub opening-fit : (plan : Plan) (start : Start) (bank b : ℕ) → FitSlots plan (table (opening_slot plan start bank b) (slots_of plan))
opening-fit plan start bank b =
    let f = opening_slot plan start bank b in
    let F : PlainSlot → Type 0 = λ s. FitsSlot plan.size s in
    record {
      count = length-table f (slots_of plan);
      each = λ t below. subst F (sym (get_or-table f (slots_of plan) t _ below)) (opening_slot-fits plan start bank b t);
    }
