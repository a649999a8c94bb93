use Rattle.std.proofs.Common.{◌≡◌, ℕ, subst, arith}
use Rattle.std.proofs.lemmas.List.{get_or_read}
use Rattle.scalar_rule.specs.Epoch.{slot_at}
use Rattle.scalar_rule.specs.Plan.{slots_of}
use Rattle.scalar_rule.specs.declared.sample.PlainSlot.{PlainSlot}
use Rattle.plane_sweep.specs.Storing.{Changed, StoresDuo}
use Rattle.plane_sweep.proofs.Empties.{no_slot}
use Rattle.plane_sweep.proofs.Gathering.{changed-none, changed-more}
use Rattle.plane_sweep.proofs.storing.store_slots.Goals as goal

pub slots-init : goal.slots-init
slots-init c = changed-none _ _

pub slots-preserved : goal.slots-preserved
slots-preserved c =
    let count = c.requires.count in
    let parts = c.requires.parts.count in
    let read : c.at.result.now ≡ slot_at c.args.parts.now c.slots.t = get_or_read c.args.parts.now c.slots.t c.at.result.now (omega arith) c.at.ensures no_slot in
    let L : ℕ → Type 0 = λ l. StoresDuo l c.args.sample c.at.result.now c.at_mut.result.now c.store_slot.new.slot in
    let S : PlainSlot → Type 0 = λ s. StoresDuo c.args.plan.now.size c.args.sample s c.at_mut.result.now c.store_slot.new.slot in
    changed-more _ c.slots.t c.args.slots.now c.slots.slots c.at_mut.result.now c.store_slot.new.slot c.slots.invariant (omega arith) c.at_mut.ensures.value
    (subst S read (subst L c.lattice-lattice.ensures.value c.store_slot.ensures))

pub returns : goal.returns
returns c =
    let count = c.requires.count in
    let whole : c.slots.t ≡ slots_of c.args.plan.now = omega arith in
    let S : ℕ → Type 0 = λ n. Changed (λ t. StoresDuo c.args.plan.now.size c.args.sample (slot_at c.args.parts.now t)) n c.args.slots.now c.slots.slots in
    subst S whole c.slots.invariant
