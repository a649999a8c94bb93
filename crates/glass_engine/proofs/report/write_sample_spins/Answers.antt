use Rattle.std.proofs.Common.{arith, ◌≡◌, ℕ, ◌%◌, ◌<◌, length, get_or, ◌∙◌, ap, sym}
use Rattle.plane_sweep.specs.Packed.{part_slot}
use Rattle.plane_sweep.specs.Uneven.{uneven_part}
use Rattle.std.proofs.lemmas.List.{get_or-map}
use Rattle.plane_sweep.specs.declared.replica.Duo.{Duo}
use Rattle.plane_sweep.specs.declared.uneven.RaggedStand.{RaggedStand}
use Rattle.scalar_rule.specs.Epoch.{slot_at}
use Rattle.spin_model.proofs.Joined.{joined-zero, joined-more, joined-at}
use Rattle.glass_edges.proofs.Writing.{writes-none, writes-more, writes-stopped, writes-same}
use Rattle.glass_engine.specs.Report.{slot_spins}
use Rattle.glass_engine.proofs.report.write_sample_spins.Goals as goal
use Rattle.glass_engine.proofs.report.write_sample_spins.Goals.{After-at}

-- the spins of a slot that was read are those of the sample's slot
spins-read : (l size b m t : ℕ) (stand : RaggedStand) (duo : Duo) → l ≡ size → t < length stand.slots → duo ≡ get_or stand.slots t duo
    → slot_spins l b t (part_slot l m duo) ≡ slot_spins size b t (slot_at (uneven_part size m stand).slots t)
spins-read l size b m t stand duo same below is =
    ap (λ k. slot_spins k b t (part_slot k m duo)) same ∙ ap (slot_spins size b t) (sym (get_or-map (part_slot size m) stand.slots t duo _ below ∙ ap (part_slot size m) (sym is)))

pub slots-init : goal.slots-init
slots-init g c = writes-none (joined-zero _ _)

-- what is put is the slot's text
read : (g : _) (c : After-at g) → slot_spins c.lattice.result c.args.sample c.slots.slot (part_slot c.lattice.result (c.args.sample % 64) c.at.result.now)
    ≡ slot_spins c.args.plan.now.size c.args.sample c.slots.slot (slot_at (uneven_part c.args.plan.now.size (c.args.sample % 64) c.args.stand.now).slots c.slots.slot)
read g c =
    let below : c.slots.slot < length c.args.stand.now.slots = omega (arith, c.slots-test.true, c.slots-slot-end.ensures.value, c.requires.count) in
    spins-read _ _ c.args.sample (c.args.sample % 64) c.slots.slot c.args.stand.now c.at.result.now c.lattice.ensures.value below c.at.ensures

pub slots-preserved : goal.slots-preserved
slots-preserved g c =
    let at = (goal.at.slots-preserved g c).After-at in
    writes-more c.slots.invariant (writes-same (read g at) c.in_ok-write_slot_spins.ensures) (joined-more _ _ c.slots.slot)

pub returns-in_err-write_slot_spins : goal.returns-in_err-write_slot_spins
returns-in_err-write_slot_spins g c =
    let at = (goal.at.returns-in_err-write_slot_spins g c).After-at in
    writes-stopped _ c.from_residual.ensures.0 c.slots.invariant (writes-same (read g at) c.in_err-write_slot_spins.ensures)
    (joined-at _ _ c.slots.slot _ (omega (arith, c.slots-test.true, c.slots-slot-end.ensures.value)))
