use Rattle.std.proofs.Common.{rules, arith, ◌≡◌, ◌<◌, SFits, w64, to_z, of_z, length, ◌∙◌, ap, ap₂}
use Rattle.std.proofs.lemmas.Int.{to_z-of_z}
use Rattle.glass_edges.proofs.Writing.{writes-none, writes-more, writes-stopped, writes-same}
use Rattle.report_text.specs.Lines.{slot_line}
use Rattle.glass_engine.specs.RecordPieces.{piece}
use Rattle.glass_engine.specs.Summary.{both_energies, slot_sums}
use Rattle.plane_sweep.specs.Uneven.{uneven_part}
use Rattle.scalar_rule.specs.Plan.{slots_of}
use Rattle.spin_model.proofs.Joined.{joined-zero, joined-more, joined-at}
use Rattle.spin_model.specs.SignedSums.{sum_of}
use Rattle.glass_engine.proofs.Summaries.{away-read}
use Rattle.glass_engine.proofs.summary.put_slots.Goals as goal
use Rattle.glass_engine.proofs.summary.put_slots.Goals.{After-away_count-away}

-- the line of a slot is that of its sums
read : (g : _) (c : After-away_count-away g) → slot_line c.slots.slot (to_z w64 (of_z w64 c.slot_energy-energy.result)) c.away_count-away.result
    ≡ slot_sums (λ b. piece c.args.records.now (slots_of c.args.plan.now) b) (λ b. (uneven_part c.args.plan.now.size b c.args.stand.now).slots) c.slots.slot
read g c =
    let below : c.slots.slot < length c.args.stand.now.slots = omega (arith, c.slots-test.true, c.slots-slots.ensures.value, c.requires.slots) in
    let away = away-read c.args.plan.now.size c.slots.slot c.args.stand.now c.at.result.now below c.at.ensures in
    let wide = ap (λ n. sum_of (λ b. both_energies (piece c.args.records.now n b) c.slots.slot) 64) c.slots-slots.ensures.value in
    let fits : SFits w64 c.slot_energy-energy.result = search rules in
    ap₂ (slot_line c.slots.slot) (to_z-of_z w64 c.slot_energy-energy.result fits ∙ c.slot_energy-energy.ensures ∙ wide) (c.away_count-away.ensures ∙ away)

pub slots-init : goal.slots-init
slots-init g c = writes-none (joined-zero _ _)

pub slots-preserved : goal.slots-preserved
slots-preserved g c =
    let at = (goal.at.slots-preserved g c).After-away_count-away in
    writes-more c.slots.invariant (writes-same (read g at) c.in_ok-slot_line.ensures) (joined-more _ _ c.slots.slot)

pub returns-in_err-slot_line : goal.returns-in_err-slot_line
returns-in_err-slot_line g c =
    let at = (goal.at.returns-in_err-slot_line g c).After-away_count-away in
    writes-stopped _ c.from_residual.ensures.0 c.slots.invariant (writes-same (read g at) c.in_err-slot_line.ensures)
    (joined-at _ _ c.slots.slot _ (omega (arith, c.slots-test.true, c.slots-slots.ensures.value)))
