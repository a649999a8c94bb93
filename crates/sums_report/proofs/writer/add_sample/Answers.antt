-- The slot that is read is the one that is held.
use Rattle.std.proofs.Common.{◌/◌, ◌++◌, ap, arith}
use Rattle.glass_edges.proofs.Writing.{fronts-none, fronts-more, fronts-stopped, fronts-same}
use Rattle.spin_model.proofs.Joined.{joined-zero, joined-more, joined-at}
use Rattle.measured_sums.specs.SumsText.{slot_sums}
use Rattle.plane_sums.specs.Bins.{SumsView}
use Rattle.sums_report.specs.HeldSums.{heading_of, sums_of_slot}
use Rattle.sums_report.proofs.HeldTexts.{slot-read}
use Rattle.sums_report.proofs.writer.add_sample.Goals as goal

pub slots-init : goal.slots-init
slots-init g c = fronts-none (joined-zero _ _)

pub slots-preserved : goal.slots-preserved
slots-preserved g c =
    let h = heading_of c.args.head.now in
    let read = slot-read h c.args.banks.now c.index-banks-sample.result c.at.result.now (c.args.sample / 64) c.slots.slot c.requires.held
    (omega (arith, c.requires.held.samples, c.requires.sample)) c.slots-test.true c.index-banks-sample.is c.at.ensures in
    let same = ap (λ (s : SumsView). c.slots.line ++ slot_sums h (λ _ _. sums_of_slot s c.args.sample) c.args.sample c.slots.slot) read in
    fronts-more _ _ _ c.slots.invariant (fronts-same same c.in_ok-add_slot.ensures) (joined-more _ _ c.slots.slot)

pub returns-in_err-add_slot : goal.returns-in_err-add_slot
returns-in_err-add_slot g c =
    let h = heading_of c.args.head.now in
    let read = slot-read h c.args.banks.now c.index-banks-sample.result c.at.result.now (c.args.sample / 64) c.slots.slot c.requires.held
    (omega (arith, c.requires.held.samples, c.requires.sample)) c.slots-test.true c.index-banks-sample.is c.at.ensures in
    let same = ap (λ (s : SumsView). c.slots.line ++ slot_sums h (λ _ _. sums_of_slot s c.args.sample) c.args.sample c.slots.slot) read in
    fronts-stopped _ _ _ _ c.from_residual.ensures.0 c.slots.invariant (fronts-same same c.in_err-add_slot.ensures) (joined-at _ _ c.slots.slot _ c.slots-test.true)
