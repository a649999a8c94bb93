-- One slot more.
use Rattle.std.proofs.Common.{ap, ◌∙◌, drop, ◌*◌, arith}
use Rattle.run_checkpoint.specs.Lengths.{slot_len}
use Rattle.run_checkpoint.specs.Reading.{slot_in, slots_in}
use Rattle.run_checkpoint.specs.Unfilled.{HasReplicas}
use Rattle.run_checkpoint.proofs.Items.{filled-none, filled-more, filled-next, filled-all}
use Rattle.run_checkpoint.proofs.reading.fill_slots.Goals as goal

pub slots-init : goal.slots-init
slots-init c = filled-none _ _

pub fill_slot-requires-clause-room : goal.fill_slot-requires-clause-room
fill_slot-requires-clause-room c =
    let count = c.requires.count in
    filled-next (HasReplicas c.args.size) _ c.slots.t c.args.slots.now c.slots.slots c.at_mut.result.now c.requires.rooms (omega arith) c.slots.invariant c.at_mut.ensures.value

pub slots-preserved : goal.slots-preserved
slots-preserved c =
    let count = c.requires.count in
    filled-more (λ i. slot_in c.args.size (drop (slot_len c.args.size * i) c.args.bytes.now)) c.slots.t c.args.slots.now c.slots.slots c.fill_slot.new.slot (omega arith) c.slots.invariant
    (c.fill_slot.ensures ∙ ap (slot_in c.args.size) (c.behind.ensures.value ∙ ap (λ n. drop (n * c.slots.t) c.args.bytes.now) c.slot_len-len.ensures.value))

pub returns : goal.returns
unfolding slots_in
returns c = filled-all _ c.slots.t c.args.count c.args.slots.now c.slots.slots c.slots.invariant c.requires.count (omega arith)
