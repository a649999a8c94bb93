-- The byte at the place is the label.
use Rattle.run_checkpoint.proofs.LabelPlaces.{label-at, label-within}
use Rattle.run_checkpoint.proofs.labels.label.Goals as goal

pub bounds-bytes-slot_len : goal.bounds-bytes-slot_len
bounds-bytes-slot_len c =
    rw (c.slot_len.ensures.value, c.replica_place-replica.ensures.value)
    (label-within c.args.size c.args.slots c.args.place.slot c.args.place.copy c.args.place.sample _ c.requires.slot c.requires.sample c.requires.len)

pub returns : goal.returns
returns c =
    rw (c.slot_len.ensures.value, c.replica_place-replica.ensures.value)
    (label-at c.args.size c.args.slots c.args.place.slot c.args.place.copy c.args.place.sample c.args.bytes.now c.requires.slot c.requires.sample)
