use Rattle.quenched_states.proofs.StillParts.{one-slot-serial}
use Rattle.quenched_states.proofs.motion.one_slot_is_serial.Goals as goal

pub returns : goal.returns
returns c = one-slot-serial
