use Rattle.std.specs.Arc.{arc_value}
use Rattle.std.proofs.Common.{map, ap, ◌∙◌}
use Rattle.kept_states.proofs.Written.{all-kept}
use Rattle.quenched_states.specs.KeptBytes.{kept_header}
use Rattle.kept_states.proofs.save_room.SaveRoom.write.Goals as goal

pub returns : goal.returns
returns c =
    all-kept (map arc_value c.args.plans.now) c.args.states c.begin.new.self.bytes c.put_states.new.kept.bytes c.end.new.self.bytes (c.begin.ensures.bytes ∙ ap kept_header c.len.ensures)
    c.put_states.ensures.bytes c.end.ensures.bytes
