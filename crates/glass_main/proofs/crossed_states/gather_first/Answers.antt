use Rattle.std.proofs.Common.{rules, ◌≡◌, Err, map}
use Rattle.std.specs.Arc.{arc_value}
use Rattle.run_checkpoint.specs.declared.refused.CheckpointRefused.TheVariants as checkpoint
use Rattle.glass_main.specs.CrossRun.{states_decoded}
use Rattle.glass_main.specs.declared.role.Role.TheVariants.{Checkpoint}
use Rattle.glass_main.proofs.CrossedStates.{first-refused, states-cause}
use Rattle.glass_main.proofs.ReadBytes.{has-bytes}
use Rattle.glass_main.proofs.crossed_states.gather_first.Goals as goal

pub returns : goal.returns
returns g c =
    let plans = map arc_value c.args.plans.now in
    let bytes = c.as_slice.result.now in
    let e = c.in-Err.refused in
    let refusal : ¬ (e ≡ checkpoint.NoMemory) = search rules in
    let due : states_decoded plans bytes ≡ Err e = c.in-Err.ensures.exact.1 refusal in
    record {
      asked = first-refused plans c.args.name.now bytes e _ _ (search rules) (states-cause plans bytes e refusal due) due (search rules) (search rules) (search rules) (search rules);
      states = (plans, bytes, due);
      fit = tt;
      bytes = tt;
    }

pub returns-in-Ok-clause-bytes : goal.returns-in-Ok-clause-bytes
returns-in-Ok-clause-bytes g c =
    has-bytes Checkpoint c.args.name.now (g.H.Shelf.holds c.args.shelf.now) c.in_ok-bytes.bytes c.in_ok-bytes.ensures.asked.found c.in_ok-bytes.ensures.bytes
