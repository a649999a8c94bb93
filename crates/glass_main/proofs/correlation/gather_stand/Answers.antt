use Rattle.std.proofs.Common.{rules, ◌≡◌, Err}
use Rattle.run_checkpoint.specs.Decoding.{decoded}
use Rattle.run_checkpoint.specs.declared.refused.CheckpointRefused.TheVariants as checkpoint
use Rattle.glass_main.specs.declared.role.Role.TheVariants.{Checkpoint}
use Rattle.glass_main.proofs.ReadBytes.{has-bytes}
use Rattle.glass_main.proofs.SavedStates.{decoded-cause, stand-refused}
use Rattle.glass_main.proofs.correlation.gather_stand.Goals as goal

pub returns : goal.returns
returns g c =
    let plan = c.args.plan.now in
    let bytes = c.as_slice.result.now in
    let e = c.in-Err.refused in
    let refusal : ¬ (e ≡ checkpoint.NoMemory) = search rules in
    let due : decoded plan 1000000000 bytes ≡ Err e = c.in-Err.ensures.exact.1 refusal in
    let cause = decoded-cause plan bytes e refusal due in
    record {
      asked = stand-refused plan c.args.name.now bytes e _ _ (search rules) cause.0 due (search rules) (search rules) (search rules) (search rules);
      level = cause.1;
      fits = tt;
      bytes = tt;
    }

pub returns-in-Ok-clause-bytes : goal.returns-in-Ok-clause-bytes
returns-in-Ok-clause-bytes g c =
    has-bytes Checkpoint c.args.name.now (g.H.Shelf.holds c.args.shelf.now) c.in_ok-bytes.bytes c.in_ok-bytes.ensures.asked.found c.in_ok-bytes.ensures.bytes
