use Rattle.std.proofs.Common.{ℕ, List, subst}
use Rattle.glass_main.specs.Beginnings.{IsBaseOf, resumed_by}
use Rattle.glass_main.specs.CheckpointBytes.{HasBytes}
use Rattle.glass_main.specs.Resumes.{Resumes}
use Rattle.glass_main.specs.declared.role.Role.TheVariants.{Checkpoint}
use Rattle.glass_main.proofs.ReadBytes.{has-bytes, ok-free}
use Rattle.glass_main.proofs.Resumed.{begins-read, begins-unread}
use Rattle.glass_main.proofs.resuming.gather_checkpoint.Goals as goal

pub returns-clause-asked : goal.returns-clause-asked
returns-clause-asked g c =
    let planned = c.args.planned.now in
    let R : List ℕ → Type 0 = λ bytes. Resumes (IsBaseOf planned.plan) (resumed_by planned c.args.until bytes) c.decode.result in
    begins-read (IsBaseOf planned.plan) (resumed_by planned c.args.until) c.args.name.now c.in-Ok.bytes c.decode.result _ _ c.in-Ok.ensures.asked (subst R c.as_slice.ensures c.decode.ensures.read)

pub returns-in-Err-clause-asked : goal.returns-in-Err-clause-asked
returns-in-Err-clause-asked g c =
    let planned = c.args.planned.now in
    begins-unread (IsBaseOf planned.plan) (resumed_by planned c.args.until) c.args.name.now _ _ _ c.in-Err.ensures.asked

pub returns-clause-bytes : goal.returns-clause-bytes
returns-clause-bytes g c =
    let name = c.args.name.now in
    let held = g.H.Shelf.holds c.args.shelf.now in
    ok-free c.decode.result (HasBytes held name) (has-bytes Checkpoint name held c.in-Ok.bytes c.in-Ok.ensures.asked.found c.in-Ok.ensures.bytes)
