use Rattle.std.specs.Prelude.{All, OnOk, ◌≢◌}
use Rattle.std.proofs.Common.{ap, sym, subst, ◌∙◌}
use Rattle.glass_edges.specs.Contents.{Placed}
use Rattle.glass_engine.specs.Runs.{DoneView}
use Rattle.glass_engine.specs.Saves.{end_checkpoint}
use Rattle.glass_engine.specs.declared.run.SaveKind.TheVariants as saves
use Rattle.glass_engine.proofs.Savings.{kept-kind}
use Rattle.glass_engine.proofs.placing.save.Goals as goal

pub returns-clause-placed : goal.returns-clause-placed
returns-clause-placed g c =
    let some = subst (All (λ (d : DoneView). d.run.saves ≢ saves.Never)) (sym c.done.view_is) c.requires.saves in
    let kind = kept-kind c.done.inside.banks.items c.done.inside.saving c.done.invariant.runs c.done.invariant.saving some in
    let text = c.bytes.ensures ∙ c.write.ensures.bytes kind ∙ ap end_checkpoint (c.deref.ensures.value ∙ c.done.view_is) in
    subst (λ bytes. OnOk c.place-placed.result (Placed (g.H.Shelf.holds c.args.shelf.now) (g.H.Shelf.holds c.place-placed.new.self) c.args.name.now bytes)) text c.place-placed.ensures.placed
