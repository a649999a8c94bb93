use Rattle.std.proofs.Common.{◌≡◌, ◌≢◌, List, ap, sym, ◌∙◌, subst}
use Rattle.std.specs.Prelude.{All}
use Rattle.glass_edges.specs.Contents.{appended, AppendsPrefix}
use Rattle.glass_engine.specs.Runs.{RunView}
use Rattle.glass_engine.specs.declared.run.SaveKind.TheVariants as saves
use Rattle.glass_main.specs.Outside.{Output, Store, output, store}
use Rattle.command_words.specs.ReadCommand.{name_bytes}
use Rattle.glass_main.specs.Statuses.{IsGiven}
use Rattle.glass_main.proofs.Finished.{all-done, gives-weaker, saved-as}
use Rattle.glass_main.proofs.finishing.finish.Goals as goal

pub save_run-requires-clause-saved : goal.save_run-requires-clause-saved
save_run-requires-clause-saved g c = λ named.
    let A : List RunView → Type 0 = λ runs. All (λ (run : RunView). run.saves ≢ saves.Never) runs in
    all-done c.drive-done.result (λ (run : RunView). run.saves ≢ saves.Never) (subst A (sym c.drive-done.ensures.run) (c.requires.ready.saved named))

pub returns-in-Err-clause-wrote : goal.returns-in-Err-clause-wrote
returns-in-Err-clause-wrote g c = λ work are.
    let does = are c.drive-done.result c.drive-done.ensures.run c.drive-done.ensures.ended in
    gives-weaker work _ (λ text bytes. AppendsPrefix (g.O.Sink.taken c.args.out.now) (g.O.Sink.taken c.print_report.new.out) text)
    (λ text bytes is. subst (AppendsPrefix (g.O.Sink.taken c.args.out.now) (g.O.Sink.taken c.print_report.new.out)) is.0 c.in-Err.ensures.prefix) does

-- what is given is named, since it would be found with the store and the output written out
pub returns-in-Ok-save_run-clause-wrote : goal.returns-in-Ok-save_run-clause-wrote
returns-in-Ok-save_run-clause-wrote g c = λ work are.
    let does = are c.drive-done.result c.drive-done.ensures.run c.drive-done.ensures.ended in
    let name = name_bytes c.args.order.now.save in
    let held : Store = store g.H.Shelf c.args.shelf.now in
    let holds : Store = store g.H.Shelf c.save_run.new.shelf in
    let before : Output = output g.O.Sink c.args.out.now in
    let now : Output = output g.O.Sink c.print_report.new.out in
    gives-weaker work _ (IsGiven name held holds before now)
    (λ text bytes is. (c.in-Ok.ensures.whole ∙ ap (appended before.taken) is.0, saved-as name held holds _ bytes is.1 c.in-Ok-save_run.ensures.placed)) does

pub returns-clause-ending : goal.returns-clause-ending
returns-clause-ending g c = c.in-Err-save_run.ensures.named

pub returns-clause-wrote : goal.returns-clause-wrote
returns-clause-wrote g c = λ work are.
    let does = are c.drive-done.result c.drive-done.ensures.run c.drive-done.ensures.ended in
    gives-weaker work _ (λ text bytes. g.O.Sink.taken c.print_report.new.out ≡ appended (g.O.Sink.taken c.args.out.now) text)
    (λ text bytes is. c.in-Ok.ensures.whole ∙ ap (appended (g.O.Sink.taken c.args.out.now)) is.0) does
