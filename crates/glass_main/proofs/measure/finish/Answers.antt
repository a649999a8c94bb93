use Rattle.std.proofs.Common.{◌≡◌, ◌<◌, ℕ, List, length, map, sym, ap, ◌∙◌, subst, arith}
use Rattle.glass_edges.specs.Contents.{appended, AppendsPrefix}
use Rattle.measured_run.specs.Runs.{RunView, states_at}
use Rattle.run_checkpoint.specs.BankEncoding.{AreBanks, BanksStand}
use Rattle.scalar_rule.specs.Plan.{Plan}
use Rattle.scalar_rule.specs.declared.sample.Sample.{Sample}
use Rattle.command_words.specs.ReadCommand.{name_bytes}
use Rattle.glass_main.specs.ManyBanks.{banks_at}
use Rattle.glass_main.specs.MeasureRun.{measured_text}
use Rattle.glass_main.specs.Outside.{store}
use Rattle.glass_main.proofs.MeasuredRuns.{measured-fit, measured-saved}
use Rattle.glass_main.proofs.measure.finish.Goals as goal

pub returns-in-Err-clause-wrote : goal.returns-in-Err-clause-wrote
returns-in-Err-clause-wrote g c = λ starts packed.
    let planned = c.args.measured.planned in
    let run = c.args.measured.run in
    let is = c.drive-done.ensures.run in
    let P : List Plan → Type 0 = λ ps. BanksStand ps starts run.bases in
    let R : RunView → Type 0 = λ r. BanksStand planned.plans starts r.bases in
    let fit = measured-fit planned run starts c.requires.ready.plans (c.drive-done.ensures.fit starts (subst P (sym c.requires.ready.plans) packed)) in
    let text = c.in-Err.ensures.text starts (subst R (sym is) packed) in
    let T : RunView → Type 0 = λ r. AppendsPrefix (g.O.Sink.taken c.args.out.now) (g.O.Sink.taken c.put_sums.new.out) (measured_text planned starts r.until) in
    (fit, subst T is text.prefix)

pub returns-in-Ok-save_run-clause-wrote : goal.returns-in-Ok-save_run-clause-wrote
returns-in-Ok-save_run-clause-wrote g c = λ starts packed.
    let planned = c.args.measured.planned in
    let run = c.args.measured.run in
    let is = c.drive-done.ensures.run in
    let P : List Plan → Type 0 = λ ps. BanksStand ps starts run.bases in
    let R : RunView → Type 0 = λ r. BanksStand planned.plans starts r.bases in
    let fit = measured-fit planned run starts c.requires.ready.plans (c.drive-done.ensures.fit starts (subst P (sym c.requires.ready.plans) packed)) in
    let text = c.in-Ok.ensures.text starts (subst R (sym is) packed) in
    let T : RunView → Type 0 = λ r. g.O.Sink.taken c.put_sums.new.out ≡ appended (g.O.Sink.taken c.args.out.now) (measured_text planned starts r.until) in
    let saved = measured-saved planned run c.drive-done.result starts (name_bytes c.args.order.now.save) (store g.H.Shelf c.args.shelf.now) (store g.H.Shelf c.save_run.new.shelf)
    c.requires.ready.some c.requires.ready.plans is packed (c.in-Ok-save_run.ensures.placed starts) in
    (fit, (subst T is text.whole, saved))

pub returns-clause-wrote : goal.returns-clause-wrote
returns-clause-wrote g c = λ starts packed.
    let planned = c.args.measured.planned in
    let run = c.args.measured.run in
    let is = c.drive-done.ensures.run in
    let P : List Plan → Type 0 = λ ps. BanksStand ps starts run.bases in
    let R : RunView → Type 0 = λ r. BanksStand planned.plans starts r.bases in
    let fit = measured-fit planned run starts c.requires.ready.plans (c.drive-done.ensures.fit starts (subst P (sym c.requires.ready.plans) packed)) in
    let text = c.in-Ok.ensures.text starts (subst R (sym is) packed) in
    let T : RunView → Type 0 = λ r. g.O.Sink.taken c.put_sums.new.out ≡ appended (g.O.Sink.taken c.args.out.now) (measured_text planned starts r.until) in
    (fit, subst T is text.whole)
