use Rattle.std.proofs.Common.{◌≡◌, List, map, sym, ap, ◌∙◌, subst}
use Rattle.std.specs.Arc.{arc_value}
use Rattle.glass_edges.specs.Causes.{HasCause}
use Rattle.glass_edges.specs.Writes.{Writes}
use Rattle.hex.specs.Hex.{encode_lower}
use Rattle.measured_run.specs.Text.{measure_text}
use Rattle.run_checkpoint.specs.BankEncoding.{banks_parts, BanksStand}
use Rattle.run_plan.specs.CanonicalPlan.{banks_digest}
use Rattle.scalar_rule.specs.Plan.{Plan}
use Rattle.glass_main.specs.ManyBanks.{PlannedBanks}
use Rattle.glass_main.specs.MeasureRun.{measured_text, rule_word}
use Rattle.glass_main.proofs.MeasuredRuns.{some-starts}
use Rattle.glass_main.proofs.measure.put_sums.Goals as goal

pub returns-clause-text : goal.returns-clause-text
returns-clause-text g c = λ starts packed.
    let planned = c.args.planned.now in
    let done = c.args.done.now in
    let plans = ap (λ (p : PlannedBanks). p.plans) c.planned.view_is in
    let samples = ap (λ (p : PlannedBanks). p.orders.samples) c.planned.view_is in
    let rule = c.rule_of.ensures.word ∙ ap rule_word (ap (map arc_value) c.deref-2.ensures.value ∙ plans) in
    let digest = c.digits-digest.ensures ∙ ap encode_lower (c.digest_banks.ensures ∙ ap banks_digest (ap (map arc_value) c.deref.ensures.value ∙ plans)) in
    let B : List Plan → Type 0 = λ ps. BanksStand ps starts done.bases in
    let W = Writes g.O.Sink c.args.out.now c.write_text.new.out in
    subst (λ text. W text c.write_text.result)
    (λ i. measure_text (c.requires.plans i) starts (samples i) (rule i) (digest i) (c.requires.every i) done.until)
    (c.write_text.ensures starts (subst B (sym c.requires.plans) packed))

pub returns-clause-cause : goal.returns-clause-cause
returns-clause-cause g c =
    let planned = c.args.planned.now in
    let done = c.args.done.now in
    let starts = banks_parts planned.plans done.bases in
    let packed = some-starts planned.plans done.until done.bases c.requires.stands in
    let B : List Plan → Type 0 = λ ps. BanksStand ps starts done.bases in
    (c.write_text.ensures starts (subst B (sym c.requires.plans) packed)).cause
