use Rattle.std.proofs.Common.{◌≡◌, Ok, Err, List, map, sym, ap, ◌∙◌, subst}
use Rattle.std.specs.Arc.{arc_value}
use Rattle.plane_sweep.specs.declared.stand.Stand.{Stand}
use Rattle.run_checkpoint.specs.BankEncoding.{BanksStand}
use Rattle.run_checkpoint.specs.declared.refused.CheckpointRefused.TheVariants as checkpoint
use Rattle.scalar_rule.specs.Plan.{Plan}
use Rattle.glass_main.proofs.LevelStarts.{level-resume, level-refused, unresumed-level}
use Rattle.glass_main.proofs.Resumed.{refusal-ends}
use Rattle.glass_main.specs.Endings.{IsOfLevel}
use Rattle.glass_main.specs.KeptMeasure.{level_banks_decoded}
use Rattle.glass_main.specs.ManyBanks.{PlannedBanks}
use Rattle.glass_main.specs.MeasureRun.{level_resumed_by}
use Rattle.glass_main.specs.Resumes.{Unresumed, AreResumable, ending_of}
use Rattle.glass_main.specs.Statuses.{IfRefused}
use Rattle.glass_main.specs.declared.ending.Ending.{Ending}
use Rattle.glass_main.proofs.level_resuming.decode_level.Goals as goal

pub returns-in-Ok-clause-read : goal.returns-in-Ok-clause-read
returns-in-Ok-clause-read c =
    let planned = c.args.planned.now in
    let bytes = c.args.bytes.now in
    let stands = c.in-Ok.stands.items in
    let same = ap (map arc_value) c.deref.ensures.value ∙ ap (λ (p : PlannedBanks). p.plans) c.planned.view_is in
    let S : List Plan → Type 0 = λ ps. AreResumable ps c.args.until stands in
    let E : List Plan → Type 0 = λ ps. level_banks_decoded ps c.args.until bytes ≡ Ok stands in
    let r = level-resume planned c.args.until bytes stands (subst S same c.in-Ok.ensures.resumable) (subst E same c.in-Ok.ensures.exact) in
    let P : List Stand → Type 0 = λ xs. BanksStand planned.plans r.0 xs in
    (r.0, r.1, subst P (sym c.of.ensures) r.2)

pub returns-in-Err-clause-read : goal.returns-in-Err-clause-read
returns-in-Err-clause-read c =
    let planned = c.args.planned.now in
    let bytes = c.args.bytes.now in
    let e = c.in-Err.refused in
    let same = ap (map arc_value) c.deref.ensures.value ∙ ap (λ (p : PlannedBanks). p.plans) c.planned.view_is in
    let E : List Plan → Type 0 = λ ps. ¬ (e ≡ checkpoint.NoMemory) → level_banks_decoded ps c.args.until bytes ≡ Err e in
    let U : Ending → Type 0 = λ ending. Unresumed (level_resumed_by planned c.args.until bytes) ending in
    subst U (sym c.ending_of.ensures) (refusal-ends (level_resumed_by planned c.args.until bytes) e (level-refused planned c.args.until bytes e (subst E same c.in-Err.ensures.exact.1)))

pub returns-in-Err-clause-level : goal.returns-in-Err-clause-level
returns-in-Err-clause-level c =
    let planned = c.args.planned.now in
    let bytes = c.args.bytes.now in
    let e = c.in-Err.refused in
    let same = ap (map arc_value) c.deref.ensures.value ∙ ap (λ (p : PlannedBanks). p.plans) c.planned.view_is in
    let E : List Plan → Type 0 = λ ps. ¬ (e ≡ checkpoint.NoMemory) → level_banks_decoded ps c.args.until bytes ≡ Err e in
    let L : Ending → Type 0 = λ ending. IfRefused ending IsOfLevel in
    let asked = level_resumed_by planned c.args.until bytes in
    subst L (sym c.ending_of.ensures)
    (unresumed-level planned c.args.until bytes (ending_of e) (refusal-ends asked e (level-refused planned c.args.until bytes e (subst E same c.in-Err.ensures.exact.1))))
