use Rattle.std.proofs.Common.{◌≡◌, Ok, Err, List, map, sym, ap, ◌∙◌, subst}
use Rattle.std.specs.Arc.{arc_value}
use Rattle.plane_sweep.specs.declared.stand.Stand.{Stand}
use Rattle.run_checkpoint.specs.BankDecoding.{banks_decoded, AreEncoded}
use Rattle.run_checkpoint.specs.BankEncoding.{BanksStand}
use Rattle.run_checkpoint.specs.declared.refused.CheckpointRefused.TheVariants as checkpoint
use Rattle.scalar_rule.specs.Plan.{Plan}
use Rattle.glass_main.proofs.BankStands.{banks-resume, banks-refused}
use Rattle.glass_main.proofs.Resumed.{refusal-ends}
use Rattle.glass_main.specs.ManyBanks.{PlannedBanks, banks_resumed_by}
use Rattle.glass_main.specs.Resumes.{Unresumed}
use Rattle.glass_main.specs.declared.ending.Ending.{Ending}
use Rattle.glass_main.proofs.bank_resuming.decode.Goals as goal

pub returns-in-Ok-clause-read : goal.returns-in-Ok-clause-read
returns-in-Ok-clause-read c =
    let planned = c.args.planned.now in
    let bytes = c.args.bytes.now in
    let stands = c.in-Ok.stands.items in
    let same = ap (map arc_value) c.deref.ensures.value ∙ ap (λ (p : PlannedBanks). p.plans) c.planned.view_is in
    let S : List Plan → Type 0 = λ ps. AreEncoded ps c.args.until bytes stands in
    let E : List Plan → Type 0 = λ ps. banks_decoded ps c.args.until bytes ≡ Ok stands in
    let r = banks-resume planned c.args.until bytes stands (subst S same c.in-Ok.ensures.found) (subst E same c.in-Ok.ensures.exact) in
    let P : List Stand → Type 0 = λ xs. BanksStand planned.plans r.0 xs in
    (r.0, r.1, subst P (sym c.of.ensures) r.2)

pub returns-in-Err-clause-read : goal.returns-in-Err-clause-read
returns-in-Err-clause-read c =
    let planned = c.args.planned.now in
    let bytes = c.args.bytes.now in
    let e = c.in-Err.refused in
    let same = ap (map arc_value) c.deref.ensures.value ∙ ap (λ (p : PlannedBanks). p.plans) c.planned.view_is in
    let E : List Plan → Type 0 = λ ps. ¬ (e ≡ checkpoint.NoMemory) → banks_decoded ps c.args.until bytes ≡ Err e in
    let U : Ending → Type 0 = λ ending. Unresumed (banks_resumed_by planned c.args.until bytes) ending in
    subst U (sym c.ending_of.ensures) (refusal-ends (banks_resumed_by planned c.args.until bytes) e (banks-refused planned c.args.until bytes e (subst E same c.in-Err.ensures.exact.1)))
