use Rattle.std.proofs.Common.{arith, Global, ◌≡◌, length, List, map, [], ◌∷◌, sym, subst, ap, Result, ◌∙◌}
use Rattle.std.specs.Prelude.{IfOk}
use Rattle.std.specs.Arc.{arc_value}
use Rattle.std.specs.declared.vec.Vec.{Vec}
use Rattle.std.proofs.lemmas.List.{length-map}
use Rattle.std.proofs.lemmas.Bool.{eqb-true, eqb-false}
use Rattle.glass_edges.specs.Refusals.{GivesAfterTests}
use Rattle.plane_sweep.specs.declared.stand.Stand.{Stand}
use Rattle.run_checkpoint.specs.declared.refused.CheckpointRefused.{CheckpointRefused}
use Rattle.run_checkpoint.specs.declared.refused.CheckpointRefused.TheVariants as checkpoint
use Rattle.scalar_rule.specs.Plan.{Plan}
use Rattle.glass_main.specs.KeptMeasure.{level_banks_decoded}
use Rattle.glass_main.specs.Resumes.{AreResumable}
use Rattle.glass_main.proofs.LevelStarts.{only-one, several-read}
use Rattle.glass_main.proofs.level_resuming.stands_in.Goals as goal

pub returns-then-plans-eq1-clause-exact : goal.returns-then-plans-eq1-clause-exact
returns-then-plans-eq1-clause-exact c =
    let alone = ap (λ p. p ∷ []) c.deref.ensures ∙ only-one arc_value c.args.plans.now c.index-plans-0.result c.if-plans-eq1.true c.index-plans-0.is in
    let G : List Plan → Type 0 = λ ps. GivesAfterTests {A = Vec Stand Global} {B = List Stand} checkpoint.NoMemory (λ (v : Vec Stand Global). v.items) c.only_stand.result (level_banks_decoded ps c.args.until c.args.bytes.now) in
    subst G alone c.only_stand.ensures.exact

pub returns-then-plans-eq1-clause-resumable : goal.returns-then-plans-eq1-clause-resumable
returns-then-plans-eq1-clause-resumable c =
    let alone = ap (λ p. p ∷ []) c.deref.ensures ∙ only-one arc_value c.args.plans.now c.index-plans-0.result c.if-plans-eq1.true c.index-plans-0.is in
    let R : List Plan → Type 0 = λ ps. IfOk c.only_stand.result (λ (stands : Vec Stand Global). AreResumable ps c.args.until stands.items) in
    subst R alone c.only_stand.ensures.resumable

pub returns-else-plans-eq1-clause-exact : goal.returns-else-plans-eq1-clause-exact
returns-else-plans-eq1-clause-exact c =
    let G : Result (List Stand) CheckpointRefused → Type 0 = λ r. GivesAfterTests {A = Vec Stand Global} {B = List Stand} checkpoint.NoMemory (λ (v : Vec Stand Global). v.items) c.decode_banks.result r in
    let not : ¬ (length (map arc_value c.args.plans.now) ≡ 1) = λ one. c.if-plans-eq1.false (sym (length-map c.args.plans.now arc_value) ∙ one) in
    subst G (several-read (map arc_value c.args.plans.now) c.args.until c.args.bytes.now not) c.decode_banks.ensures.exact
