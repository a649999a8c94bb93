-- The checkpoint of one bank, and that of several.
use Rattle.std.proofs.Common.{arith, ◌≡◌, [], ◌∷◌, refl, ap, sym, subst, ◌∙◌}
use Rattle.std.specs.Arc.{arc_value}
use Rattle.std.specs.Prelude.{All}
use Rattle.std.proofs.lemmas.List.{length-map}
use Rattle.std.proofs.lemmas.List.Elements.{All-head, All-get_or}
use Rattle.spin_model.specs.Limits.{every_take}
use Rattle.run_checkpoint.specs.BankEncoding.{HaveOneShape, banks_encoding}
use Rattle.exchange_board.specs.Views.{RaggedEndedView}
use Rattle.glass_engine.specs.BankPieces.{ends_in}
use Rattle.glass_engine.specs.BankRuns.{runs_of}
use Rattle.glass_engine.specs.KeptSaving.{kind_of, EndsAs}
use Rattle.glass_engine.specs.Runs.{RunView, DoneView, IsEnd}
use Rattle.glass_engine.proofs.BankDrives.{bank-plan}
use Rattle.glass_engine.proofs.BankSavings.{ends-level, one-shape, checkpoint-is}
use Rattle.glass_engine.proofs.Savings.{alone, done-fits, done-ends, several-runs, several-bytes}
use Rattle.glass_engine.proofs.placing.write.Goals as goal
use Rattle.glass_engine.proofs.placing.write.Goals.{After-deref}

-- ---- one bank

own : (c : After-deref) → c.args.driven.now ≡ c.index-driven-0.result ∷ []
own c = alone c.args.driven.now c.index-driven-0.result c.if-driven-eq1.true c.index-driven-0.is

plan : (c : After-deref) → c.deref.result.now ≡ c.index-driven-0.result.run.plan
plan c =
    c.deref.ensures ∙ bank-plan arc_value c.args.plans.now c.args.driven.now c.requires.plans 0 (omega (arith, c.if-driven-eq1.true)) c.index-plans-0.result c.index-plans-0.is c.index-driven-0.result c.index-driven-0.is

stand : (c : After-deref) → c.stand.result.now ≡ c.index-driven-0.result.ended.stand
stand c = c.stand.ensures ∙ ap (λ (e : RaggedEndedView). e.stand) c.ended.ensures

end : (c : After-deref) → IsEnd c.index-driven-0.result.run c.index-driven-0.result.ended
end c =
    let E : DoneView → Type 0 = λ x. IsEnd x.run x.ended in
    let d = c.index-driven-0.result in
    subst E (sym c.index-driven-0.is) (All-get_or E c.args.driven.now 0 d (omega (arith, c.if-driven-eq1.true)) c.requires.ended)

pub write-requires-clause-fits : goal.write-requires-clause-fits
write-requires-clause-fits c = rw (plan c, c.orders-orders.ensures.value, stand c) (done-fits c.index-driven-0.result (end c))

pub write-requires-clause-level : goal.write-requires-clause-level
write-requires-clause-level c =
    let d = c.index-driven-0.result in
    let T : RunView → Type 0 = λ r. r.takes ≡ every_take in
    subst (EndsAs c.args.saving.now) (sym (stand c))
    (done-ends d c.args.saving.now (end c) (λ level. All-head T d.run [] (subst (λ ds. All T (runs_of ds)) (own c) (c.requires.room.whole level))))

pub returns-then-driven-eq1-clause-bytes : goal.returns-then-driven-eq1-clause-bytes
returns-then-driven-eq1-clause-bytes c = λ never.
    let at = (goal.at.returns-then-driven-eq1-clause-bytes c).After-deref in
    let d = c.index-driven-0.result in
    let S : RunView → Type 0 = λ r. r.saves ≡ kind_of c.args.saving.now in
    let kind = All-head S d.run [] (subst (λ ds. All S (runs_of ds)) (own at) c.requires.room.kind) in
    c.write.ensures.bytes ∙ rw (c.write.ensures.kind, sym kind, plan at, c.orders-orders.ensures.value, stand at, own at) refl

-- ---- several

pub encode_banks-requires-clause-shape : goal.encode_banks-requires-clause-shape
encode_banks-requires-clause-shape c =
    let are = several-runs c.args.driven.now c.if-driven-eq1.false c.requires.runs in
    subst HaveOneShape (sym c.requires.plans) (one-shape are.0 c.args.driven.now are.1 c.requires.ended)

pub encode_banks-requires-clause-level : goal.encode_banks-requires-clause-level
encode_banks-requires-clause-level c =
    let are = several-runs c.args.driven.now c.if-driven-eq1.false c.requires.runs in
    ends-level are.0 c.args.driven.now are.1 c.requires.ended

pub returns-in-Level-clause-bytes : goal.returns-in-Level-clause-bytes
returns-in-Level-clause-bytes c = λ never.
    let ds = c.args.driven.now in
    let are = several-runs ds c.if-driven-eq1.false c.requires.runs in
    let long = length-map ds (λ (d : DoneView). d.run) in
    c.encode_banks.ensures.bytes ∙ ap (λ ps. banks_encoding ps (ends_in ds)) c.requires.plans ∙ checkpoint-is are.0 ds are.1 c.requires.ended
    ∙ several-bytes ds (omega (arith, long, are.1.orders_are.some_banks))
