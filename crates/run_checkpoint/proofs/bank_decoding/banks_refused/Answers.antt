-- No bank before this one is refused.
use Rattle.std.proofs.Common.{ap, ◌∙◌}
use Rattle.std.specs.Arc.{arc_value}
use Rattle.run_checkpoint.specs.Reading.{piece}
use Rattle.run_checkpoint.proofs.BankSteps.{next-item, no-item, refusal-same, refused-found, refused-more, refused-none}
use Rattle.run_checkpoint.proofs.bank_decoding.banks_refused.Goals as goal

pub returns-in-Some : goal.returns-in-Some
returns-in-Some c =
    refused-found c.args.len c.args.until c.args.bytes.now _ _ (arc_value c.index-plans-g.result) c.banks.g c.in-Some.refused _
    (next-item arc_value c.args.plans.now c.banks.g c.index-plans-g.result c.banks-test.true c.index-plans-g.is)
    (c.in-Some.ensures.value ∙ refusal-same c.args.until _ _ _ _ c.deref.ensures (c.piece-bank.ensures.value ∙ ap (piece 0 c.args.len) c.behind.ensures.value))
    c.banks.invariant

pub banks-preserved : goal.banks-preserved
banks-preserved c =
    refused-more c.args.len c.args.until c.args.bytes.now _ _ (arc_value c.index-plans-g.result) c.banks.g _
    (next-item arc_value c.args.plans.now c.banks.g c.index-plans-g.result c.banks-test.true c.index-plans-g.is)
    (c.in_default.ensures.value ∙ refusal-same c.args.until _ _ _ _ c.deref.ensures (c.piece-bank.ensures.value ∙ ap (piece 0 c.args.len) c.behind.ensures.value))
    c.banks.invariant

pub returns : goal.returns
returns c = refused-none c.args.len c.args.until c.args.bytes.now _ c.banks.g _ (no-item arc_value c.args.plans.now c.banks.g c.banks-test.false) c.banks.invariant
