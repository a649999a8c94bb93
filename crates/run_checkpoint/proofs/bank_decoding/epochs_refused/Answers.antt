-- No bank before this one is at another epoch.
use Rattle.std.proofs.Common.{arith, ap, ◌-◌, ◌∙◌}
use Rattle.run_checkpoint.specs.BankDecoding.{epochs_refused}
use Rattle.run_checkpoint.specs.Reading.{piece, number_at}
use Rattle.run_checkpoint.proofs.BankSteps.{epoch-differs, epoch-agrees, epoch-found, epoch-more, epoch-none}
use Rattle.run_checkpoint.proofs.bank_decoding.epochs_refused.Goals as goal

pub returns-then-epoch-first : goal.returns-then-epoch-first
returns-then-epoch-first c =
    epoch-found c.args.len c.u64_at-first.result c.args.bytes.now c.banks.g (c.args.count - c.banks.g) _ _ (omega arith)
    (epoch-differs c.u64_at-first.result c.banks.g c.args.len c.u64_at-epoch.result _ (c.u64_at-epoch.ensures ∙ ap (number_at 8 40) (c.piece-bank.ensures.value ∙ ap (piece 0 c.args.len) c.behind.ensures.value)) c.if-epoch-first.true)
    c.banks.invariant
    ∙ ap (λ f. epochs_refused c.args.len f 0 c.args.count c.args.bytes.now) (c.u64_at-first.ensures ∙ ap (number_at 8 40) c.piece.ensures.value)

pub banks-preserved : goal.banks-preserved
banks-preserved c =
    epoch-more c.args.len c.u64_at-first.result c.args.bytes.now c.banks.g (c.args.count - c.banks.g) _ _ (omega arith)
    (epoch-agrees c.u64_at-first.result c.banks.g c.args.len c.u64_at-epoch.result _ (c.u64_at-epoch.ensures ∙ ap (number_at 8 40) (c.piece-bank.ensures.value ∙ ap (piece 0 c.args.len) c.behind.ensures.value)) c.if-epoch-first.false)
    c.banks.invariant

pub returns : goal.returns
returns c =
    epoch-none c.args.len c.u64_at-first.result c.args.bytes.now c.banks.g (c.args.count - c.banks.g) _ (omega arith) c.banks.invariant
    ∙ ap (λ f. epochs_refused c.args.len f 0 c.args.count c.args.bytes.now) (c.u64_at-first.ensures ∙ ap (number_at 8 40) c.piece.ensures.value)
