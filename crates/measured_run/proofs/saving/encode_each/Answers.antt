use Rattle.std.proofs.Common.{◌++◌, ap, ◌∙◌, arith}
use Rattle.scalar_rule.specs.Plan.{slots_of}
use Rattle.run_checkpoint.specs.Lengths.{encoding_len}
use Rattle.measured_run.specs.Banks.{BankView}
use Rattle.measured_run.specs.KeptRuns.{end_bytes}
use Rattle.measured_run.proofs.Savings.{spare-next, bytes-next, bytes-all, spare-all}
use Rattle.measured_run.proofs.saving.encode_each.Goals as goal

pub encode_bank-requires : goal.encode_bank-requires
encode_bank-requires c =
    let next = spare-next c.args.banks.now c.banks.g c.index-banks-g.result c.banks-test.true in
    let own = ap (λ (b : BankView). encoding_len b.plan.size (slots_of b.plan)) c.index-banks-g.is in
    omega (arith, next, own, c.banks.invariant.spare, c.requires)

pub banks-preserved : goal.banks-preserved
banks-preserved c =
    let banks = c.args.banks.now in
    let r = c.index-banks-g.result in
    let next = spare-next banks c.banks.g r c.banks-test.true in
    let own = ap (λ (b : BankView). encoding_len b.plan.size (slots_of b.plan)) c.index-banks-g.is in
    let put = c.encode_bank.ensures.bytes ∙ ap (λ (b : BankView). c.banks.room.bytes ++ end_bytes b) c.index-banks-g.is in
    record {
      bytes = bytes-next banks c.banks.g r c.banks.room.bytes _ _ c.banks-test.true put c.banks.invariant.bytes;
      spare = omega (arith, next, own, c.encode_bank.ensures.spare, c.banks.invariant.spare);
    }

pub returns-clause-bytes : goal.returns-clause-bytes
returns-clause-bytes c = bytes-all c.args.banks.now c.banks.g c.banks.room.bytes _ (omega (arith, c.banks-test.false)) c.banks.invariant.bytes

pub returns-clause-spare : goal.returns-clause-spare
returns-clause-spare c =
    let none = spare-all c.args.banks.now c.banks.g (omega (arith, c.banks-test.false)) in
    omega (arith, none, c.banks.invariant.spare)
