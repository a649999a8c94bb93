use Rattle.std.proofs.Common.{rules}
use Rattle.glass_main.proofs.BankedFiles.{orders-of-one-bank, told-alone}
use Rattle.glass_main.proofs.gathering.read_run_file.Goals as goal

pub returns-clause-orders : goal.returns-clause-orders
returns-clause-orders c = λ one. orders-of-one-bank c.in_ok-file.file c.in_ok-file.ensures.lawful (c.in_ok-check_banks.ensures.one_bank one)

pub returns-in_err-file-clause-banks : goal.returns-in_err-file-clause-banks
returns-in_err-file-clause-banks c =
    let told = told-alone c.args.many c.args.bytes.now c.in_err-file.field-0.0 c.in_err-file.ensures.value in
    search (rules, told)
