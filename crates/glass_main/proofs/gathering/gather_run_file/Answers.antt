use Rattle.std.proofs.Common.{rules}
use Rattle.glass_main.proofs.gathering.gather_run_file.Goals as goal

pub returns-in_err-bytes-clause-banks : goal.returns-in_err-bytes-clause-banks
returns-in_err-bytes-clause-banks g c =
    let told = c.in_err-bytes.ensures.banks c.args.many in
    search (rules, told)
