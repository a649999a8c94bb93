-- What is read is encoded so, and what is encoded so is read.
use Rattle.std.specs.Arc.{arc_value}
use Rattle.std.proofs.Common.{arith, map}
use Rattle.std.proofs.lemmas.List.{length-map}
use Rattle.run_checkpoint.proofs.BankClauses.{banks-found, banks-only}
use Rattle.run_checkpoint.proofs.bank_decoding.decode_banks.Goals as goal

pub returns-clause-found : goal.returns-clause-found
returns-clause-found c =
    banks-found (map arc_value c.args.plans.now) c.args.until c.args.bytes.now c.read_banks.result (omega (arith, c.requires.several, length-map c.args.plans.now arc_value)) c.read_lawful.ensures (λ i. omega (arith, c.type_inv.bytes i)) c.read_banks.ensures

pub returns-clause-only : goal.returns-clause-only
returns-clause-only c = λ epoch states are le is.
    banks-only (map arc_value c.args.plans.now) epoch c.args.until c.args.bytes.now c.read_banks.result states (omega (arith, c.requires.several, length-map c.args.plans.now arc_value)) (omega (arith, c.requires.few, length-map c.args.plans.now arc_value)) c.read_lawful.ensures c.requires.shape are le is c.read_banks.ensures
