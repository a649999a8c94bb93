-- What is read is encoded so, and what is encoded so is read.
use Rattle.std.proofs.Common.{arith}
use Rattle.run_checkpoint.proofs.LevelClauses.{is-found, is-only}
use Rattle.run_checkpoint.proofs.decoding.decode.Goals as goal

pub returns-clause-found : goal.returns-clause-found
returns-clause-found c = is-found c.args.plan.now c.args.until c.args.bytes.now c.read.result c.lattice.ensures.lawful (λ i. omega (arith, c.type_inv.bytes i)) c.read.ensures

pub returns-clause-only : goal.returns-clause-only
returns-clause-only c = λ states are le is. is-only c.args.plan.now c.args.until c.args.bytes.now c.read.result states c.lattice.ensures.lawful are le is c.read.ensures
