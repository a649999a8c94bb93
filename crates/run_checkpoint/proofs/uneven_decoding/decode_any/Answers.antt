-- What is read is encoded so, and what is encoded so is read.
use Rattle.std.proofs.Common.{arith}
use Rattle.run_checkpoint.proofs.UnevenClauses.{any-found, found-fits, any-level, any-uneven}
use Rattle.run_checkpoint.proofs.uneven_decoding.decode_any.Goals as goal

pub returns-clause-found : goal.returns-clause-found
returns-clause-found c =
    any-found c.args.plan.now c.args.samples c.args.every c.args.until c.args.bytes.now c.read_any.result c.lattice.ensures.lawful
    c.requires.some_samples c.requires.few_samples c.requires.every (λ i. omega (arith, c.type_inv.bytes i)) c.read_any.ensures

pub returns-clause-fits : goal.returns-clause-fits
returns-clause-fits c =
    found-fits c.args.plan.now c.args.samples c.args.every c.args.until c.args.bytes.now c.read_any.result c.requires.some_samples c.requires.few_samples c.requires.every
    (any-found c.args.plan.now c.args.samples c.args.every c.args.until c.args.bytes.now c.read_any.result c.lattice.ensures.lawful
    c.requires.some_samples c.requires.few_samples c.requires.every (λ i. omega (arith, c.type_inv.bytes i)) c.read_any.ensures)

pub returns-clause-level : goal.returns-clause-level
returns-clause-level c = λ states are le is.
    any-level c.args.plan.now c.args.samples c.args.every c.args.until c.args.bytes.now c.read_any.result states c.lattice.ensures.lawful are le is c.read_any.ensures

pub returns-clause-uneven : goal.returns-clause-uneven
returns-clause-uneven c = λ states pending are deep is.
    any-uneven c.args.plan.now c.args.samples c.args.every c.args.until c.args.bytes.now c.read_any.result states pending c.lattice.ensures.lawful
    (omega (arith, c.ranges.every)) c.requires.until are deep is c.read_any.ensures
