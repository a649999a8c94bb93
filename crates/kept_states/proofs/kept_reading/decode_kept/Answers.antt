-- What is read are the states of the bytes, and the bytes of such states are read.
use Rattle.std.specs.Arc.{arc_value}
use Rattle.std.proofs.Common.{◌≤◌, arith, length, map}
use Rattle.std.proofs.lemmas.List.{length-map}
use Rattle.kept_states.specs.KeptReading.{kept_decoded, AreKeptStates}
use Rattle.kept_states.proofs.KeptClauses.{gives-found, gives-only, kept-found, kept-read_again}
use Rattle.kept_states.proofs.kept_reading.decode_kept.Goals as goal

pub returns-clause-found : goal.returns-clause-found
returns-clause-found c =
    let plans = map arc_value c.args.plans.now in
    let some : 1 ≤ length plans = omega (arith, c.requires.some, length-map c.args.plans.now arc_value) in
    gives-found (AreKeptStates plans c.args.times.now c.args.bytes.now) c.read.result (kept_decoded plans c.args.times.now c.args.bytes.now)
    (λ states is. kept-found plans c.args.times.now c.args.bytes.now states some c.read_lawful.ensures c.requires.times (λ i. omega (arith, c.type_inv.bytes i)) is) c.read.ensures

pub returns-clause-only : goal.returns-clause-only
returns-clause-only c = λ states are.
    let plans = map arc_value c.args.plans.now in
    let some : 1 ≤ length plans = omega (arith, c.requires.some, length-map c.args.plans.now arc_value) in
    let few : length plans ≤ 4 = omega (arith, c.requires.few, length-map c.args.plans.now arc_value) in
    gives-only states c.read.result (kept_decoded plans c.args.times.now c.args.bytes.now)
    (kept-read_again plans c.args.times.now c.args.bytes.now states some few c.read_lawful.ensures c.requires.shape c.requires.times are) c.read.ensures
