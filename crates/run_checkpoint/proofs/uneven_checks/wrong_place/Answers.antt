-- No slot before this one has a wrong place.
use Rattle.std.proofs.Common.{◌-◌, arith}
use Rattle.run_checkpoint.specs.UnevenDecoding.{wrong_place_at, wrong_place, epoch_in, phase_in}
use Rattle.run_checkpoint.proofs.FirstOf.{first-found, first-more, first-none}
use Rattle.run_checkpoint.proofs.UnevenPlaces.{right-places}
use Rattle.run_checkpoint.proofs.uneven_checks.wrong_place.Goals as goal

pub returns-in-Some-clause-value : goal.returns-in-Some-clause-value
unfolding wrong_place
returns-in-Some-clause-value c = first-found (wrong_place_at c.args.slots (epoch_in c.args.bytes.now) (phase_in c.args.bytes.now)) c.slots.slot (c.args.slots - c.slots.slot) _ _ (omega arith) c.in-Some.ensures c.slots.invariant

pub slots-preserved : goal.slots-preserved
slots-preserved c = first-more (wrong_place_at c.args.slots (epoch_in c.args.bytes.now) (phase_in c.args.bytes.now)) c.slots.slot (c.args.slots - c.slots.slot) _ _ (omega arith) c.in_default.ensures c.slots.invariant

pub returns-clause-value : goal.returns-clause-value
unfolding wrong_place
returns-clause-value c = first-none (wrong_place_at c.args.slots (epoch_in c.args.bytes.now) (phase_in c.args.bytes.now)) c.slots.slot (c.args.slots - c.slots.slot) _ (omega arith) c.slots.invariant

pub returns-clause-right : goal.returns-clause-right
unfolding wrong_place
returns-clause-right c = right-places c.args.slots c.args.bytes.now (first-none (wrong_place_at c.args.slots (epoch_in c.args.bytes.now) (phase_in c.args.bytes.now)) c.slots.slot (c.args.slots - c.slots.slot) _ (omega arith) c.slots.invariant)
