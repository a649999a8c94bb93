-- No label before this place is wrong.
use Rattle.std.proofs.Common.{◌*◌, ◌-◌, arith}
use Rattle.run_checkpoint.specs.Reading.{parts_in}
use Rattle.run_checkpoint.specs.Tests.{wrong_at, wrong_label}
use Rattle.run_checkpoint.proofs.FirstOf.{first-found, first-more, first-none}
use Rattle.run_checkpoint.proofs.labels.wrong_label.Goals as goal

pub returns-in-Some : goal.returns-in-Some
unfolding wrong_label
returns-in-Some c = first-found (wrong_at c.args.slots (parts_in c.args.size c.args.slots c.args.bytes.now)) c.places.place (128 * c.args.slots - c.places.place) _ _ (omega arith) c.in-Some.ensures c.places.invariant

pub places-preserved : goal.places-preserved
places-preserved c = first-more (wrong_at c.args.slots (parts_in c.args.size c.args.slots c.args.bytes.now)) c.places.place (128 * c.args.slots - c.places.place) _ _ (omega arith) c.in_default.ensures c.places.invariant

pub returns : goal.returns
unfolding wrong_label
returns c = first-none (wrong_at c.args.slots (parts_in c.args.size c.args.slots c.args.bytes.now)) c.places.place (128 * c.args.slots - c.places.place) _ (omega arith) c.places.invariant
