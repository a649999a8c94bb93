use Rattle.std.proofs.Common.{◌≡◌, drop, length, sym, ◌∙◌}
use Rattle.run_checkpoint.specs.Reading.{stand_in, slots_in, pairs_in}
use Rattle.scalar_rule.specs.Plan.{slots_of}
use Rattle.run_checkpoint.proofs.FilledLevels.{level-filled}
use Rattle.run_checkpoint.proofs.WrittenAgain.{slots-count}
use Rattle.run_checkpoint.proofs.uneven_decoding.level_of.Goals as goal

pub returns : goal.returns
unfolding stand_in
returns c =
    let plan = c.args.plan.now in
    let bytes = c.args.bytes.now in
    let l = c.lattice.ensures.value in
    let size = c.size-size.ensures.value in
    let n = c.slots.ensures.value in
    let again = c.slots-2.ensures.value in
    let behind = c.behind.ensures.value in
    let sized : length c.in_ok-stand.stand.slots ≡ length (slots_in plan.size (slots_of plan) (drop 56 bytes)) =
    c.in_ok-stand.ensures.room.count ∙ n ∙ sym (slots-count plan.size (slots_of plan) (drop 56 bytes)) in
    let read : c.fill_contents.new.slots ≡ slots_in plan.size (slots_of plan) (drop 56 bytes) = c.fill_contents.ensures.slots ∙ cc in
    let paired : c.fill_contents.new.pairs ≡ pairs_in plan.size (slots_of plan) (drop 56 bytes) = c.fill_contents.ensures.pairs ∙ cc in
    level-filled c.in_ok-stand.stand c.in_ok-ragged.ragged (stand_in plan bytes) c.fill_contents.new.slots c.fill_contents.new.pairs
    c.in_ok-ragged.ensures.level sized (c.in_ok-stand.ensures.epoch ∙ c.u64_at.ensures) read paired
