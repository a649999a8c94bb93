-- The bits that are equal to a set one are those that are set.
use Rattle.std.proofs.Common.{ℕ, ◌-◌, ◌^◌, ap, ◌∙◌}
use Rattle.std.proofs.lemmas.Simd.{get_or-replicate}
use Rattle.local_rule.specs.SiteBits.{equal_count, lane_words}
use Rattle.local_rule.proofs.Counts.{equal-ones}
use Rattle.local_rule.proofs.lane_rule.metropolis_lanes.Goals as goal

pub returns : goal.returns
returns c = λ i b h l.
    let six = lane_words c.args.satisfied.now i in
    let ones = get_or-replicate {A = ℕ} 8 i (2 ^ 64 - 1) 0 h in
    let count = ap (λ o. equal_count six o b) ones ∙ equal-ones six b l in
    rw (← count) (rw c.of-ready.ensures at (c.flipped_sites.ensures i b h l))
