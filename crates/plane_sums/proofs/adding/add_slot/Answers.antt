-- Where the epoch is measured its bin grows.
use Rattle.std.proofs.Common.{◌≡◌, true, ◌+ℤ◌, ap, sym, ◌∙◌}
use Rattle.scalar_rule.specs.Records.{is_recorded}
use Rattle.measured_sums.specs.EpochBins.{bin_of}
use Rattle.measured_sums.specs.MeasuredSums.{term_of}
use Rattle.plane_sums.specs.Bins.{bin_at, sum_in}
use Rattle.plane_sums.specs.Slots.{seen_in}
use Rattle.plane_sums.proofs.SlotGrowth.{sums-grown}
use Rattle.plane_sums.proofs.adding.add_slot.Goals as goal

pub returns-then-is_recorded-clause-added : goal.returns-then-is_recorded-clause-added
returns-then-is_recorded-clause-added c = λ before have.
    let l = c.args.slot.now.plan.now.size in
    let seen = seen_in c.args.slot.now in
    let same = c.lattice.ensures.value in
    let is : is_recorded c.args.every c.args.epoch ≡ true = sym c.is_recorded.ensures ∙ c.if-is_recorded.true in
    sums-grown l c.args.every c.args.epoch seen before c.args.sums.now c.add.new.self is c.add.ensures.first c.add.ensures.bins
    (λ b quantity h has. c.add.ensures.added seen (rw (same, c.seen.ensures) c.measure.ensures.tells) b quantity h (rw same has)
    ∙ ap (λ n. sum_in (bin_at c.args.sums.now (bin_of c.args.epoch)) b quantity +ℤ term_of n (seen b) quantity) same)
    c.add.ensures.others have
