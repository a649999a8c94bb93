-- The pieces that are added are those of the header.
use Rattle.std.proofs.Common.{codes, ap, ◌∙◌}
use Rattle.byteorder.specs.Endian.{big_bytes}
use Rattle.sha2.specs.Hashers.{Holds256}
use Rattle.threshold_table.specs.Tables.{RuleView}
use Rattle.run_plan.specs.CanonicalPlan.{header_bytes, kind_number}
use Rattle.run_plan.proofs.Messages.{told-six}
use Rattle.run_plan.proofs.plan_digest.add_header.Goals as goal

pub returns : goal.returns
unfolding header_bytes
returns c = λ m held.
    let first = c.add_u32.ensures _ (c.update.ensures m held) in
    let last = c.add_u64.ensures _ (c.add_u32-4.ensures _ (c.add_u32-3.ensures _ (c.add_u32-2.ensures _ first))) in
    told-six (Holds256 c.add_u64.new.hasher) m (codes "GLASSPL1") _ _ _ _ _ _ _ _ _ _
    (ap (big_bytes 4) (c.size.ensures.value ∙ c.lattice.ensures.value))
    (ap (big_bytes 4) c.slots.ensures.value)
    (ap (big_bytes 4) (c.kind_number.ensures ∙ ap kind_number (c.kind.ensures ∙ ap (λ (r : RuleView). r.kind) c.rules.ensures.value)))
    (ap (big_bytes 4) c.sweeps.ensures.value)
    (ap (big_bytes 8) c.seed.ensures.value)
    last
