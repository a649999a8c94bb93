use Rattle.glass_edges.specs.Writes.{HasPut}
use Rattle.potts_glass.specs.PottsText.{samples_text}
use Rattle.potts_glass.proofs.report.put_with.Given as goal

abbrev pub invariant-samples : goal.invariant-samples
invariant-samples g l = HasPut g.O.Sink l.fn.out l.out (samples_text l.potts l.b)
