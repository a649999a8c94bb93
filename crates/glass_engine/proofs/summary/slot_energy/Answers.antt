use Rattle.std.proofs.Common.{◌≡◌, ◌∙◌, ℕ, ap, sym, arith}
use Rattle.std.specs.Prelude.{◌+ℤ◌}
use Rattle.std.proofs.lemmas.Int.{ints}
use Rattle.scalar_rule.specs.declared.sample.Record.{Record}
use Rattle.glass_engine.specs.RecordPieces.{piece}
use Rattle.glass_engine.specs.Summary.{both_energies}
use Rattle.glass_engine.proofs.Summaries.{sum-zero, sum-more, piece-at}
use Rattle.glass_engine.proofs.summary.slot_energy.Goals as goal

pub samples-init : goal.samples-init
samples-init c = record { sum = sym (sum-zero _); few = omega arith }

pub samples-preserved : goal.samples-preserved
samples-preserved c =
    let f = λ (k : ℕ). both_energies (piece c.args.records.now c.args.slots k) c.args.slot in
    let more = sum-more f c.samples.b in
    let at = piece-at c.args.records.now c.args.slots c.samples.b c.args.slot _ c.requires.slot in
    let here : f c.samples.b ≡ c.both_energies-sum.result = ap (λ (r : Record). r.first_energy +ℤ r.second_energy) at ∙ sym c.both_energies-sum.ensures.value in
    let so_far = c.samples.invariant.sum in
    let few = c.samples.invariant.few in
    let small = c.both_energies-sum.ensures.few in
    record {
      sum = omega (arith, ints, more, here, so_far, few, small);
      few = omega (arith, ints, few, small);
    }
