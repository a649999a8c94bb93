-- One pair more is measured, at a place of its own.
use Rattle.std.proofs.Common.{◌+◌, ◌*◌, ◌<◌, length, refl, subst, sym, ◌∙◌, arith}
use Rattle.std.proofs.lemmas.List.{length-set}
use Rattle.plane_sums.specs.Fields.{TellsField}
use Rattle.plane_sums.specs.declared.fields.FieldSums.{FieldSums}
use Rattle.copies_report.specs.Held.{duo_field}
use Rattle.copies_report.specs.States.{pair_at}
use Rattle.copies_report.proofs.FourCopies.{pair-measured, pair-written, pair-kept, pair-more}
use Rattle.copies_report.proofs.measuring.measure_slot.Goals as goal

pub pairs-preserved : goal.pairs-preserved
pairs-preserved c =
    let l = c.args.lattice in
    let first = c.args.copies.first.now in
    let second = c.args.copies.second.now in
    let t = c.args.slot in
    let p = c.pairs.p in
    let sums = c.pairs.sums in
    let made = c.measure_field.new.sums in
    let near : p < 6 = c.pairs-test.true in
    let long = c.pairs.invariant.long in
    let within : 6 * t + p < length sums = omega (arith, near, long, c.requires.room) in
    let told = pair-measured l first second made c.replica_among-one.result.now c.replica_among-other.result.now p c.pair_at-pair.result.one c.pair_at-pair.result.other
    c.pair_at-pair.ensures.one c.pair_at-pair.ensures.other c.replica_among-one.ensures c.replica_among-other.ensures c.measure_field.ensures in
    record {
      long = length-set sums (6 * t + p) made ∙ long;
      held = pair-more l first second sums _ t p c.pairs.invariant.held
          (λ m below. pair-kept sums _ made t p t m refl (λ same. omega (arith, same, below)))
          (subst (λ (s : FieldSums). TellsField l s (duo_field l first second (pair_at p))) (sym (pair-written sums _ made t p refl within)) told);
      before = λ k m less below. pair-kept sums _ made t p k m refl (λ same. omega (arith, same, less, below)) ∙ c.pairs.invariant.before k m less below;
    }
