-- One sample more, by its own generator.
use Rattle.std.proofs.Common.{◌≡◌, ◌≢◌, ◌<◌, ℕ, [], length, get_or, get_or-set_same, get_or-set_other, below_more, ap, ◌∙◌, arith, rules}
use Rattle.std.proofs.lemmas.List.{get_or_default, length-set}
use Rattle.spin_model.specs.Stream.{advanced, draw, draws}
use Rattle.spin_model.specs.Words.{is_set}
use Rattle.spin_model.proofs.Tables.{get_or-table}
use Rattle.coupling_set.proofs.drawing.next_row.Goals as goal

pub samples-preserved : goal.samples-preserved
samples-preserved c =
    let known = c.samples.invariant in
    let wheels = c.samples.wheels in
    let b = c.samples.b in
    let n = length c.args.draws.now in
    let old = get_or c.args.wheels.now b [] in
    let listed : b < length wheels = omega (arith, known.samples, c.samples-test.true) in
    let wheel : c.at_mut.result.now ≡ old = c.at_mut.ensures.value ∙ get_or_default wheels b c.at_mut.result.now [] listed ∙ known.still b (omega arith) in
    let count : length c.samples.draws ≡ n = search (rules, arith) in
    let moved : c.fill.new.self ≡ advanced old n = rw (count, wheel) at c.fill.ensures.moved in
    let drawn : c.fill.new.out ≡ draws old n = rw (count, wheel) at c.fill.ensures.drawn in
    let long : length c.fill.new.out ≡ n = search (rules, arith) in
    record {
      samples = length-set wheels _ _ ∙ known.samples;
      moved = below_more _ _
          (λ s less. let other : s ≢ b = omega arith in get_or-set_other wheels b s _ [] other ∙ known.moved s less)
          (get_or-set_same wheels b _ [] listed ∙ moved);
      still = λ s behind. let other : s ≢ b = omega arith in get_or-set_other wheels b s _ [] other ∙ known.still s (omega arith);
      bits = λ s k less within. below_more (λ t. (j : ℕ) → j < n → is_set (get_or c.set_sample.new.row j 0) t ≡ is_set (draw (get_or c.args.wheels.now t []) j) 31) _
          (λ t before j inside. let other : t ≢ b = omega arith in
          c.set_sample.ensures.others t j (omega arith) other (omega (arith, long)) ∙ known.bits t j before inside)
          (λ j inside. c.set_sample.ensures.bits j (omega (arith, long))
          ∙ ap (λ v. is_set (get_or v j 0) 31) drawn ∙ ap (λ v. is_set v 31) (get_or-table (draw old) n j 0 inside))
          s less k within;
    }
