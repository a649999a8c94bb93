use Rattle.std.specs.Arc.{arc_value}
use Rattle.std.specs.Vec.Iter.{into_iter_items}
use Rattle.std.proofs.Common.{◌≡◌, ℕ, ◌+◌, ◌*◌, List, map, length, ap, ◌∙◌, arith}
use Rattle.kept_states.specs.Levels.{level_len, stands_encoding}
use Rattle.kept_states.proofs.Written.{next-state, next-level}
use Rattle.plane_sweep.specs.declared.stand.Stand.{Stand}
use Rattle.kept_states.proofs.save_room.put_states.Goals as goal

pub states-preserved : goal.states-preserved
states-preserved c =
    let plans = map arc_value c.args.plans.now in
    let gone = c.in-Some.ensures.steps in
    let rest = into_iter_items c.next.new.self in
    let short = ap (λ (s : List (List Stand)). length s) gone.0 in
    let len = ap (λ (s : List ℕ). length s) c.bytes.ensures ∙ c.write.ensures.len in
    let more : (length rest + 1) * level_len plans ≡ length rest * level_len plans + level_len plans = omega arith in
    let was : length (into_iter_items c.states.banks-iterator) * level_len plans ≡ length rest * level_len plans + level_len plans =
    ap (λ n. n * level_len plans) (let n : length (into_iter_items c.states.banks-iterator) ≡ length rest + 1 = omega (arith, short) in n) ∙ more in
    record {
      left = omega (arith, short, gone.1, c.states.invariant.left);
      fit = next-level plans _ rest c.in-Some.banks gone.0 c.states.invariant.fit;
      bytes = next-state (stands_encoding plans) _ rest c.in-Some.banks _ _ c.bytes.result.now _ gone.0 (c.bytes.ensures ∙ c.write.ensures.bytes) c.put.ensures.bytes c.states.invariant.bytes;
      spare = omega (arith, was, len, c.put.ensures.spare, c.states.invariant.spare);
      limit = c.write.ensures.limit ∙ c.states.invariant.limit;
      slots = c.write.ensures.slots ∙ c.states.invariant.slots;
    }
