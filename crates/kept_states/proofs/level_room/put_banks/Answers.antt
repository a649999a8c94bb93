use Rattle.std.specs.Arc.{arc_value}
use Rattle.std.specs.Vec.Iter.{into_iter_items}
use Rattle.std.proofs.Common.{◌≡◌, ◌+◌, ◌<◌, List, [], ◌∷◌, ◌++◌, map, length, drop, get_or, refl, ap, sym, subst, ◌∙◌, arith, rules}
use Rattle.std.proofs.lemmas.List.{get_or-map, length-map}
use Rattle.kept_states.specs.Levels.{banks_spare, AreLevel}
use Rattle.kept_states.proofs.Written.{same-count, next-fits, next-bytes, next-spare, last-bytes, last-spare}
use Rattle.plane_sweep.specs.Packed.{part, StandFits}
use Rattle.plane_sweep.specs.declared.stand.Stand.{Stand}
use Rattle.run_checkpoint.specs.BankEncoding.{banks_bytes, banks_parts}
use Rattle.run_checkpoint.specs.Encoding.{encoding}
use Rattle.run_checkpoint.specs.Lengths.{encoding_len}
use Rattle.run_checkpoint.proofs.BankSteps.{next-item, no-item}
use Rattle.scalar_rule.specs.Plan.{Plan, slots_of}
use Rattle.kept_states.proofs.level_room.put_banks.Goals as goal
use Rattle.kept_states.proofs.level_room.put_banks.Goals.{After-deref, After-drop-stand-iterator}

pub banks-init : goal.banks-init
banks-init c =
    let plans = map arc_value c.args.plans.now in
    let all : into_iter_items c.into_iter-stand-iterator.result ≡ c.args.stands = c.into_iter-stand-iterator.ensures.into_iter_gives.0 ∙ c.into_vec-stand-items.ensures in
    record {
      left = search rules;
      count = omega (arith, ap (λ (s : List Stand). length s) all, same-count c.requires.fit.epoch plans c.args.stands c.requires.fit.fit, length-map c.args.plans.now arc_value);
      fit = subst (λ (s : List Stand). AreLevel plans s) (sym all) c.requires.fit;
      bytes = ap (λ (s : List Stand). c.args.bytes.now.bytes ++ banks_bytes plans (banks_parts plans s)) all;
      len = refl;
      spare = refl;
      slots = refl;
      pending = c.requires.pending;
    }

-- the next plan and the plans behind it
within : (c : After-deref) → c.banks.g < length c.args.plans.now
within c = let gone = ap (λ (s : List Stand). length s) c.in-Some.ensures.steps.0 in omega (arith, gone, c.banks.invariant.count)

next : (c : After-deref) → drop c.banks.g (map arc_value c.args.plans.now) ≡ c.deref.result.now ∷ drop (c.banks.g + 1) (map arc_value c.args.plans.now)
next c =
    let rest = drop (c.banks.g + 1) (map arc_value c.args.plans.now) in
    next-item arc_value c.args.plans.now c.banks.g c.index-plans-g.result (within c) c.index-plans-g.is ∙ ap (λ (p : Plan). p ∷ rest) (sym c.deref.ensures)

fits : (c : After-deref) → StandFits c.deref.result.now c.in-Some.stand × AreLevel (drop (c.banks.g + 1) (map arc_value c.args.plans.now)) (into_iter_items c.next.new.self)
fits c = next-fits _ _ c.deref.result.now _ _ c.in-Some.stand (next c) c.in-Some.ensures.steps.0 c.banks.invariant.fit

pub put_bank-requires-clause-slots : goal.put_bank-requires-clause-slots
put_bank-requires-clause-slots c =
    let x = c.index-plans-g.result in
    let own = get_or-map arc_value c.args.plans.now c.banks.g x (arc_value x) (within c) ∙ ap arc_value (sym c.index-plans-g.is) in
    ap slots_of (c.deref.ensures ∙ sym own) ∙ c.requires.slots c.banks.g (arc_value x) (omega (arith, within c, length-map c.args.plans.now arc_value)) ∙ sym c.banks.invariant.slots

pub put_bank-requires-clause-fits : goal.put_bank-requires-clause-fits
put_bank-requires-clause-fits c = (fits c).0

pub put_bank-requires-clause-spare : goal.put_bank-requires-clause-spare
put_bank-requires-clause-spare c = omega (arith, next-spare _ _ c.deref.result.now (next c), c.banks.invariant.spare, c.requires.spare)

pub banks-preserved : goal.banks-preserved
banks-preserved c =
    let at = (goal.at.banks-preserved c).After-deref in
    let plan = c.deref.result.now in
    let more = next-spare _ _ plan (next at) in
    let gone = c.in-Some.ensures.steps in
    let short = ap (λ (s : List Stand). length s) gone.0 in
    record {
      left = omega (arith, short, gone.1, c.banks.invariant.left);
      count = omega (arith, short, c.banks.invariant.count);
      fit = (fits at).1;
      bytes = next-bytes _ _ plan _ _ c.in-Some.stand _ _ _ (next at) gone.0 c.put_bank.ensures.bytes c.banks.invariant.bytes;
      len = omega (arith, more, c.put_bank.ensures.len, c.banks.invariant.len);
      spare = omega (arith, more, c.put_bank.ensures.spare, c.banks.invariant.spare);
      slots = c.put_bank.ensures.slots ∙ c.banks.invariant.slots;
      pending = c.put_bank.ensures.pending;
    }

-- no plan is left
none : (c : After-drop-stand-iterator) → drop c.banks.g (map arc_value c.args.plans.now) ≡ []
none c = no-item arc_value c.args.plans.now c.banks.g (omega (arith, c.in-None.ensures.steps.0, c.banks.invariant.left, c.banks.invariant.count))

pub returns-clause-bytes : goal.returns-clause-bytes
returns-clause-bytes c = last-bytes _ _ c.banks.bytes.bytes _ (none c) c.banks.invariant.bytes

pub returns-clause-len : goal.returns-clause-len
returns-clause-len c = omega (arith, last-spare _ (none c), c.banks.invariant.len)

pub returns-clause-spare : goal.returns-clause-spare
returns-clause-spare c = omega (arith, last-spare _ (none c), c.banks.invariant.spare)
