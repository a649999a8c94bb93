-- Each line is of the sums that are held.
use Rattle.std.proofs.Common.{◌≡◌, ℕ, ◌++◌, ◌%◌, flat_map, ap, subst, sym, ◌∙◌, arith}
use Rattle.std.proofs.lemmas.List.{get_or_default}
use Rattle.glass_edges.proofs.Writing.{fronts-none, fronts-more, fronts-stopped, fronts-same}
use Rattle.spin_model.specs.Steps.{table}
use Rattle.spin_model.proofs.Joined.{joined-zero, joined-more, joined-at}
use Rattle.quenched_states.specs.KeptStates.{time_at}
use Rattle.quenched_states.specs.QuenchText.{pair_line}
use Rattle.quenched_sums.specs.Told.{TellsPair}
use Rattle.quenched_sums.specs.declared.pair.PairSums.{PairSums}
use Rattle.quench_report.proofs.writer.add_pairs.Goals as goal

pub pairs-init : goal.pairs-init
pairs-init g c = λ fields hold. fronts-none (joined-zero _ _)

pub pairs-preserved : goal.pairs-preserved
pairs-preserved g c = λ fields hold.
    let l = c.args.head.now.lattice in
    let i = c.pairs.i in
    let within = c.pairs-test.true in
    let told = subst (λ (s : PairSums). TellsPair l s (fields i)) (sym (c.at.ensures ∙ get_or_default c.args.pairs.now i _ _ (omega (arith, within, c.requires.room)))) (hold i within) in
    fronts-more _ _ _ (c.pairs.invariant fields hold) (c.in_ok-add_pair_line.ensures l (fields i) told) (joined-more _ _ i)

pub returns-in_err-add_pair_line : goal.returns-in_err-add_pair_line
returns-in_err-add_pair_line g c = λ fields hold.
    let l = c.args.head.now.lattice in
    let i = c.pairs.i in
    let within = c.pairs-test.true in
    let told = subst (λ (s : PairSums). TellsPair l s (fields i)) (sym (c.at.ensures ∙ get_or_default c.args.pairs.now i _ _ (omega (arith, within, c.requires.room)))) (hold i within) in
    fronts-stopped _ _ _ _ c.from_residual.ensures.0 (c.pairs.invariant fields hold) (c.in_err-add_pair_line.ensures l (fields i) told) (joined-at _ _ i _ within)

pub returns : goal.returns
returns g c = λ fields hold.
    let at = c.args.at in
    let l = c.args.head.now.lattice in
    let all : c.pairs.i ≡ c.args.state = omega (arith, c.pairs-test.false, c.pairs.auto.i-end) in
    fronts-same
    (ap (λ (n : ℕ). c.args.line.now ++ flat_map (λ i. pair_line l (time_at c.args.head.now.times.now i) at.time at.sample at.slot (fields i (at.sample % 64))) (table (λ i. i) n)) all)
    (c.pairs.invariant fields hold)
