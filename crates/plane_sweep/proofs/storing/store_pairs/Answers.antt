use Rattle.std.proofs.Common.{◌≡◌, ℕ, length, subst, arith}
use Rattle.std.proofs.lemmas.List.{get_or_read}
use Rattle.scalar_rule.specs.Epoch.{pair_at}
use Rattle.scalar_rule.specs.declared.sample.PlainPair.{PlainPair}
use Rattle.plane_sweep.specs.Storing.{Changed, StoresPair}
use Rattle.plane_sweep.proofs.Empties.{no_pair}
use Rattle.plane_sweep.proofs.Gathering.{changed-none, changed-more}
use Rattle.plane_sweep.proofs.storing.store_pairs.Goals as goal

pub at_mut-requires : goal.at_mut-requires
at_mut-requires c = let sized = c.pairs.invariant.sized in omega arith

pub at-requires : goal.at-requires
at-requires c = let sized = c.requires in omega arith

pub pairs-init : goal.pairs-init
pairs-init c = changed-none _ _

pub pairs-preserved : goal.pairs-preserved
pairs-preserved c =
    let sized = c.requires in
    let read : c.at.result.now ≡ pair_at c.args.parts.now c.pairs.k = get_or_read c.args.parts.now c.pairs.k c.at.result.now (omega arith) c.at.ensures no_pair in
    let S : PlainPair → Type 0 = λ p. StoresPair p c.at_mut.result.now c.store_pair.new.pair in
    changed-more _ c.pairs.k c.args.pairs.now c.pairs.pairs c.at_mut.result.now c.store_pair.new.pair c.pairs.invariant (omega arith) c.at_mut.ensures.value (subst S read c.store_pair.ensures)

pub returns : goal.returns
returns c =
    let sized = c.requires in
    let whole : c.pairs.k ≡ length c.args.parts.now = omega arith in
    let S : ℕ → Type 0 = λ n. Changed (λ k. StoresPair (pair_at c.args.parts.now k)) n c.args.pairs.now c.pairs.pairs in
    subst S whole c.pairs.invariant
