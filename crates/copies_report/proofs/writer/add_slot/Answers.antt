-- Each pair's lines are of the sums that are held.
use Rattle.std.proofs.Common.{◌≡◌, ℕ, List, ◌++◌, flat_map, ap, ap₂, subst, sym, ◌∙◌, arith}
use Rattle.glass_edges.proofs.Writing.{fronts-none, fronts-more, fronts-stopped, fronts-same}
use Rattle.spin_model.specs.Steps.{table}
use Rattle.spin_model.proofs.Joined.{joined-zero, joined-more, joined-at}
use Rattle.plane_sums.specs.Fields.{TellsField}
use Rattle.plane_sums.specs.declared.fields.FieldSums.{FieldSums}
use Rattle.quenched_states.specs.Copies.{CopyPair, pair_of}
use Rattle.quenched_states.specs.CrossText.{pair_lines}
use Rattle.copies_report.specs.Held.{bank_fields, duo_field}
use Rattle.copies_report.specs.States.{pair_at, slot_among}
use Rattle.copies_report.proofs.Printed.{pairs-numbered}
use Rattle.copies_report.proofs.writer.add_slot.Goals as goal

pub pairs-init : goal.pairs-init
pairs-init g c = λ first second hold. fronts-none (joined-zero _ _)

pub pairs-preserved : goal.pairs-preserved
pairs-preserved g c = λ first second hold.
    let l = c.args.head.now.lattice in
    let t = c.args.slot in
    let p = c.pairs.p in
    let field = duo_field l (slot_among first t) (slot_among second t) in
    let told = subst (λ (s : FieldSums). TellsField l s (field (pair_at p))) (sym c.sums_at-sums.ensures) (hold t c.requires.slot p c.pairs-test.true) in
    let same = ap₂ (λ (one other : ℕ). c.pairs.line ++ pair_lines l c.args.sample t (pair_of one other) (bank_fields l first second c.args.sample t (pair_at p)))
    c.pair_at.ensures.one c.pair_at.ensures.other in
    fronts-more _ _ _ (c.pairs.invariant first second hold) (fronts-same same (c.in_ok-add_pair_lines.ensures (field (pair_at p)) told)) (joined-more _ _ p)

pub returns-in_err-add_pair_lines : goal.returns-in_err-add_pair_lines
returns-in_err-add_pair_lines g c = λ first second hold.
    let l = c.args.head.now.lattice in
    let t = c.args.slot in
    let p = c.pairs.p in
    let field = duo_field l (slot_among first t) (slot_among second t) in
    let told = subst (λ (s : FieldSums). TellsField l s (field (pair_at p))) (sym c.sums_at-sums.ensures) (hold t c.requires.slot p c.pairs-test.true) in
    let same = ap₂ (λ (one other : ℕ). c.pairs.line ++ pair_lines l c.args.sample t (pair_of one other) (bank_fields l first second c.args.sample t (pair_at p)))
    c.pair_at.ensures.one c.pair_at.ensures.other in
    let item = λ (pair : CopyPair). pair_lines l c.args.sample t pair (bank_fields l first second c.args.sample t pair) in
    fronts-stopped _ _ _ _ c.from_residual.ensures.0 (c.pairs.invariant first second hold) (fronts-same same (c.in_err-add_pair_lines.ensures (field (pair_at p)) told))
    (sym (pairs-numbered item) ∙ joined-at (λ n. item (pair_at n)) (λ n. n) p 6 c.pairs-test.true)

pub returns : goal.returns
returns g c = λ first second hold.
    let l = c.args.head.now.lattice in
    let t = c.args.slot in
    let item = λ (pair : CopyPair). pair_lines l c.args.sample t pair (bank_fields l first second c.args.sample t pair) in
    let all : c.pairs.p ≡ 6 = omega (arith, c.pairs-test.false, c.pairs.auto.p-end) in
    fronts-same
    (ap (λ (n : ℕ). c.args.line.now ++ flat_map (λ p. item (pair_at p)) (table (λ p. p) n)) all ∙ ap (λ (xs : List ℕ). c.args.line.now ++ xs) (pairs-numbered item))
    (c.pairs.invariant first second hold)
