-- One bank more.
use Rattle.std.specs.Arc.{arc_value}
use Rattle.std.proofs.Common.{◌≡◌, get_or, ap, sym, subst, ◌∙◌, arith}
use Rattle.std.proofs.lemmas.List.{length-set, get_or-set_other, take_all, take_more_set}
use Rattle.scalar_rule.specs.Plan.{Plan, slots_of}
use Rattle.plane_sweep.specs.declared.stand.Stand.{Stand}
use Rattle.run_checkpoint.specs.Lengths.{encoding_len}
use Rattle.run_checkpoint.specs.Reading.{piece}
use Rattle.run_checkpoint.specs.Unfilled.{HasRoom}
use Rattle.run_checkpoint.proofs.BankSteps.{next-item, no-item, stand-same, stands-more, stands-end, plan-len, plan-shape}
use Rattle.run_checkpoint.proofs.bank_decoding.stands_of.Goals as goal

pub fill_stand-requires-clause-len : goal.fill_stand-requires-clause-len
fill_stand-requires-clause-len c =
    c.piece-bank.ensures.len ∙ c.requires.len ∙ plan-len arc_value c.args.plans.now c.banks.g c.index-plans-g.result c.requires.shape c.banks-test.true c.index-plans-g.is
    ∙ sym (ap (λ (p : Plan). encoding_len p.size (slots_of p)) c.deref-in-banks.ensures)

pub fill_stand-requires-clause-room : goal.fill_stand-requires-clause-room
fill_stand-requires-clause-room c =
    let plans = c.args.plans.now in
    let plan = c.deref-in-banks.result.now in
    let mine = plan-shape arc_value plans c.banks.g c.index-plans-g.result c.requires.shape c.banks-test.true c.index-plans-g.is in
    let first = plan-shape arc_value plans 0 c.index-plans-0.result c.requires.shape (omega (arith, c.requires.some)) c.index-plans-0.is in
    let second = plan-shape arc_value plans 0 c.index-plans-0-2.result c.requires.shape (omega (arith, c.requires.some)) c.index-plans-0-2.is in
    let size : c.size-size.result ≡ plan.size =
    c.size-size.ensures.value ∙ c.lattice.ensures.value ∙ ap (λ (p : Plan). p.size) c.deref.ensures ∙ first.0 ∙ sym mine.0
    ∙ sym (ap (λ (p : Plan). p.size) c.deref-in-banks.ensures) in
    let slots : c.slots-slots.result ≡ slots_of plan =
    c.slots-slots.ensures.value ∙ ap slots_of c.deref-2.ensures ∙ second.1 ∙ sym mine.1 ∙ sym (ap slots_of c.deref-in-banks.ensures) in
    let room = c.banks.invariant.1 c.banks.g c.index_mut.result.now (omega arith) (omega (arith, c.banks.invariant.0, c.banks-test.true)) in
    let here = get_or c.banks.stands.items c.banks.g c.index_mut.result.now in
    subst (λ (s : Stand). HasRoom plan.size (slots_of plan) s) (sym c.index_mut.ensures.value)
    (subst (λ n. HasRoom plan.size n here) slots (subst (λ l. HasRoom l c.slots-slots.result here) size room))

pub banks-preserved : goal.banks-preserved
banks-preserved c =
    let items = c.banks.stands.items in
    let now = c.fill_stand.new.stand in
    let sized = length-set items c.banks.g now in (
      sized ∙ c.banks.invariant.0,
      (λ j d from below. subst (HasRoom c.size-size.result c.slots-slots.result) (sym (get_or-set_other items c.banks.g j now d (λ e. omega (arith, e, from))))
          (c.banks.invariant.1 j d (omega (arith, from)) (omega (arith, below, sized)))),
      stands-more c.args.len c.banks.g c.args.bytes.now _ _ (arc_value c.index-plans-g.result) _ _ _ _
          (next-item arc_value c.args.plans.now c.banks.g c.index-plans-g.result c.banks-test.true c.index-plans-g.is)
          (take_more_set items c.banks.g now (omega (arith, c.banks.invariant.0, c.banks-test.true)))
          (c.fill_stand.ensures ∙ stand-same _ _ _ _ c.deref-in-banks.ensures (c.piece-bank.ensures.value ∙ ap (piece 0 c.args.len) c.behind.ensures.value))
          c.banks.invariant.2,
    )

pub returns : goal.returns
returns c =
    sym (take_all c.banks.g c.banks.stands.items (omega (arith, c.banks.invariant.0, c.banks-test.false)))
    ∙ stands-end c.args.len c.banks.g c.args.bytes.now _ _ _ (no-item arc_value c.args.plans.now c.banks.g c.banks-test.false) c.banks.invariant.2
