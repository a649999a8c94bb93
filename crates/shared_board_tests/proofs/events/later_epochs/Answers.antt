-- Slots 0 and 1 are taken and come back, and slot 0 again, while slot 2 stays in work.
use Rattle.std.proofs.Common.{arith}
use Rattle.shared_board_tests.proofs.events.later_epochs.Goals as goal

pub comes_back-requires-clause-work : goal.comes_back-requires-clause-work
comes_back-requires-clause-work g c κs within = (c.two_taken-a.ensures.held _ c.requires.held).each.0

pub comes_back-requires-2-clause-work : goal.comes_back-requires-2-clause-work
comes_back-requires-2-clause-work g c κs within =
    let a = c.is_at.ensures.slot in
    let b = c.is_at-2.ensures.slot in
    let last = c.requires.slot in
    (c.comes_back.ensures.held _ (c.two_taken-a.ensures.held _ c.requires.held) (λ z. omega arith, (λ z. omega arith, tt))).each.0

pub comes_back-requires-3-clause-work : goal.comes_back-requires-3-clause-work
comes_back-requires-3-clause-work g c κs within =
    let a = c.is_at.ensures.slot in
    let b = c.is_at-2.ensures.slot in
    let last = c.requires.slot in
    let one = c.comes_back.ensures.held _ (c.two_taken-a.ensures.held _ c.requires.held) (λ z. omega arith, (λ z. omega arith, tt)) in
    (c.taken-again.ensures.held _ (c.comes_back-2.ensures.held _ one (λ z. omega arith, tt))).each.0

pub returns-clause-held : goal.returns-clause-held
returns-clause-held g c =
    let a = c.is_at.ensures.slot in
    let b = c.is_at-2.ensures.slot in
    let again = c.is_at-3.ensures.slot in
    let last = c.requires.slot in
    let one = c.comes_back.ensures.held _ (c.two_taken-a.ensures.held _ c.requires.held) (λ z. omega arith, (λ z. omega arith, tt)) in
    let two = c.taken-again.ensures.held _ (c.comes_back-2.ensures.held _ one (λ z. omega arith, tt)) in
    c.pauses-2.ensures.held _ (c.pauses.ensures.held _ (c.comes_back-3.ensures.held _ two (λ z. omega arith, tt)))
