-- The slots 0 and 1 come back, one after the other.
use Rattle.std.proofs.Common.{arith}
use Rattle.shared_board_tests.proofs.events.first_epoch.Goals as goal

pub comes_back-requires-2-clause-work : goal.comes_back-requires-2-clause-work
comes_back-requires-2-clause-work g c κs within =
    let a = c.is_at.ensures.slot in
    let b = c.is_at-2.ensures.slot in
    let last = c.is_at-3.ensures.slot in
    (c.comes_back.ensures.held _ c.three_taken-a.ensures.held (λ z. omega arith, (λ z. omega arith, tt))).each.0

pub returns-clause-held : goal.returns-clause-held
returns-clause-held g c =
    let a = c.is_at.ensures.slot in
    let b = c.is_at-2.ensures.slot in
    let last = c.is_at-3.ensures.slot in
    c.comes_back-2.ensures.held _ (c.comes_back.ensures.held _ c.three_taken-a.ensures.held (λ z. omega arith, (λ z. omega arith, tt))) (λ z. omega arith, tt)
