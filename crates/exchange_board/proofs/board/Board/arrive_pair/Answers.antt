-- Two partners come back.
use Rattle.std.proofs.Common.{arith, List, ap}
use Rattle.exchange_board.specs.Views.{Stage, placed}
use Rattle.exchange_board.specs.BoardKeeps.{board_view}
use Rattle.exchange_board.proofs.BoardReads.{phased-of}
use Rattle.exchange_board.proofs.PairArriving.{PairComing, pair-coming, from-pair, below-pair, epoch-short, pair-keeps, pair-view}
use Rattle.exchange_board.proofs.board.Board.arrive_pair.Goals as goal
use Rattle.exchange_board.proofs.board.Board.arrive_pair.Goals.{After-deref}

coming : (c : After-deref) → PairComing c.self.inside c.swept.inside
coming c =
    pair-coming c.self.inside c.swept.inside c.args.self.now c.args.swept c.self.invariant c.swept.invariant c.self.view_is c.swept.view_is
    c.requires.same c.requires.known c.requires.low c.requires.high

pub put_records-requires-clause-from : goal.put_records-requires-clause-from
put_records-requires-clause-from c = from-pair _ _ _ (coming (goal.at.put_records-requires-clause-from c).After-deref) c.deref-2.ensures

pub put_records-requires-clause-below : goal.put_records-requires-clause-below
put_records-requires-clause-below c = below-pair _ _ _ (coming (goal.at.put_records-requires-clause-below c).After-deref) c.deref-2.ensures

pub put_records-requires-2-clause-from : goal.put_records-requires-2-clause-from
put_records-requires-2-clause-from c = from-pair _ _ _ (coming (goal.at.put_records-requires-2-clause-from c).After-deref) c.deref-4.ensures

pub put_records-requires-2-clause-below : goal.put_records-requires-2-clause-below
put_records-requires-2-clause-below c = below-pair _ _ _ (coming (goal.at.put_records-requires-2-clause-below c).After-deref) c.deref-4.ensures

pub overflow_add-epoch : goal.overflow_add-epoch
overflow_add-epoch c = omega (arith, epoch-short _ _ (coming (goal.at.overflow_add-epoch c).After-deref))

pub invariant_of-self : goal.invariant_of-self
invariant_of-self c =
    rw (c.at_home.ensures, c.at_home-2.ensures, c.copy.ensures, c.deref-5.ensures)
    (pair-keeps c.self.inside c.swept.inside c.deref-2.result.now c.deref-4.result.now c.put_records.new.records c.put_records-2.new.records
    (coming (goal.at.invariant_of-self c).After-deref) c.deref-2.ensures c.deref-4.ensures (rw c.deref.ensures at c.put_records.ensures) (rw c.deref-3.ensures at c.put_records-2.ensures))

pub returns-clause-moved : goal.returns-clause-moved
returns-clause-moved c =
    let places = pair-view c.self.inside c.swept.inside c.put_records-2.new.records c.swept.invariant in
    rw (c.at_home.ensures, c.at_home-2.ensures, ← c.self.view_is, ← c.swept.view_is) (ap (λ (ps : List Stage). placed (board_view c.self.inside) ps) places)

pub returns-clause-phased : goal.returns-clause-phased
returns-clause-phased c = rw (← c.self.view_is) (phased-of c.self.inside c.self.invariant)
