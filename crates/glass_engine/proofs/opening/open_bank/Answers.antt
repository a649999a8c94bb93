-- The places of a starting state are not in work.
use Rattle.std.proofs.Common.{List, sym, subst}
use Rattle.exchange_board.specs.Machine.{NoneOut}
use Rattle.exchange_board.specs.Views.{Stage}
use Rattle.glass_engine.proofs.Steps.{start-none}
use Rattle.glass_engine.proofs.opening.open_bank.Goals as goal

pub open-requires-clause-home : goal.open-requires-clause-home
open-requires-clause-home c =
    let P : List Stage → Type 0 = λ ps. NoneOut ps in
    subst P (sym c.in_ok-board.ensures.places_are) (start-none c.args.base.places)
