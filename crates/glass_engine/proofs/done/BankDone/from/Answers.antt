use Rattle.std.proofs.Common.{sym, subst}
use Rattle.exchange_board.specs.Content.{IsLawfulOrigin}
use Rattle.exchange_board.proofs.Origins.{place-short}
use Rattle.glass_engine.proofs.done.BankDone.from.Goals as goal

pub floor-requires-clause-short : goal.floor-requires-clause-short
floor-requires-clause-short c = λ t h. place-short c.origin.result.now t (subst IsLawfulOrigin (sym c.origin.ensures) c.self.invariant.ended.lawful) h
