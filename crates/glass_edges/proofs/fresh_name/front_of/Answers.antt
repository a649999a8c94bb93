-- A name that is taken whole is its own front.
use Rattle.std.proofs.Common.{length, sym, arith}
use Rattle.std.proofs.lemmas.List.{take_all}
use Rattle.glass_edges.proofs.fresh_name.front_of.Goals as goal

pub returns-then-own-le-WHOLE-clause-front : goal.returns-then-own-le-WHOLE-clause-front
returns-then-own-le-WHOLE-clause-front c = (length c.args.own.now, sym (take_all (length c.args.own.now) c.args.own.now (omega arith)))
