-- The first state of the table keeps the invariant.
use Rattle.std.proofs.Common.{rules}
use Rattle.std.proofs.lemmas.Grind.{common_steps}
use Rattle.turn_cell.proofs.Keeping.{at_home-phased, at_home-calm, opens}
use Rattle.turn_cell.proofs.opening.made.Goals as goal

pub new-requires : goal.new-requires
new-requires g c =
    opens g.V.Kept.origin g.V.Kept.marks c.args.value c.of.result.value c.args.marks.now c.as_slice.result.now c.push_reserved.new.self.items c.args.passes c.requires.some
    c.of.ensures (search (rules, common_steps)) (search (rules, common_steps)) c.requires.words
    (at_home-phased c.args.marks.now c.requires.at_home) (at_home-calm c.args.marks.now c.requires.at_home)
