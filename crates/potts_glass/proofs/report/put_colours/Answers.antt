-- What is put behind the head of the line is a prefix of it at each error.
use Rattle.std.proofs.Common.{◌++◌, refl, ap, ◌∙◌, codes}
use Rattle.glass_edges.specs.Writes.{HasPutFront}
use Rattle.glass_edges.proofs.Writing.{fronts-same, fronts-then, fronts-placed, fronts-broken, fronts-put}
use Rattle.potts_glass.specs.PottsStates.{state_of}
use Rattle.potts_glass.specs.PottsText.{colour_digits, colours_head, colours_line}
use Rattle.potts_glass.proofs.report.put_colours.Goals as goal
use Rattle.potts_glass.proofs.report.put_colours.Goals.{In_ok-put_digits}

-- the head and the digits are put, but for what is in the line
digits-put : (g : _) (c : In_ok-put_digits g)
    → HasPutFront g.O.Sink c.args.out.now c.put_digits.new.out (colours_head c.args.sample ++ colour_digits c.args.potts.now.couplings.size (state_of c.args.potts.now c.args.sample)) c.put_digits.new.line
digits-put g c =
    let head = colours_head c.args.sample in
    let digits = colour_digits c.args.potts.now.couplings.size (state_of c.args.potts.now c.args.sample) in
    fronts-same (ap (λ xs. xs ++ digits) (c.add_head.ensures ∙ ap (λ xs. xs ++ head) c.new-line.ensures)) c.in_ok-put_digits.ensures

pub returns-in_err-make_room : goal.returns-in_err-make_room
unfolding colours_line
returns-in_err-make_room g c =
    let at = (goal.at.returns-in_err-make_room g c).In_ok-put_digits in
    fronts-broken (codes "\n") c.from_residual-in_err-make_room.ensures.0 (fronts-then (digits-put g at) c.in_err-make_room.ensures.written) refl

pub returns : goal.returns
unfolding colours_line
returns g c =
    let at = (goal.at.returns g c).In_ok-put_digits in
    fronts-put (fronts-placed (codes "\n") (fronts-then (digits-put g at) c.in_ok-make_room.ensures.written) c.add.ensures refl) c.put.ensures.written
