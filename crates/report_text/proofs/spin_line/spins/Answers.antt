-- What is put behind the head of the line is a prefix of it at each error.
use Rattle.std.proofs.Common.{◌++◌, ◌%◌, refl, ap, ◌∙◌, codes}
use Rattle.glass_edges.specs.Writes.{HasPutFront}
use Rattle.glass_edges.proofs.Writing.{fronts-same, fronts-then, fronts-placed, fronts-broken, fronts-put}
use Rattle.scalar_rule.specs.SpinDigits.{spin_digits}
use Rattle.plane_sweep.specs.Packed.{spins_of}
use Rattle.report_text.specs.Lines.{spins_head, spins_line}
use Rattle.report_text.proofs.spin_line.spins.Goals as goal
use Rattle.report_text.proofs.spin_line.spins.Goals.{In_ok-put_digits}

-- the head and the digits are put, but for what is in the line
digits-put : (g : _) (c : In_ok-put_digits g)
    → HasPutFront g.O.Sink c.args.out.now c.put_digits.new.out (spins_head c.args.sample c.args.slot c.args.copy ++ spin_digits c.args.lattice (spins_of c.args.lattice (c.args.sample % 64) c.args.replica.now.planes)) c.put_digits.new.line
digits-put g c =
    let head = spins_head c.args.sample c.args.slot c.args.copy in
    let digits = spin_digits c.args.lattice (spins_of c.args.lattice (c.args.sample % 64) c.args.replica.now.planes) in
    fronts-same (ap (λ xs. xs ++ digits) (c.add_head.ensures ∙ ap (λ xs. xs ++ head) c.new-line.ensures)) c.in_ok-put_digits.ensures

pub returns-in_err-make_room : goal.returns-in_err-make_room
unfolding spins_line
returns-in_err-make_room g c =
    let at = (goal.at.returns-in_err-make_room g c).In_ok-put_digits in
    fronts-broken (codes "\n") c.from_residual-in_err-make_room.ensures.0 (fronts-then (digits-put g at) c.in_err-make_room.ensures.written) refl

pub returns : goal.returns
unfolding spins_line
returns g c =
    let at = (goal.at.returns g c).In_ok-put_digits in
    fronts-put (fronts-placed (codes "\n") (fronts-then (digits-put g at) c.in_ok-make_room.ensures.written) c.add.ensures refl) c.put.ensures.written
