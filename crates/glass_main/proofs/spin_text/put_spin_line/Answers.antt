use Rattle.std.proofs.Common.{codes, sym}
use Rattle.glass_edges.proofs.Writing.{fronts-added, fronts-broken, fronts-put, writes-same}
use Rattle.scalar_rule.specs.SpinDigits.{spin_digits}
use Rattle.glass_main.specs.Texts.{spin_line}
use Rattle.glass_main.proofs.SpinText.{three_pieces}
use Rattle.glass_main.proofs.spin_text.put_spin_line.Goals as goal

pub returns-in_err-put_digits : goal.returns-in_err-put_digits
unfolding spin_line
returns-in_err-put_digits g c =
    fronts-broken (codes "\n") c.from_residual.ensures.0 c.in_err-put_digits.ensures
    (sym (three_pieces c.args.line.now _ (spin_digits c.args.lattice.now c.args.spins.now) _ c.add.new.self c.add.ensures))

pub returns : goal.returns
unfolding spin_line
returns g c =
    writes-same (three_pieces c.args.line.now _ (spin_digits c.args.lattice.now c.args.spins.now) _ c.add.new.self c.add.ensures)
    (fronts-put (fronts-added (codes "\n") c.in_ok-put_digits.ensures) c.end_line.ensures)
