use Rattle.std.proofs.Common.{refl, codes}
use Rattle.glass_edges.proofs.Writing.{fronts-added, fronts-broken, fronts-put}
use Rattle.glass_main.proofs.plan_lines.put_key.Goals as goal

pub returns-in_err-put_printable : goal.returns-in_err-put_printable
returns-in_err-put_printable g c = fronts-broken (codes "\n") c.from_residual.ensures.0 c.in_err-put_printable.ensures refl

pub returns : goal.returns
returns g c = fronts-put (fronts-added (codes "\n") c.in_ok-put_printable.ensures) c.end_line.ensures
