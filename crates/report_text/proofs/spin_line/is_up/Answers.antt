use Rattle.std.proofs.Common.{sym, ap, ◌∙◌}
use Rattle.spin_model.specs.Words.{is_set}
use Rattle.report_text.proofs.SpinsOf.{spin-spins_of}
use Rattle.report_text.proofs.spin_line.is_up.Goals as goal

pub returns : goal.returns
returns c =
    c.bit.ensures ∙ ap (λ word. is_set word c.args.b) c.site_word.ensures
    ∙ sym (spin-spins_of c.args.lattice.now c.args.b c.args.replica.now.planes c.args.site c.requires.site)
