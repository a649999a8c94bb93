use Rattle.std.proofs.Common.{◌≡◌, [], ◌∷◌, ◌++◌, sym, ap, ◌∙◌, arith}
use Rattle.spin_model.specs.Lattice.{volume}
use Rattle.spin_model.specs.Words.{is_set}
use Rattle.spin_model.specs.Steps.{table}
use Rattle.spin_model.proofs.Tables.{table-zero, table-more}
use Rattle.plane_sweep.specs.Packed.{word_at, spins_of}
use Rattle.plane_sweep.proofs.parts.sample_spins.Goals as goal

pub sites-init : goal.sites-init
sites-init c = c.in_ok-spins.ensures.items ∙ sym (table-zero _)

pub sites-preserved : goal.sites-preserved
sites-preserved c =
    let pushed : c.push.new.self.items ≡ c.sites.spins.items ++ c.bit.result ∷ [] = c.in_ok-push.ensures.items in
    let spin : c.bit.result ≡ is_set (word_at c.args.lattice.now c.args.planes.now c.sites.site) c.args.sample =
    c.bit.ensures ∙ ap (λ w. is_set w c.args.sample) c.site_word.ensures in
    pushed ∙ rw (c.sites.invariant, spin) (sym (table-more _ _))

pub returns : goal.returns
unfolding spins_of
returns c =
    let all : c.sites.site ≡ volume c.args.lattice.now = omega arith in
    c.of.ensures ∙ c.sites.invariant ∙ ap (table _) all
