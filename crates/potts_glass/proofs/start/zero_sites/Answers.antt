use Rattle.std.proofs.Common.{rules, ◌≡◌, ◌++◌, ◌∷◌, [], length, get_or, ap, ◌∙◌, arith, length-append}
use Rattle.potts_glass.specs.PackedColours.{colour_in}
use Rattle.potts_glass.proofs.Sites.{colours-listed, each-pushed, colour-zero}
use Rattle.potts_glass.proofs.start.zero_sites.Goals as goal

pub sites-init : goal.sites-init
sites-init c = record {
  count = search rules;
  colours = λ b i within. absurd (omega arith);
}

pub sites-preserved : goal.sites-preserved
sites-preserved c =
    let inv = c.sites.invariant in
    let pushed : c.push.new.self.items ≡ c.sites.sites.items ++ (0 ∷ 0 ∷ []) ∷ [] = search rules in
    record {
      count = ap length pushed ∙ simp length-append (omega (arith, inv.count));
      colours = λ b i within. ap (λ xs. colour_in (get_or xs i []) b) pushed
          ∙ each-pushed (λ k site. colour_in site b ≡ 0) c.sites.sites.items (0 ∷ 0 ∷ []) c.sites.counter i inv.count (inv.colours b) (colour-zero b) within;
    }

pub returns-clause-colours : goal.returns-clause-colours
returns-clause-colours c = λ b h.
    colours-listed c.args.lattice.now c.of.result b (λ i. 0) (λ i within.
    ap (λ xs. colour_in (get_or xs i []) b) c.of.ensures ∙ c.sites.invariant.colours b i (omega (arith, within, c.sites-end.ensures.value, c.sites-test.false)))
