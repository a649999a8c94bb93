use Rattle.std.proofs.Common.{rules, ◌≡◌, ◌+◌, ◌*◌, ◌++◌, ◌∷◌, [], length, get_or, sym, ap, ◌∙◌, arith, length-append}
use Rattle.spin_model.specs.Stream.{advanced}
use Rattle.spin_model.proofs.Streams.{advanced-zero, advanced-advanced}
use Rattle.potts_glass.specs.PackedColours.{colour_in}
use Rattle.potts_glass.specs.PottsStates.{random_colour}
use Rattle.potts_glass.proofs.Sites.{colours-listed, each-pushed, random_colour-advanced}
use Rattle.potts_glass.proofs.start.random_sites.Goals as goal

pub sites-init : goal.sites-init
sites-init c = record {
  moved = sym (advanced-zero c.args.wheel.now);
  count = search rules;
  colours = λ b i h within. absurd (omega arith);
}

pub sites-preserved : goal.sites-preserved
sites-preserved c =
    let w = c.args.wheel.now in
    let n = c.sites.counter in
    let inv = c.sites.invariant in
    let pushed : c.push.new.self.items ≡ c.sites.sites.items ++ c.random_site.result ∷ [] = search rules in
    let further : 4 * n + 4 ≡ 4 * (n + 1) = omega arith in
    record {
      moved = c.random_site.ensures.moved ∙ ap (λ v. advanced v 4) inv.moved ∙ advanced-advanced w (4 * n) 4 ∙ ap (advanced w) further;
      count = ap length pushed ∙ simp length-append (omega (arith, inv.count));
      colours = λ b i h within. ap (λ xs. colour_in (get_or xs i []) b) pushed
          ∙ each-pushed (λ k site. colour_in site b ≡ random_colour w b k) c.sites.sites.items c.random_site.result n i inv.count (λ k below. inv.colours b k h below)
          (c.random_site.ensures.colours b h ∙ random_colour-advanced w c.sites.wheel b n inv.moved) within;
    }

pub returns-clause-colours : goal.returns-clause-colours
returns-clause-colours c = λ b h.
    colours-listed c.args.lattice.now c.of.result b (random_colour c.args.wheel.now b) (λ i within.
    ap (λ xs. colour_in (get_or xs i []) b) c.of.ensures ∙ c.sites.invariant.colours b i h (omega (arith, within, c.sites-end.ensures.value, c.sites-test.false)))
