use Rattle.std.proofs.Common.{◌≡◌, ℕ, ◌*◌, ◌/◌, ◌%◌, List, length, sym, ap, ◌∙◌}
use Rattle.spin_model.specs.Lattice.{volume}
use Rattle.spin_model.specs.Seeding.{potts_sweep_words}
use Rattle.spin_model.specs.Steps.{table}
use Rattle.spin_model.proofs.Tables.{length-table, table-same}
use Rattle.potts_glass.specs.PackedColours.{colours_of}
use Rattle.potts_glass.specs.PottsStates.{start_colours, seeded_words}
use Rattle.potts_glass.proofs.potts.Potts.open.Goals as goal

pub invariant_of-result : goal.invariant_of-result
invariant_of-result c =
    let l = c.args.lattice in
    record {
      size = sym c.requires;
      sites = c.in_ok-sites.ensures.sized ∙ ap volume (sym c.requires);
      wheels = ap length c.in_ok-wheels.ensures ∙ length-table (λ k. potts_sweep_words c.args.seed (k / l) (k % l)) (2 * l) ∙ ap (λ n. 2 * n) (sym c.requires);
    }

pub returns : goal.returns
returns c =
    let couplings = c.args.couplings in
    let sites = c.in_ok-sites.sites in
    let wheels = c.in_ok-wheels.wheels in
    let lists = λ (n : ℕ). table (colours_of n sites) 64 in
    let colours : lists couplings.size ≡ table (start_colours couplings.size c.args.start c.args.seed) 64 =
    ap lists c.requires ∙ table-same (colours_of c.args.lattice sites) (start_colours c.args.lattice c.args.start c.args.seed) 64 c.in_ok-sites.ensures.colours
    ∙ ap (λ n. table (start_colours n c.args.start c.args.seed) 64) (sym c.requires) in
    let words = c.in_ok-wheels.ensures ∙ ap (λ n. seeded_words n c.args.seed) (sym c.requires) in
    ap (λ (s : List (List ℕ)). record { couplings = couplings; states = s; words = wheels }) colours
    ∙ ap (λ (ws : List (List ℕ)). record { couplings = couplings; states = table (start_colours couplings.size c.args.start c.args.seed) 64; words = ws }) words
