-- The half sweep of the words is that of each sample.
use Rattle.std.proofs.Common.{◌≡◌, ℕ, ◌<◌, List, [], get_or, subst, sym, ap, ◌∙◌}
use Rattle.spin_model.specs.Lattice.{volume}
use Rattle.spin_model.specs.Steps.{steps, table}
use Rattle.spin_model.proofs.Tables.{get_or-table, table-same}
use Rattle.potts_glass.specs.PackedColours.{colours_of}
use Rattle.potts_glass.specs.Potts.{visit, site_draw, plane_drawn}
use Rattle.potts_glass.specs.PottsStates.{dynamics_on, half_swept}
use Rattle.potts_glass.proofs.potts.Potts.half_sweep.Goals as goal

pub returns : goal.returns
returns c =
    let couplings = c.self.inside.couplings in
    let l = couplings.size in
    let sites = c.self.inside.sites in
    let wheels = c.self.inside.wheels in
    let new = c.half_sweep.new.sites in
    let class = c.args.class in
    let values = c.args.row.now.values in
    let P : ℕ → Type 0 = λ n. (b : ℕ) → b < 64 → colours_of n new b ≡ steps (visit (dynamics_on n couplings values b) (site_draw n wheels) class) 0 (volume n) (colours_of n sites b) in
    let swept = subst P c.self.invariant.size c.half_sweep.ensures.colours in
    let after = λ (b : ℕ) (xs : List ℕ). steps (visit (dynamics_on l couplings values b) (site_draw l wheels) class) 0 (volume l) xs in
    let states : table (colours_of l new) 64 ≡ table (λ b. after b (get_or (table (colours_of l sites) 64) b [])) 64 =
    table-same _ _ 64 (λ b h. swept b h ∙ ap (after b) (sym (get_or-table (colours_of l sites) 64 b [] h))) in
    let words = c.half_sweep.ensures.words ∙ ap (λ n. steps (plane_drawn n class) 0 n wheels) c.self.invariant.size in
    ap (λ (s : List (List ℕ)). record { couplings = couplings; states = s; words = c.half_sweep.new.wheels }) states
    ∙ ap (λ (ws : List (List ℕ)). record { couplings = couplings; states = table (λ b. after b (get_or (table (colours_of l sites) 64) b [])) 64; words = ws }) words
    ∙ ap (half_swept values class) c.self.view_is
