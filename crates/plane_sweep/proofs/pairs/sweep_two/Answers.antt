use Rattle.std.proofs.Common.{inl, inr, ◌≡◌, ℕ, ◌+◌, ◌-◌, ◌<◌, ap, subst, ◌∙◌, arith}
use Rattle.std.proofs.lemmas.Bool.{cases_eq}
use Rattle.local_rule.specs.SiteBits.{lane_words}
use Rattle.plane_sweep.specs.PlaneSweep.{pulls_lent, SweepsRow}
use Rattle.plane_sweep.proofs.RowSweeps.{row-sites}
use Rattle.plane_sweep.proofs.pairs.sweep_two.Goals as goal

pub returns : goal.returns
returns g c =
    let s = c.args.around.now in
    let row = c.args.row.now in
    let k = row.half - 2 in
    let six = lane_words c.pulls_of_two-six.result in
    let end : k + 2 ≡ row.half = omega (arith, c.requires.two) in
    let lanes : (i : ℕ) → i < 2 → six i ≡ pulls_lent s row (k + i) =
    λ i lane. elim (cases_eq i 0) [
      | inl first ↦
          let place : k ≡ k + i = omega arith in
          ap six first ∙ c.pulls_of_two-six.ensures.first ∙ ap (pulls_lent s row) place
      | inr other ↦
          let second : i ≡ 1 = omega arith in
          let place : k + 1 ≡ k + i = omega arith in
          ap six second ∙ c.pulls_of_two-six.ensures.second ∙ ap (pulls_lent s row) place
    ] in
    let P : ℕ → Type 0 = λ n. SweepsRow s c.args.rule.now c.args.draws.now row k n c.args.own.now c.update_sites.new.own in
    subst P end (row-sites s c.args.rule.now c.args.draws.now row 2 k six c.args.own.now c.update_sites.new.own lanes c.update_sites.ensures)
