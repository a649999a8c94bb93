-- The link overlap is that of the count of bonds; behind it come the directions.
use Rattle.std.proofs.Common.{rules, ◌≡◌, SFits, w64, to_z, of_z, List, ℕ, ◌++◌, flat_map, sym, ap, ◌∙◌, append-nil, append_assoc}
use Rattle.std.specs.Prelude.{ℤ}
use Rattle.std.proofs.lemmas.Int.{to_z-of_z}
use Rattle.glass_edges.proofs.Writing.{fronts-more, fronts-failed, fronts-stopped, fronts-same}
use Rattle.spin_model.specs.Steps.{table}
use Rattle.spin_model.specs.Lattice.{bond_count}
use Rattle.overlap_lines.specs.LineText.{link_line}
use Rattle.overlap_lines.specs.CountedText.{counted_direction, sum_at}
use Rattle.spin_model.proofs.Joined.{joined-zero, joined-more, joined-at}
use Rattle.overlap_lines.proofs.printing.add_slot.Goals as goal
use Rattle.overlap_lines.proofs.printing.add_slot.Goals.{After-sum_of-sum}

-- the line has the sum of the counts
same : (g : _) (c : After-sum_of-sum g) → c.args.line.now ++ link_line c.args.slot.sample c.args.slot.number (to_z w64 (of_z w64 c.sum_of-sum.result))
    ≡ c.args.line.now ++ link_line c.args.slot.sample c.args.slot.number (sum_at c.args.counts.now 0 c.args.slot.sample (bond_count c.args.lattice.now))
same g c =
    let fits : SFits w64 c.sum_of-sum.result = search rules in
    let counted : c.sum_of-sum.result ≡ sum_at c.args.counts.now 0 c.args.slot.sample (bond_count c.args.lattice.now) = rw c.sites.ensures.value at c.sum_of-sum.ensures in
    ap (λ (n : ℤ). c.args.line.now ++ link_line c.args.slot.sample c.args.slot.number n) (to_z-of_z w64 c.sum_of-sum.result fits ∙ counted)

pub returns-in_err-add_link : goal.returns-in_err-add_link
returns-in_err-add_link g c =
    let at = (goal.at.returns-in_err-add_link g c).After-sum_of-sum in
    let link = link_line c.args.slot.sample c.args.slot.number (sum_at c.args.counts.now 0 c.args.slot.sample (bond_count c.args.lattice.now)) in
    let lines = flat_map (counted_direction c.args.lattice.now c.args.slot.sample c.args.slot.number c.args.counts.now) (table (λ (d : ℕ). d) 3) in
    fronts-failed lines c.from_residual.ensures.0 (fronts-same (same g at) c.in_err-add_link.ensures) (sym (append_assoc c.args.line.now link lines))

pub directions-init : goal.directions-init
directions-init g c =
    let at = (goal.at.directions-init g c).After-sum_of-sum in
    let link = c.args.line.now ++ link_line c.args.slot.sample c.args.slot.number (sum_at c.args.counts.now 0 c.args.slot.sample (bond_count c.args.lattice.now)) in
    let none = joined-zero (counted_direction c.args.lattice.now c.args.slot.sample c.args.slot.number c.args.counts.now) (λ (d : ℕ). d) in
    fronts-same (sym (ap (λ (xs : List ℕ). link ++ xs) none ∙ append-nil link)) (fronts-same (same g at) c.in_ok-add_link.ensures)

pub directions-preserved : goal.directions-preserved
directions-preserved g c = fronts-more _ _ _ c.directions.invariant c.in_ok-add_direction.ensures (joined-more _ _ c.directions.d)

pub returns-in_err-add_direction : goal.returns-in_err-add_direction
returns-in_err-add_direction g c =
    let link = link_line c.args.slot.sample c.args.slot.number (sum_at c.args.counts.now 0 c.args.slot.sample (bond_count c.args.lattice.now)) in
    let lines = flat_map (counted_direction c.args.lattice.now c.args.slot.sample c.args.slot.number c.args.counts.now) (table (λ (d : ℕ). d) 3) in
    fronts-same (append_assoc c.args.line.now link lines)
    (fronts-stopped _ _ _ _ c.from_residual-in_err-add_direction.ensures.0 c.directions.invariant c.in_err-add_direction.ensures (joined-at _ _ c.directions.d _ c.directions-test.true))
