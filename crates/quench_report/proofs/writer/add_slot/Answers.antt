-- The line of the state, and then those with each earlier one.
use Rattle.std.proofs.Common.{◌%◌, ℕ, List, flat_map, append_assoc, refl, sym}
use Rattle.glass_edges.proofs.Writing.{fronts-failed, fronts-more}
use Rattle.spin_model.specs.Steps.{table}
use Rattle.quenched_states.specs.KeptStates.{time_at}
use Rattle.quenched_states.specs.QuenchText.{pair_line}
use Rattle.quench_report.proofs.writer.add_slot.Goals as goal

pub returns-in_err-add_state_line : goal.returns-in_err-add_state_line
returns-in_err-add_state_line g c = λ seen fields told.
    let place = c.args.place in
    let times = c.args.head.now.times.now in
    let pairs : List ℕ = flat_map (λ i. pair_line c.args.head.now.lattice (time_at times i) (time_at times place.state) place.sample place.slot (fields place.slot i (place.sample % 64)))
    (table (λ i. i) place.state) in
    fronts-failed pairs c.from_residual.ensures.0 (c.in_err-add_state_line.ensures (seen place.slot) told.state) (sym (append_assoc c.args.line.now _ pairs))

pub returns : goal.returns
returns g c = λ seen fields told.
    fronts-more _ _ _ (c.in_ok-add_state_line.ensures (seen c.args.place.slot) told.state) (c.add_pairs.ensures (fields c.args.place.slot) told.pairs) refl
