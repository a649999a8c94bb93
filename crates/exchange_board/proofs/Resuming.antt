-- A board that goes on from a stop: its end, and the rows of both.
use Rattle.std.proofs.Common.{arith, ◌≡◌, ℕ, ◌*◌, ◌<◌, ◌≤◌, List, ◌++◌, length, take, refl, ap, ◌∙◌}
use Rattle.std.proofs.lemmas.List.{length-map}
use Rattle.scalar_rule.specs.Laws.{AreReached}
use Rattle.scalar_rule.specs.Plan.{Plan, slots_of}
use Rattle.scalar_rule.specs.Positions.{position_in, done, floor_of, deepest_of, uneven_records}
use Rattle.scalar_rule.specs.Ragged.{all_ready}
use Rattle.scalar_rule.specs.declared.sample.Record.{Record}
use Rattle.scalar_rule.proofs.Extremes.{greatest-at}
use Rattle.scalar_rule.proofs.ReachedRuns.{all_ready-reached, records-reached}
use Rattle.plane_sweep.specs.Uneven.{position_of, positions_of, uneven_part}
use Rattle.exchange_board.specs.declared.origin.Origin.{Origin}
use Rattle.exchange_board.specs.Content.{plan_of, slots_in, starts, rows_before}
use Rattle.exchange_board.specs.Stops.{IsStop}
use Rattle.exchange_board.specs.Views.{RaggedEndedView}

-- the states of the recorded samples at a stop, and their records, are reached from the start
reached-at : (o : Origin) (d : RaggedEndedView) → IsStop o d
    → AreReached (plan_of o) o.window.samples o.window.every (starts o) o.base.pending (λ b. uneven_part (plan_of o).size b d.stand) d.stand.pending
reached-at o d stop = record {
  some = let z = stop.fits.some_samples in omega arith;
  from = stop.from;
  each = λ b h. stop.reached b (let z = stop.fits.few_samples in omega arith);
  together = λ b t hb ht. refl;
  records = λ b f t hb ht from behind printed. stop.pending.each f b t from behind printed hb ht;
}

-- the rows of the stop below its least completed epoch, and then those from there, are all rows
pub records-resumed : (o : Origin) (d : RaggedEndedView) (e : ℕ) → IsStop o d → floor_of (positions_of d.stand) ≤ e
    → take (rows_before o (floor_of (positions_of d.stand)) * o.window.samples * slots_in o) d.records
    ++ uneven_records (plan_of o) (λ b. uneven_part (plan_of o).size b d.stand) d.stand.pending o.window.samples o.window.every e
    ≡ uneven_records (plan_of o) (starts o) o.base.pending o.window.samples o.window.every e
records-resumed o d e stop upto =
    let later : List Record = uneven_records (plan_of o) (λ b. uneven_part (plan_of o).size b d.stand) d.stand.pending o.window.samples o.window.every e in
    ap (λ r. r ++ later) stop.records
    ∙ records-reached (plan_of o) o.window.samples o.window.every e (starts o) o.base.pending (λ b. uneven_part (plan_of o).size b d.stand) d.stand.pending (reached-at o d stop) upto

-- the state with every slot at rest at an epoch that none is past
pub state-resumed : (o : Origin) (d : RaggedEndedView) (i e : ℕ) → IsStop o d → i < 64 → deepest_of (positions_of d.stand) ≤ e
    → all_ready (plan_of o) (uneven_part (plan_of o).size i d.stand) e ≡ all_ready (plan_of o) (starts o i) e
state-resumed o d i e stop small upto =
    let p : Plan = plan_of o in
    let ps = positions_of d.stand in
    let long : length ps ≡ slots_of p = length-map d.stand.places position_of ∙ stop.fits.places in
    all_ready-reached p (starts o i) (uneven_part p.size i d.stand) e (stop.reached i small)
    (λ t h. let deep = greatest-at (λ k. done (position_in ps k)) (length ps) t (omega (arith, long)) in omega arith)
