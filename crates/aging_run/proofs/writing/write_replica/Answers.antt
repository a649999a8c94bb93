use Rattle.std.proofs.Common.{◌≡◌, ◌+◌, get_or, arith, refl, sym, ap, ◌∙◌}
use Rattle.plane_sweep.specs.Packed.{part_copy}
use Rattle.scalar_rule.specs.declared.plain_copy.PlainCopy.{PlainCopy}
use Rattle.spin_model.specs.Lattice.{volume}
use Rattle.aging_run.specs.Aging.{time_lines, overlaps_at}
use Rattle.aging_run.specs.Measuring.{overlap_in}
use Rattle.aging_run.proofs.Listed.{listed-more, listed-at}
use Rattle.glass_edges.proofs.Writing.{writes-none, writes-more, writes-stopped, writes-same}
use Rattle.aging_run.proofs.Times.{before-first, before-next, before-earlier, swept-same, swept-on, measured, HasSwept}
use Rattle.aging_run.proofs.writing.write_replica.Goals as goal
use Rattle.aging_run.proofs.writing.write_replica.Goals.{After-sites}

pub keep-requires : goal.keep-requires
keep-requires g c = record {
  size = c.args.order.now.plan.now.size;
  lawful = c.lattice-lattice.ensures.lawful.size;
  first = c.requires.kept;
  second = c.sweep_often.ensures.fits;
}

pub times-init : goal.times-init
times-init g c = record {
  written = writes-none refl;
  swept = swept-same c.args.order.now.plan.now c.args.place.slot _ (c.args.order.now.wait + 0) c.args.replica.now c.sweep_often.new.replica c.sweep_often.ensures.swept (omega (arith, c.requires.wait));
  spins = λ b small. c.keep.ensures.spins c.args.order.now.plan.now.size b c.sweep_often.ensures.fits ∙ ap (λ (r : PlainCopy). r.spins) (c.sweep_often.ensures.swept b small);
  fits = c.sweep_often.ensures.fits;
  room = c.keep.ensures.fits c.args.order.now.plan.now.size c.requires.kept;
  last = sym (before-first c.args.order.now.times.now);
}

pub overflow_sub-time : goal.overflow_sub-time
overflow_sub-time g c = omega (arith, before-earlier c.args.order.now.times.now c.times.k c.requires.times c.times-test.true, c.times.invariant.last)

pub agreeing-totals-requires : goal.agreeing-totals-requires
agreeing-totals-requires g c = record {
  size = c.args.order.now.plan.now.size;
  lawful = c.lattice-lattice.ensures.lawful.size;
  first = c.times.invariant.room;
  second = c.sweep_often-in-times.ensures.fits;
}

-- the replica has made the sweeps to this time
swept-now : (g : _) (c : After-sites g)
    → HasSwept c.args.order.now.plan.now c.args.place.slot (c.args.order.now.wait + get_or c.args.order.now.times.now c.times.k 0) c.args.replica.now c.sweep_often-in-times.new.replica
swept-now g c =
    let times = c.args.order.now.times.now in
    let earlier = before-earlier times c.times.k c.requires.times c.times-test.true in
    let short = c.requires.times.each c.times.k 0 c.times-test.true in
    let last = c.times.invariant.last in
    swept-on c.args.order.now.plan.now c.args.place.slot (c.args.order.now.wait + c.times.done) _ (c.args.order.now.wait + get_or times c.times.k 0) c.args.replica.now c.times.replica c.sweep_often-in-times.new.replica
    c.times.invariant.swept c.sweep_often-in-times.ensures.swept (omega arith)

-- the lines that are put are those at this time
lines : (g : _) (c : After-sites g)
    → time_lines c.args.place.slot c.args.place.copy (get_or c.args.order.now.times.now c.times.k 0) (overlap_in c.agreeing-totals.result.words c.sites.result) c.args.order.now.samples
    ≡ time_lines c.args.place.slot c.args.place.copy (get_or c.args.order.now.times.now c.times.k 0)
    (overlaps_at c.args.order.now.plan.now c.args.place.slot c.args.order.now.wait (λ b. part_copy c.args.order.now.plan.now.size b c.args.replica.now) (get_or c.args.order.now.times.now c.times.k 0)) c.args.order.now.samples
lines g c =
    let order = c.args.order.now in
    measured order.plan.now c.args.place.slot c.args.place.copy order.wait (get_or order.times.now c.times.k 0) c.sites.result order.samples c.agreeing-totals.result.words c.args.replica.now c.keep.new.kept c.sweep_often-in-times.new.replica c.requires.samples
    (λ b small. c.agreeing-totals.ensures.value order.plan.now.size b c.times.invariant.room small) (c.sites.ensures.value ∙ ap volume c.lattice-lattice.ensures.value) c.times.invariant.spins (swept-now g c)

pub times-preserved : goal.times-preserved
times-preserved g c =
    let at = (goal.at.times-preserved g c).After-sites in
    record {
      written = writes-more c.times.invariant.written (writes-same (lines g at) c.in_ok-write_time.ensures) (listed-more _ c.args.order.now.times.now c.times.k c.times-test.true);
      swept = swept-now g at;
      spins = c.times.invariant.spins;
      fits = c.sweep_often-in-times.ensures.fits;
      room = c.times.invariant.room;
      last = sym (before-next c.args.order.now.times.now c.times.k);
    }

pub returns-in_err-write_time-clause-written : goal.returns-in_err-write_time-clause-written
returns-in_err-write_time-clause-written g c =
    let at = (goal.at.returns-in_err-write_time-clause-written g c).After-sites in
    writes-stopped _ c.from_residual.ensures.0 c.times.invariant.written (writes-same (lines g at) c.in_err-write_time.ensures) (listed-at _ c.args.order.now.times.now c.times.k c.times-test.true)
