-- One state more, whose lines are those of the states that were given.
use Rattle.std.proofs.Common.{◌≡◌, ℕ, ◌++◌, List, length, map, refl, ap, ◌∙◌, arith}
use Rattle.std.specs.Arc.{arc_value}
use Rattle.glass_edges.proofs.Writing.{fronts-none, fronts-more, fronts-stopped, fronts-same}
use Rattle.spin_model.proofs.Joined.{window-none, window-more, window-at}
use Rattle.scalar_rule.specs.Plan.{Plan}
use Rattle.plane_sweep.specs.declared.stand.Stand.{Stand}
use Rattle.quenched_states.specs.QuenchText.{QuenchHeading, lines_between, time_lines}
use Rattle.quench_report.specs.States.{heading_of, kept_fields, kept_seen}
use Rattle.quench_report.proofs.writer.add_states.Goals as goal

-- the lines of state j
abbrev of : QuenchHeading → List Plan → List (List Stand) → ℕ → List ℕ
of h plans states = time_lines h (kept_seen h.size plans states) (kept_fields h.size states)

pub states-init : goal.states-init
states-init g c = record { added = fronts-none (window-none _ _); room = c.requires.room; same = refl }

pub states-preserved : goal.states-preserved
states-preserved g c =
    let h = heading_of c.args.quench.now.head.now in
    let plans = map arc_value c.args.quench.now.plans.now in
    let j = c.states.j in
    let shown = ap (λ (xs : List (List Stand)). c.states.line ++ of h plans xs j) c.states.invariant.same in
    record {
      added = fronts-more _ _ _ c.states.invariant.added (fronts-same shown c.in_ok-add_state.ensures.text) (window-more (of h plans c.args.states.now) h.held j c.states.auto.j);
      room = c.add_state.ensures.room;
      same = c.add_state.ensures.states ∙ c.states.invariant.same;
    }

pub returns-in_err-add_state : goal.returns-in_err-add_state
returns-in_err-add_state g c =
    let h = heading_of c.args.quench.now.head.now in
    let plans = map arc_value c.args.quench.now.plans.now in
    let j = c.states.j in
    let shown = ap (λ (xs : List (List Stand)). c.states.line ++ of h plans xs j) c.states.invariant.same in
    record {
      text = fronts-stopped _ _ _ _ c.from_residual.ensures.0 c.states.invariant.added (fronts-same shown c.in_err-add_state.ensures.text)
          (window-at (of h plans c.args.states.now) h.held j (length h.times) c.states.auto.j c.states-test.true);
      states = c.add_state.ensures.states ∙ c.states.invariant.same;
    }

pub returns : goal.returns
returns g c =
    let h = heading_of c.args.quench.now.head.now in
    let plans = map arc_value c.args.quench.now.plans.now in
    let all : c.states.j ≡ length h.times = omega (arith, c.states-test.false, c.states.auto.j-end, c.requires.held) in
    record {
      text = fronts-same
          (ap (λ (n : ℕ). c.args.line.now ++ lines_between h (kept_seen h.size plans c.args.states.now) (kept_fields h.size c.args.states.now) h.held n) all) c.states.invariant.added;
      states = c.states.invariant.same;
    }
