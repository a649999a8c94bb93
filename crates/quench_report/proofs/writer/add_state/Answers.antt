-- The sums of a sample's bank are held, so its lines are those of the states.
use Rattle.std.proofs.Common.{◌≡◌, ℕ, ◌+◌, ◌/◌, ◌<◌, ◌++◌, List, map, refl, ap, subst, ◌∙◌, arith}
use Rattle.std.specs.Arc.{arc_value}
use Rattle.glass_edges.proofs.Writing.{fronts-none, fronts-more, fronts-stopped, fronts-same}
use Rattle.spin_model.proofs.Joined.{joined-zero, joined-more, joined-at}
use Rattle.scalar_rule.specs.Plan.{Plan}
use Rattle.plane_sweep.specs.declared.stand.Stand.{Stand}
use Rattle.quenched_states.specs.QuenchText.{QuenchHeading}
use Rattle.quench_report.specs.Held.{bank_fields, bank_seen, HoldBank, HoldKept}
use Rattle.quench_report.specs.States.{bank_plan, heading_of, plan_among, AreKept}
use Rattle.quench_report.specs.declared.measuring.KeptSums.{KeptSums}
use Rattle.quench_report.proofs.Banks.{plan-size}
use Rattle.quench_report.proofs.Samples.{sample-shown}
use Rattle.quench_report.proofs.writer.add_state.Goals as goal

-- what is held of the states as they are is held of those that were given
held-before : (plan : Plan) (states now : List (List Stand)) (j w n : ℕ) (room : List KeptSums) → now ≡ states → HoldBank plan now j w room n → HoldBank plan states j w room n
held-before plan states now j w n room same = subst (λ (xs : List (List Stand)). HoldBank plan xs j w room n) same

-- on the lattice of the heading
on-lattice : (h : QuenchHeading) (plans : List Plan) (states : List (List Stand)) (j b : ℕ) (room : List KeptSums) → AreKept h plans states → b < h.samples
    → HoldBank (plan_among plans b) states j (b / 64) room h.slots
    → HoldKept h.size j room (bank_seen (plan_among plans b) states j (b / 64)) (bank_fields (plan_among plans b).size states j (b / 64)) h.slots
on-lattice h plans states j b room are below held =
    subst (λ (l : ℕ). HoldKept l j room (bank_seen (plan_among plans b) states j (b / 64)) (bank_fields (plan_among plans b).size states j (b / 64)) h.slots)
    (plan-size h plans states b are below) held

-- for the next sample, unless it is the first of a bank
held-after : (plans : List Plan) (states : List (List Stand)) (j b n : ℕ) (room : List KeptSums) → b / 64 ≡ (b + 1) / 64 → HoldBank (plan_among plans b) states j (b / 64) room n
    → HoldBank (plan_among plans (b + 1)) states j ((b + 1) / 64) room n
held-after plans states j b n room same = subst (λ (g : ℕ). HoldBank (bank_plan plans g) states j g room n) same

pub samples-init : goal.samples-init
samples-init g c = record { added = fronts-none (joined-zero _ _); held = λ apart. absurd (apart refl); room = c.requires.room; same = refl }

pub samples-preserved : goal.samples-preserved
samples-preserved g c =
    let h = heading_of c.args.quench.now.head.now in
    let plans = map arc_value c.args.quench.now.plans.now in
    let states = c.args.states.now in
    let j = c.args.state in
    let b = c.samples.sample in
    let below = c.samples-test.true in
    let room = c.hold_bank.new.room in
    let plan = plan_among plans b in
    let held = held-before plan states c.samples.states j (b / 64) h.slots room c.samples.invariant.same c.hold_bank.ensures.held in
    let front = c.in_ok-add_sample.ensures (bank_seen plan states j (b / 64)) (bank_fields plan.size states j (b / 64)) (on-lattice h plans states j b room c.requires.kept below held) in
    let shown = ap (λ (xs : List ℕ). c.samples.line ++ xs) (sample-shown h plans states j b c.requires.kept c.requires.state below) in
    record {
      added = fronts-more _ _ _ c.samples.invariant.added (fronts-same shown front) (joined-more _ _ b);
      held = λ apart. held-after plans states j b h.slots room (omega (arith, apart)) held;
      room = c.hold_bank.ensures.room;
      same = c.hold_bank.ensures.states ∙ c.samples.invariant.same;
    }

pub returns-in_err-add_sample : goal.returns-in_err-add_sample
returns-in_err-add_sample g c =
    let h = heading_of c.args.quench.now.head.now in
    let plans = map arc_value c.args.quench.now.plans.now in
    let states = c.args.states.now in
    let j = c.args.state in
    let b = c.samples.sample in
    let below = c.samples-test.true in
    let room = c.hold_bank.new.room in
    let plan = plan_among plans b in
    let held = held-before plan states c.samples.states j (b / 64) h.slots room c.samples.invariant.same c.hold_bank.ensures.held in
    let front = c.in_err-add_sample.ensures (bank_seen plan states j (b / 64)) (bank_fields plan.size states j (b / 64)) (on-lattice h plans states j b room c.requires.kept below held) in
    let shown = ap (λ (xs : List ℕ). c.samples.line ++ xs) (sample-shown h plans states j b c.requires.kept c.requires.state below) in
    record {
      text = fronts-stopped _ _ _ _ c.from_residual.ensures.0 c.samples.invariant.added (fronts-same shown front) (joined-at _ _ b _ below);
      room = c.hold_bank.ensures.room;
      states = c.hold_bank.ensures.states ∙ c.samples.invariant.same;
    }
