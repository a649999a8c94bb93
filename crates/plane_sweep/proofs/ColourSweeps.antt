-- A sweep: the planes of colour 0, and then those of colour 1.
use Rattle.std.proofs.Common.{◌≡◌, ℕ, ◌+◌, ◌-◌, ◌*◌, ◌<◌, ◌≤◌, List, ◌++◌, All, length, get_or, take, drop, refl, sym, ap, subst, ◌∙◌, arith, get_or-drop, length-drop, length-append}
use Rattle.std.proofs.lemmas.List.{take_at, drop_at, get_or-take, get_or_append_left, get_or-append_right, length-take-le, take-append-drop}
use Rattle.std.proofs.lemmas.List.Elements.{All-append}
use Rattle.coupling_set.specs.CouplingWords.{CouplingsView}
use Rattle.spin_model.specs.Lattice.{IsLawfulSize}
use Rattle.scalar_rule.specs.Plan.{Plan, dynamics_of}
use Rattle.scalar_rule.specs.Replica.{configuration_of, with_configuration}
use Rattle.scalar_rule.specs.SlotRules.{HasThresholds}
use Rattle.scalar_rule.specs.Sweep.{Dynamics, half_sweep, sweep, sweeps}
use Rattle.scalar_rule.specs.declared.plain_copy.PlainCopy.{PlainCopy}
use Rattle.spin_model.proofs.Stepping.{steps-zero, steps-more}
use Rattle.scalar_rule.proofs.PlanDynamics.{sweep-read, with_configuration-is}
use Rattle.plane_sweep.specs.Packed.{plane_at, part_copy, FitsPlane, FitsReplica}
use Rattle.plane_sweep.specs.PlaneSweep.{SweepsPlane, SweepsColours}
use Rattle.plane_sweep.specs.Storing.{Changed}
use Rattle.plane_sweep.specs.declared.replica.Plane.{Plane}
use Rattle.plane_sweep.specs.declared.replica.Replica.{Replica}
use Rattle.threshold_table.specs.declared.rule_table.SlotRule.{SlotRule}
use Rattle.plane_sweep.proofs.Empties.{no_plane}
use Rattle.plane_sweep.proofs.Gathering.{all-changed}
use Rattle.plane_sweep.proofs.SampleSweeps.{HalfSwept, dynamics_by, configuration_in, half-swept}

-- both colours, one behind the other
pub sweeps-colours : (couplings : CouplingsView) (rule : SlotRule) (old a b a' b' : List Plane) → a ≡ take couplings.size old → b ≡ drop couplings.size old → length old ≡ 2 * couplings.size
    → Changed (SweepsPlane couplings b rule 0) couplings.size a a' → Changed (SweepsPlane couplings a' rule 1) couplings.size b b' → SweepsColours couplings rule old (a' ++ b')
sweeps-colours couplings rule old a b a' b' front back count one two =
    let l = couplings.size in
    let long : length a ≡ l = ap length front ∙ length-take-le l old (omega arith) in
    let long_back : length b ≡ l = ap length back ∙ length-drop l old ∙ omega arith in
    let first_long : length a' ≡ l = one.sized ∙ long in
    let second_long : length b' ≡ l = two.sized ∙ long_back in
    let head : take l (a' ++ b') ≡ a' = take_at a' b' l first_long in
    let tail : drop l (a' ++ b') ≡ b' = drop_at a' b' l first_long in
    record {
      sized = length-append a' b' ∙ omega arith;
      first = rw (← front, ← back, head) one;
      second = rw (← back, head, tail) two;
    }

-- the planes after the first half sweep
abbrev midway : ℕ → List Plane → List Plane → List Plane
midway l old new = take l new ++ drop l old

midway-front : (l z : ℕ) (old new : List Plane) → z < l → l ≤ length new → plane_at (midway l old new) z ≡ plane_at new z
midway-front l z old new below room =
    let long = length-take-le l new room in
    get_or_append_left (take l new) (drop l old) no_plane z (omega arith) ∙ get_or-take l new z no_plane below

midway-back : (l z : ℕ) (old new : List Plane) → l ≤ length new → plane_at (midway l old new) (l + z) ≡ plane_at old (l + z)
midway-back l z old new room =
    let long = length-take-le l new room in
    let place : l + z - l ≡ z = omega arith in
    get_or-append_right (take l new) (drop l old) l (l + z) no_plane long (omega arith) ∙ ap (plane_at (drop l old)) place ∙ get_or-drop l old z no_plane

first-half : (couplings : CouplingsView) (rule : SlotRule) (old new : List Plane) → length old ≡ 2 * couplings.size → SweepsColours couplings rule old new
    → HalfSwept couplings rule 0 (drop couplings.size old) old (midway couplings.size old new)
first-half couplings rule old new count swept =
    let l = couplings.size in
    let sized = swept.sized in
    let front_long = length-take-le l new (omega arith) in
    let back_long = length-drop l old in
    record {
      before = count;
      after = length-append (take l new) (drop l old) ∙ omega arith;
      others = λ z below.
          let place : l + z ≡ (1 - 0) * l + z = omega arith in
          get_or-drop l old z no_plane ∙ ap (plane_at old) place;
      own = λ z below.
          let place : 0 * l + z ≡ z = omega arith in
          let S : Plane → Type 0 = λ p. SweepsPlane couplings (drop l old) rule 0 z p (plane_at (midway l old new) z) in
          let T : Plane → Type 0 = λ p. SweepsPlane couplings (drop l old) rule 0 z (plane_at (take l old) z) p in
          let made = swept.first.done z no_plane below in
          let turned = subst S (get_or-take l old z no_plane below) (subst T (get_or-take l new z no_plane below ∙ sym (midway-front l z old new below (omega arith))) made) in
          let R : ℕ → Type 0 = λ n. SweepsPlane couplings (drop l old) rule 0 z (plane_at old n) (plane_at (midway l old new) n) in
          subst R (sym place) turned;
      kept = λ z below.
          let place : l + z ≡ (1 - 0) * l + z = omega arith in
          ap (plane_at (midway l old new)) (sym place) ∙ midway-back l z old new (omega arith) ∙ ap (plane_at old) place;
    }

second-half : (couplings : CouplingsView) (rule : SlotRule) (old new : List Plane) → length old ≡ 2 * couplings.size → SweepsColours couplings rule old new
    → HalfSwept couplings rule 1 (take couplings.size new) (midway couplings.size old new) new
second-half couplings rule old new count swept =
    let l = couplings.size in
    let sized = swept.sized in
    let front_long = length-take-le l new (omega arith) in
    let back_long = length-drop l old in
    record {
      before = length-append (take l new) (drop l old) ∙ omega arith;
      after = sized ∙ count;
      others = λ z below.
          let place : z ≡ (1 - 1) * l + z = omega arith in
          get_or-take l new z no_plane below ∙ sym (midway-front l z old new below (omega arith)) ∙ ap (plane_at (midway l old new)) place;
      own = λ z below.
          let place : l + z ≡ 1 * l + z = omega arith in
          let made = swept.second.done z no_plane below in
          let S : Plane → Type 0 = λ p. SweepsPlane couplings (take l new) rule 1 z p (plane_at new (l + z)) in
          let T : Plane → Type 0 = λ p. SweepsPlane couplings (take l new) rule 1 z (plane_at (drop l old) z) p in
          let turned = subst S (get_or-drop l old z no_plane ∙ sym (midway-back l z old new (omega arith))) (subst T (get_or-drop l new z no_plane) made) in
          let R : ℕ → Type 0 = λ n. SweepsPlane couplings (take l new) rule 1 z (plane_at (midway l old new) n) (plane_at new n) in
          subst R place turned;
      kept = λ z below.
          let place : z ≡ (1 - 1) * l + z = omega arith in
          ap (plane_at new) (sym place) ∙ sym (midway-front l z old new below (omega arith)) ∙ ap (plane_at (midway l old new)) place;
    }

-- in each sample, the sweep of the definitions by the slot's rule as the program has it
colours-swept : (couplings : CouplingsView) (rule : SlotRule) (b : ℕ) (old new : List Plane) → IsLawfulSize couplings.size → b < 64 → length old ≡ 2 * couplings.size → SweepsColours couplings rule old new
    → configuration_in couplings.size b new ≡ sweep (dynamics_by couplings rule b) (configuration_in couplings.size b old)
colours-swept couplings rule b old new lawful below count swept =
    half-swept couplings rule b 1 _ _ new lawful below (omega arith) (second-half couplings rule old new count swept)
    ∙ ap (half_sweep (dynamics_by couplings rule b) 1) (half-swept couplings rule b 0 _ old _ lawful below (omega arith) (first-half couplings rule old new count swept))

-- by the slot's rule in the plan
pub swept-part : (plan : Plan) (slot b : ℕ) (rule : SlotRule) (old new : Replica) → IsLawfulSize plan.couplings.size → plan.couplings.size ≡ plan.size → b < 64 → length old.planes ≡ 2 * plan.couplings.size
    → HasThresholds plan.rules slot rule → new.labels ≡ old.labels → SweepsColours plan.couplings rule old.planes new.planes
    → part_copy plan.size b new ≡ with_configuration (part_copy plan.size b old) (sweep (dynamics_of plan b slot) (configuration_of (part_copy plan.size b old)))
swept-part plan slot b rule old new lawful side below count is labels swept =
    let l = plan.couplings.size in
    let made = colours-swept plan.couplings rule b old.planes new.planes lawful below count swept in
    let read = sweep-read plan b slot l b (record { kind = rule.kind; row = rule.row }) plan.couplings (configuration_in l b old.planes) (record { side = side; sample = refl; thresholds = record { kind = is.kind; cases = is.cases }; signs = refl }) in
    let C : ℕ → Type 0 = λ n. configuration_in n b new.planes ≡ sweep (dynamics_of plan b slot) (configuration_in n b old.planes) in
    with_configuration-is (part_copy plan.size b new) (part_copy plan.size b old) _ (subst C side (made ∙ read)) (ap (λ xs. get_or xs b 0) labels)

pub swept-fits : (couplings : CouplingsView) (rule : SlotRule) (old new : Replica) → FitsReplica couplings.size old → new.labels ≡ old.labels → SweepsColours couplings rule old.planes new.planes → FitsReplica couplings.size new
swept-fits couplings rule old new fits labels swept =
    let l = couplings.size in
    let count = fits.count in
    let sized = swept.sized in
    let front = all-changed _ (FitsPlane l) l (take l old.planes) (take l new.planes) swept.first (length-take-le l old.planes (omega arith)) (λ z x y within made. made.fits) in
    let back = all-changed _ (FitsPlane l) l (drop l old.planes) (drop l new.planes) swept.second (length-drop l old.planes ∙ omega arith) (λ z x y within made. made.fits) in
    let P : List Plane → Type 0 = λ xs. All (FitsPlane l) xs in
    record {
      count = sized ∙ count;
      planes = subst P (take-append-drop l new.planes) (All-append (FitsPlane l) (take l new.planes) (drop l new.planes) front back);
      labels = ap length labels ∙ fits.labels;
    }

-- no sweep, and one more
pub sweeps-none : (d : Dynamics) (x : PlainCopy) → x ≡ with_configuration x (sweeps d 0 (configuration_of x))
sweeps-none d x = ap (with_configuration x) (sym (steps-zero (λ _ t. sweep d t) 0 (configuration_of x)))

pub sweeps-more : (d : Dynamics) (k : ℕ) (x y z : PlainCopy) → z ≡ with_configuration y (sweep d (configuration_of y)) → y ≡ with_configuration x (sweeps d k (configuration_of x))
    → z ≡ with_configuration x (sweeps d (k + 1) (configuration_of x))
sweeps-more d k x y z last before =
    last ∙ (ap (λ (w : PlainCopy). with_configuration w (sweep d (configuration_of w))) before
    ∙ ap (with_configuration x) (sym (steps-more (λ _ t. sweep d t) 0 k (configuration_of x))))
