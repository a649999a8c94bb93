use Rattle.std.proofs.Common.{rules, ◌≡◌, ℕ, ◌+◌, ◌*◌, ◌<◌, List, [], ◌∷◌, ◌++◌, ap, sym, subst, ◌∙◌, arith, add_assoc}
use Rattle.std.proofs.Math.Nat.{add-mul}
use Rattle.scalar_rule.specs.declared.sample.Start.TheVariants.{Random}
use Rattle.spin_model.specs.Stream.{advanced}
use Rattle.spin_model.specs.Seeding.{start_words}
use Rattle.spin_model.proofs.Streams.{advanced-zero}
use Rattle.plane_sweep.specs.Beginnings.{Each, BeginsPlane}
use Rattle.plane_sweep.proofs.BeginningPlanes.{begins-plane, moved-plane}
use Rattle.plane_sweep.proofs.Gathering.{each-pushed}
use Rattle.plane_sweep.proofs.opening.push_colour.Goals as goal

pub planes-init : goal.planes-init
planes-init c =
    let l = c.args.plan.now.size in
    let Before : ℕ → Type 0 = λ n. Each (BeginsPlane c.args.plan.now c.args.beginning.start c.args.beginning.bank c.args.beginning.slot c.args.beginning.replica) n c.args.planes.now.items in
    let none : 2 * (l * l) * 0 ≡ 0 = omega arith in
    let place : c.args.colour * l ≡ c.args.colour * l + 0 = omega arith in
    let seeded : c.seeded-wheel.result ≡ start_words c.args.plan.now.seed c.args.beginning.slot c.args.beginning.replica c.args.beginning.bank = search rules in
    record {
      planes = subst Before place c.requires.before;
      wheel = λ random. seeded ∙ sym (advanced-zero _) ∙ ap (advanced (start_words c.args.plan.now.seed c.args.beginning.slot c.args.beginning.replica c.args.beginning.bank)) (sym none);
    }

pub planes-preserved : goal.planes-preserved
planes-preserved c =
    let plan = c.args.plan.now in
    let l = plan.size in
    let first : List ℕ = start_words plan.seed c.args.beginning.slot c.args.beginning.replica c.args.beginning.bank in
    let pushed : c.push.new.self.items ≡ c.planes.planes.items ++ (record { words = c.in_ok-opening_words.field-0; wheel = c.seeded.result }) ∷ [] = c.in_ok-push.ensures.items in
    let size : c.lattice-lattice.result ≡ l = c.lattice-lattice.ensures.value in
    let end : c.size-z-end.result ≡ c.lattice-lattice.result = c.size-z-end.ensures.value in
    let plane : c.planes.z < l = omega arith in
    let made = begins-plane plan c.args.beginning.start c.args.beginning.bank c.args.beginning.slot c.args.beginning.replica c.args.colour c.planes.z c.planes.wheel c.in_ok-opening_words.field-0 c.seeded.result
    c.lattice-lattice.ensures.lawful.size plane c.planes.invariant.wheel
    (rw (← size) c.in_ok-opening_words.ensures.words)
    (rw (← size) c.in_ok-opening_words.ensures.up)
    (rw (← size) c.in_ok-opening_words.ensures.random)
    (rw (← c.seed-in-planes.ensures.value) c.seeded.ensures.same)
    (search rules) in
    let After : ℕ → Type 0 = λ n. Each (BeginsPlane plan c.args.beginning.start c.args.beginning.bank c.args.beginning.slot c.args.beginning.replica) n (c.planes.planes.items ++ (record { words = c.in_ok-opening_words.field-0; wheel = c.seeded.result }) ∷ []) in
    let place : c.args.colour * l + c.planes.z + 1 ≡ c.args.colour * l + (c.planes.z + 1) = add_assoc _ _ _ in
    let moved : c.args.beginning.start ≡ Random → c.opening_words.new.wheel ≡ advanced c.planes.wheel (2 * (l * l)) =
    λ random. c.in_ok-opening_words.ensures.moved random ∙ ap (λ n. advanced c.planes.wheel (2 * (n * n))) size in
    record {
      planes = rw pushed (subst After place (each-pushed _ _ _ _ c.planes.invariant.planes made));
      wheel = λ random. moved-plane first c.planes.wheel _ (2 * (l * l)) c.planes.z (c.planes.invariant.wheel random) (moved random);
    }

pub returns : goal.returns
returns c =
    let size : c.size-z-end.result ≡ c.args.plan.now.size = c.size-z-end.ensures.value ∙ c.lattice-lattice.ensures.value in
    let all : c.planes.z ≡ c.args.plan.now.size = omega arith in
    let Before : ℕ → Type 0 = λ n. Each (BeginsPlane c.args.plan.now c.args.beginning.start c.args.beginning.bank c.args.beginning.slot c.args.beginning.replica) n c.planes.planes.items in
    let more = add-mul c.args.colour 1 c.args.plan.now.size in
    let place : c.args.colour * c.args.plan.now.size + c.planes.z ≡ (c.args.colour + 1) * c.args.plan.now.size = omega arith in
    subst Before place c.planes.invariant.planes
