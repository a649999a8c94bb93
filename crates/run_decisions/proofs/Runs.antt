-- A run of the defined dynamics is its decisions in order, each by the draw at its address.
use Rattle.std.proofs.Common.{◌≡◌, ℕ, zero, suc, ◌+◌, ◌-◌, ◌*◌, ◌<◌, Bool, true, false, cond, ltb, List, [], ◌∷◌, ◌++◌, length, get_or, map, flat_map, refl, ap, sym, ◌∙◌, arith, add-one, add-zero}
use Rattle.std.proofs.lemmas.Bool.{ltb-true}
use Rattle.spin_model.specs.Words.{one_if}
use Rattle.spin_model.specs.Steps.{steps, table, count_below}
use Rattle.spin_model.specs.Stream.{draw, advanced}
use Rattle.spin_model.specs.Lattice.{IsLawfulSize, volume, colour, z_of, half_plane, place_in_plane}
use Rattle.spin_model.proofs.Streams.{advanced-zero, advanced-advanced, draw-advanced}
use Rattle.spin_model.proofs.Sites.{z_of-below}
use Rattle.spin_model.proofs.Joined.{joined-zero, joined-more}
use Rattle.scalar_rule.specs.Plan.{Plan, slots_of, dynamics_of, IsLawfulPlan}
use Rattle.scalar_rule.specs.Replica.{configuration_of}
use Rattle.scalar_rule.specs.Epoch.{slot_at, has_turn, epoch}
use Rattle.scalar_rule.specs.Serial.{serial}
use Rattle.scalar_rule.specs.Shape.{Fits, FitsCopy}
use Rattle.scalar_rule.specs.declared.sample.PlainSlot.{PlainSlot}
use Rattle.scalar_rule.specs.declared.sample.Sample.{Sample}
use Rattle.scalar_rule.proofs.Resuming.{epochs}
use Rattle.finite_chance.specs.Chains.{after}
use Rattle.run_decisions.specs.Decisions.{Decision, Exchange, ExchangeGenerator, decide, slot_of, places_of, copy_at, state_of, swept_state, epoch_sweeps, words_of, address_of, draw_at, exchanges, turns_of, sweeps_decisions, epoch_decisions, run_decisions}
use Rattle.run_decisions.proofs.Places.{decided, decided-none, decided-more}
use Rattle.run_decisions.proofs.WordsMoved.{sweeps-words, length-sweeps}
use Rattle.run_decisions.proofs.Exchanges.{exchanges-parts}
use Rattle.run_decisions.proofs.Epochs.{slot-below, wheels-after, pair-after, HasEpochDraws, epoch-decided, sweeps-only}

-- how a state stands n epochs after s
pub record Stands (plan : Plan) (s now : Sample) (n : ℕ) : Type 0 where
  pub bit : now.bit ≡ s.bit
  pub epoch : now.epoch ≡ s.epoch + n
  pub sized : (p : ℕ) → p < places_of plan → length (copy_at plan now p).wheels ≡ 2 * plan.size
  pub wheels : (p c z : ℕ) → p < places_of plan → c < 2 → z < plan.size
      → get_or (copy_at plan now p).wheels (c * plan.size + z) [] ≡ advanced (get_or (copy_at plan s p).wheels (c * plan.size + z) []) (n * plan.sweeps * half_plane plan.size)
  pub pairs : (p : ℕ) → p < places_of plan → slot_of plan p + 1 < slots_of plan
      → words_of plan now (ExchangeGenerator p) ≡ advanced (words_of plan s (ExchangeGenerator p)) (turns_of plan s.epoch n p * 64)

stands-none : (plan : Plan) (s : Sample) → ((p : ℕ) → p < places_of plan → length (copy_at plan s p).wheels ≡ 2 * plan.size) → Stands plan s s 0
unfolding count_below
stands-none plan s sized = record {
  bit = refl;
  epoch = sym (add-zero s.epoch);
  sized = sized;
  wheels = λ p c z below few under. sym (advanced-zero _) ∙ ap (advanced (get_or (copy_at plan s p).wheels (c * plan.size + z) [])) (omega arith);
  pairs = λ p below paired. sym (advanced-zero _);
}

stands-more : (plan : Plan) (s now : Sample) (n : ℕ) → Stands plan s now n → Stands plan s (epoch plan now) (suc n)
unfolding count_below
stands-more plan s now n h = record {
  bit = h.bit;
  epoch = let e = h.epoch in omega arith;
  sized = λ p below. ap length (wheels-after plan now p below) ∙ length-sweeps (dynamics_of plan now.bit (slot_of plan p)) plan.sweeps (configuration_of (copy_at plan now p)) ∙ h.sized p below;
  wheels = λ p c z below few under.
      let w = get_or (copy_at plan s p).wheels (c * plan.size + z) [] in
      ap (λ ws. get_or ws (c * plan.size + z) []) (wheels-after plan now p below)
      ∙ sweeps-words (dynamics_of plan now.bit (slot_of plan p)) plan.sweeps c z (configuration_of (copy_at plan now p)) few under (h.sized p below)
      ∙ ap (λ v. advanced v (plan.sweeps * half_plane plan.size)) (h.wheels p c z below few under)
      ∙ advanced-advanced w (n * plan.sweeps * half_plane plan.size) (plan.sweeps * half_plane plan.size)
      ∙ ap (advanced w) (omega arith);
  pairs = λ p below paired.
      let w = words_of plan s (ExchangeGenerator p) in
      let m = turns_of plan s.epoch n p in
      pair-after plan now p below paired
      ∙ ap (λ v. advanced v (64 * one_if (has_turn (slot_of plan p) now.epoch))) (h.pairs p below paired)
      ∙ advanced-advanced w (m * 64) (64 * one_if (has_turn (slot_of plan p) now.epoch))
      ∙ ap (λ e. advanced w (m * 64 + 64 * one_if (has_turn (slot_of plan p) e))) h.epoch
      ∙ ap (advanced w) (omega arith);
}

stands : (plan : Plan) (s : Sample) (start n : ℕ) → ((p : ℕ) → p < places_of plan → length (copy_at plan s p).wheels ≡ 2 * plan.size) → Stands plan s (epochs plan start n s) n
unfolding steps
stands plan s start zero sized = stands-none plan s sized
stands plan s start (suc n) sized = stands-more plan s (epochs plan start n s) n (stands plan s start n sized)

-- the draws of a run from s, as an epoch of it needs them
abbrev drawn_from : Plan → Sample → Decision → ℕ
drawn_from plan s d = draw_at plan s (address_of plan s.bit d)

z-small : (l i : ℕ) → IsLawfulSize l → i < volume l → z_of l i < l
z-small l i lawful within = let least = lawful.0 in z_of-below l i (omega arith) within

coloured : (l i : ℕ) → colour l i < 2
coloured l i = omega arith

has-draws : (plan : Plan) (s now : Sample) (n : ℕ) → IsLawfulSize plan.size → Stands plan s now n → HasEpochDraws plan now (n * plan.sweeps) (turns_of plan s.epoch n) (drawn_from plan s)
unfolding address_of words_of
has-draws plan s now n lawful h = record {
  sweeps = λ p below j i under within.
      let l = plan.size in
      let w = get_or (copy_at plan s p).wheels (colour l i * l + z_of l i) [] in
      ap (draw w) (let e : (n * plan.sweeps + j) * half_plane l + place_in_plane l i ≡ n * plan.sweeps * half_plane l + (j * half_plane l + place_in_plane l i) = omega arith in e)
      ∙ sym (draw-advanced w (n * plan.sweeps * half_plane l) (j * half_plane l + place_in_plane l i))
      ∙ ap (λ v. draw v (j * half_plane l + place_in_plane l i)) (sym (h.wheels p (colour l i) (z_of l i) below (coloured l i) (z-small l i lawful within)));
  exchanges = λ p below turns.
      let paired : slot_of plan p + 1 < slots_of plan = ltb-true _ _ (exchanges-parts _ _ turns).1 in
      let m = turns_of plan s.epoch n p in
      sym (draw-advanced (words_of plan s (ExchangeGenerator p)) (m * 64) s.bit)
      ∙ ap (λ v. draw v s.bit) (sym (h.pairs p below paired))
      ∙ ap (draw (words_of plan now (ExchangeGenerator p))) (sym h.bit);
}

run-decided : (plan : Plan) (s : Sample) (start n : ℕ) → IsLawfulSize plan.size → ((p : ℕ) → p < places_of plan → length (copy_at plan s p).wheels ≡ 2 * plan.size)
    → decided (decide plan s.bit) (drawn_from plan s) (run_decisions plan s.epoch n) (state_of plan s) ≡ state_of plan (epochs plan start n s)
unfolding steps
run-decided plan s start zero lawful sized =
    ap (λ decisions. decided (decide plan s.bit) (drawn_from plan s) decisions (state_of plan s)) (joined-zero (epoch_decisions plan s.epoch) (λ k. k))
    ∙ decided-none (decide plan s.bit) (drawn_from plan s) (state_of plan s)
run-decided plan s start (suc n) lawful sized =
    let go = decided (decide plan s.bit) (drawn_from plan s) in
    let now = epochs plan start n s in
    let h = stands plan s start n sized in
    let decisions : ℕ → List Decision = λ e.
    flat_map (sweeps_decisions plan (n * plan.sweeps) plan.sweeps) (table (λ p. p) (places_of plan))
    ++ flat_map (λ p. cond (exchanges plan e p) (Exchange p (turns_of plan s.epoch n p) ∷ []) []) (table (λ p. p) (places_of plan)) in
    ap (λ k. go (flat_map (epoch_decisions plan s.epoch) (table (λ k. k) k)) (state_of plan s)) (sym (add-one n))
    ∙ ap (λ ds. go ds (state_of plan s)) (joined-more (epoch_decisions plan s.epoch) (λ k. k) n)
    ∙ decided-more (decide plan s.bit) (drawn_from plan s) (run_decisions plan s.epoch n) (epoch_decisions plan s.epoch n) (state_of plan s)
    ∙ ap (go (epoch_decisions plan s.epoch n)) (run-decided plan s start n lawful sized)
    ∙ ap (λ e. go (decisions e) (state_of plan now)) (sym h.epoch)
    ∙ ap (λ b. decided (decide plan b) (drawn_from plan s) (decisions now.epoch) (state_of plan now)) (sym h.bit)
    ∙ epoch-decided plan now (n * plan.sweeps) (turns_of plan s.epoch n) (drawn_from plan s) lawful h.sized (has-draws plan s now n lawful h)

pub copy-fits : (plan : Plan) (s : Sample) (p : ℕ) → Fits plan s → p < places_of plan → FitsCopy plan.size (copy_at plan s p)
copy-fits plan s p fits below =
    let slot = fits.slots.each (slot_of plan p) (slot-below plan p below) in
    which (ltb p (slots_of plan)) (slot_at s.slots (slot_of plan p)) slot.first slot.second
  where
    which : (one : Bool) (x : PlainSlot) → FitsCopy plan.size x.first → FitsCopy plan.size x.second → FitsCopy plan.size (cond one x.first x.second)
    which true x first second = first
    which false x first second = second

pub runs-are-decisions : (plan : Plan) (s : Sample) (n : ℕ) → IsLawfulPlan plan → Fits plan s
    → state_of plan (serial plan s (s.epoch + n)) ≡ after (decide plan s.bit) (run_decisions plan s.epoch n) (map (λ d. draw_at plan s (address_of plan s.bit d)) (run_decisions plan s.epoch n)) (state_of plan s)
runs-are-decisions plan s n lawful fits =
    ap (λ m. state_of plan (epochs plan s.epoch m s)) (let e : s.epoch + n - s.epoch ≡ n = omega arith in e)
    ∙ sym (run-decided plan s s.epoch n lawful.size (λ p below. (copy-fits plan s p fits below).wheels))

pub swept-are-decisions : (plan : Plan) (s : Sample) (n : ℕ) → IsLawfulPlan plan → Fits plan s
    → swept_state plan (serial plan s (s.epoch + n))
    ≡ after (decide plan s.bit) (run_decisions plan s.epoch n ++ epoch_sweeps plan n) (map (λ d. draw_at plan s (address_of plan s.bit d)) (run_decisions plan s.epoch n ++ epoch_sweeps plan n)) (state_of plan s)
swept-are-decisions plan s n lawful fits =
    let sized : (p : ℕ) → p < places_of plan → length (copy_at plan s p).wheels ≡ 2 * plan.size = λ p below. (copy-fits plan s p fits below).wheels in
    let now = epochs plan s.epoch n s in
    let h = stands plan s s.epoch n sized in
    let go = decided (decide plan s.bit) (drawn_from plan s) in
    ap (λ m. swept_state plan (epochs plan s.epoch m s)) (let e : s.epoch + n - s.epoch ≡ n = omega arith in e)
    ∙ sym (decided-more (decide plan s.bit) (drawn_from plan s) (run_decisions plan s.epoch n) (epoch_sweeps plan n) (state_of plan s)
    ∙ ap (go (epoch_sweeps plan n)) (run-decided plan s s.epoch n lawful.size sized)
    ∙ ap (λ b. decided (decide plan b) (drawn_from plan s) (epoch_sweeps plan n) (state_of plan now)) (sym h.bit)
    ∙ sweeps-only plan now (n * plan.sweeps) (turns_of plan s.epoch n) (drawn_from plan s) lawful.size h.sized (has-draws plan s now n lawful.size h))
