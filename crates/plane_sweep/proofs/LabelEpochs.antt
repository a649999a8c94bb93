-- Labels stay a permutation of the slots' numbers under the serial dynamics: an epoch exchanges one pair after the other.
use Rattle.std.proofs.Common.{arith, inl, inr, ◌≡◌, ℕ, zero, suc, ◌+◌, ◌-◌, ◌<◌, ◌≤◌, Bool, cond, List, length, sym, refl, ◌∙◌, subst}
use Rattle.std.proofs.lemmas.Bool.{cases_Bool}
use Rattle.spin_model.specs.Steps.{steps}
use Rattle.spin_model.proofs.Tables.{get_or-table, length-table}
use Rattle.scalar_rule.specs.Epoch.{epoch, slot_at, pair_at, has_turn, swept_slot, swept_slots}
use Rattle.scalar_rule.specs.Plan.{Plan, slots_of, pairs_of}
use Rattle.scalar_rule.specs.Serial.{serial}
use Rattle.scalar_rule.specs.Turns.{exchanged_pair, after_turn, drawn_in_turn}
use Rattle.scalar_rule.specs.declared.sample.PlainPair.{PlainPair}
use Rattle.scalar_rule.specs.declared.sample.PlainSlot.{PlainSlot}
use Rattle.scalar_rule.specs.declared.sample.Sample.{Sample}
use Rattle.scalar_rule.proofs.PairTurns.{Exchanging, exchanging-zero, exchanging-more, exchanging-slots}
use Rattle.plane_sweep.specs.Packed.{PermutesAt, PermutesLabels}
use Rattle.plane_sweep.proofs.LabelSteps.{same-labels, labels-then, swept-labels, permutes-kept, pair-permutes}

turn-permutes : (plan : Plan) (b k e n : ℕ) (pairs : List PlainPair) (slots : List PlainSlot) → length slots ≡ n → k + 1 < n
    → PermutesAt n (λ t. slot_at slots t) → PermutesAt n (λ t. slot_at (after_turn plan b k e pairs slots) t)
unfolding after_turn
turn-permutes plan b k e n pairs slots long below p =
    let P : Bool → Type 0 = λ turn. PermutesAt n (λ t. slot_at (cond turn (exchanged_pair plan b k (pair_at pairs k) slots) slots) t) in
    elim (cases_Bool (has_turn k e)) [
      | inl on ↦ subst P (sym on) (pair-permutes plan b k n (pair_at pairs k) slots long below p)
      | inr off ↦ subst P (sym off) p
    ]

-- generators and slots once the pairs below k are done, and the labels there
record Done (plan : Plan) (b e : ℕ) (pairs : List PlainPair) (slots : List PlainSlot) (k : ℕ) : Type 0 where
  pairs_now : List PlainPair
  slots_now : List PlainSlot
  here : Exchanging plan b e pairs slots pairs_now slots_now k
  labels : PermutesAt (slots_of plan) (λ t. slot_at slots_now t)

turns : (plan : Plan) (b e : ℕ) (pairs : List PlainPair) (slots : List PlainSlot) → length slots ≡ slots_of plan → length pairs ≡ pairs_of plan → 0 < slots_of plan
    → PermutesAt (slots_of plan) (λ t. slot_at slots t) → (k : ℕ) → k ≤ pairs_of plan → Done plan b e pairs slots k
turns plan b e pairs slots sized paired some p zero upto = record { pairs_now = pairs; slots_now = slots; here = exchanging-zero plan b e pairs slots (omega arith); labels = p }
turns plan b e pairs slots sized paired some p (suc k) upto =
    let before = turns plan b e pairs slots sized paired some p k (omega arith) in
    let long = before.here.written.sized in
    let next : k + 1 ≡ suc k = omega arith in
    let E : ℕ → Type 0 = λ m. Exchanging plan b e pairs slots (drawn_in_turn k e before.pairs_now) (after_turn plan b k e before.pairs_now before.slots_now) m in
    record {
      pairs_now = drawn_in_turn k e before.pairs_now;
      slots_now = after_turn plan b k e before.pairs_now before.slots_now;
      here = subst E next (exchanging-more plan b e k pairs before.pairs_now slots before.slots_now sized paired (omega arith) before.here);
      labels = turn-permutes plan b k e (slots_of plan) before.pairs_now before.slots_now (long ∙ sized) (omega arith) before.labels;
    }

no-labels : (f : ℕ → PlainSlot) (n : ℕ) → n ≡ 0 → PermutesAt n f
no-labels f n none = record {
  first = record { below = λ t h. absurd (omega arith); apart = λ t u h. absurd (omega arith); onto = λ q h. absurd (omega arith) };
  second = record { below = λ t h. absurd (omega arith); apart = λ t u h. absurd (omega arith); onto = λ q h. absurd (omega arith) };
}

epoch-permutes : (plan : Plan) (s : Sample) → length s.pairs ≡ pairs_of plan → PermutesLabels plan s → PermutesLabels plan (epoch plan s)
epoch-permutes plan s paired p = some-permute (slots_of plan) refl
  where
    n : ℕ
    n = slots_of plan

    slots : List PlainSlot
    slots = swept_slots plan s

    swept : PermutesAt n (λ t. slot_at slots t)
    swept = permutes-kept n (λ t. slot_at s.slots t) (λ t. slot_at slots t) p (λ t h.
        labels-then _ _ _ (same-labels _ _ (get_or-table (λ k. swept_slot plan s.bit k (slot_at s.slots k)) n t _ h)) (swept-labels plan s.bit t (slot_at s.slots t)))

    some-permute : (m : ℕ) → m ≡ n → PermutesLabels plan (epoch plan s)
    some-permute zero none = no-labels _ n (sym none)
    some-permute (suc m) some =
        let sized = length-table (λ k. swept_slot plan s.bit k (slot_at s.slots k)) n in
        let all = turns plan s.bit s.epoch s.pairs slots sized paired (omega arith) swept (pairs_of plan) (omega arith) in
        let is = exchanging-slots plan s.bit s.epoch s.pairs all.pairs_now slots all.slots_now sized (omega arith) all.here in
        subst (λ x. PermutesAt n (λ t. slot_at x t)) is all.labels

steps-permute : (plan : Plan) (start n : ℕ) (s : Sample) → length s.pairs ≡ pairs_of plan → PermutesLabels plan s
    → (length (steps (λ _ t. epoch plan t) start n s).pairs ≡ pairs_of plan) × PermutesLabels plan (steps (λ _ t. epoch plan t) start n s)
unfolding steps
steps-permute plan start zero s paired p = (paired, p)
steps-permute plan start (suc n) s paired p =
    let before = steps-permute plan start n s paired p in
    (length-table _ (pairs_of plan), epoch-permutes plan (steps (λ _ t. epoch plan t) start n s) before.0 before.1)

-- the labels of a sample stay a permutation under the serial dynamics
pub serial-permutes : (plan : Plan) (s : Sample) (e : ℕ) → length s.pairs ≡ pairs_of plan → PermutesLabels plan s → PermutesLabels plan (serial plan s e)
serial-permutes plan s e paired p = (steps-permute plan s.epoch (e - s.epoch) s paired p).1
