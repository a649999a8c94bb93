-- Two samples of a bank keep equal generator words, whatever their spins are.
use Rattle.std.proofs.Common.{inl, inr, ◌≡◌, ℕ, zero, suc, ◌+◌, ◌-◌, ◌<◌, Bool, true, false, cond, List, refl, ap, sym, ◌∙◌, subst}
use Rattle.std.proofs.lemmas.Bool.{cases_Bool}
use Rattle.spin_model.specs.Steps.{steps}
use Rattle.spin_model.proofs.Tables.{get_or-table}
use Rattle.scalar_rule.specs.Plan.{Plan, slots_of, pairs_of, dynamics_of}
use Rattle.scalar_rule.specs.Epoch.{slot_at, pair_at, swept_slot, swept_slots, has_turn, has_partner, pair_of, partner, side, exchanged, epoch}
use Rattle.scalar_rule.specs.Exchange.{traded, cold_side, hot_side, drawn_pair}
use Rattle.scalar_rule.specs.Laws.{HaveSameWords}
use Rattle.scalar_rule.specs.Serial.{serial}
use Rattle.scalar_rule.specs.Sweep.{Configuration, plane_drawn, sweeps}
use Rattle.scalar_rule.specs.declared.plain_copy.PlainCopy.{PlainCopy}
use Rattle.scalar_rule.specs.declared.sample.PlainSlot.{PlainSlot}
use Rattle.scalar_rule.specs.declared.sample.PlainPair.{PlainPair}
use Rattle.scalar_rule.specs.declared.sample.Sample.{Sample}
use Rattle.scalar_rule.proofs.Resuming.{epochs}

sweeps-words : (plan : Plan) (b c t n : ℕ) (x y : Configuration) → x.words ≡ y.words → (sweeps (dynamics_of plan b t) n x).words ≡ (sweeps (dynamics_of plan c t) n y).words
unfolding steps
sweeps-words plan b c t zero x y same = same
sweeps-words plan b c t (suc n) x y same =
    let l = plan.size in
    ap (λ w. steps (plane_drawn l 1) 0 l (steps (plane_drawn l 0) 0 l w)) (sweeps-words plan b c t n x y same)

-- a swap moves no words
wheels-traded : (swap : Bool) (own other : PlainCopy) → (traded swap own other).wheels ≡ own.wheels
wheels-traded true own other = refl
wheels-traded false own other = refl

pub record KeepsWords (new old : PlainSlot) : Type 0 where
  pub first : new.first.wheels ≡ old.first.wheels
  pub second : new.second.wheels ≡ old.second.wheels

side-keeps : (plan : Plan) (b e t : ℕ) (pair : PlainPair) (own other : PlainSlot) → KeepsWords (side plan b e t pair own other) own
unfolding side cold_side hot_side
side-keeps plan b e t pair own other = elim (cases_Bool (has_turn t e)) [
  | inl on ↦ rw on (record { first = wheels-traded _ own.first other.first; second = wheels-traded _ own.second other.second })
  | inr off ↦ rw off (record { first = wheels-traded _ own.first other.first; second = wheels-traded _ own.second other.second })
]

exchanged-keeps : (plan : Plan) (b e : ℕ) (pairs : List PlainPair) (slots : List PlainSlot) (t : ℕ) → KeepsWords (exchanged plan b e pairs slots t) (slot_at slots t)
exchanged-keeps plan b e pairs slots t =
    let K : Bool → Type 0 = λ p. KeepsWords (cond p (side plan b e t (pair_at pairs (pair_of t e)) (slot_at slots t) (slot_at slots (partner t e))) (slot_at slots t)) (slot_at slots t) in
    elim (has_partner (slots_of plan) t e) as K [
      | true ↦ side-keeps plan b e t (pair_at pairs (pair_of t e)) (slot_at slots t) (slot_at slots (partner t e))
      | false ↦ record { first = refl; second = refl }
    ]

-- what an epoch makes of slot k
epoch-keeps : (plan : Plan) (s : Sample) (k : ℕ) → k < slots_of plan → KeepsWords (slot_at (epoch plan s).slots k) (swept_slot plan s.bit k (slot_at s.slots k))
epoch-keeps plan s k below =
    let f = exchanged plan s.bit s.epoch s.pairs (swept_slots plan s) in
    let new = get_or-table f (slots_of plan) k _ below in
    let swept = get_or-table (λ t. swept_slot plan s.bit t (slot_at s.slots t)) (slots_of plan) k _ below in
    let kept = exchanged-keeps plan s.bit s.epoch s.pairs (swept_slots plan s) k in
    record {
      first = ap (λ (x : PlainSlot). x.first.wheels) new ∙ kept.first ∙ ap (λ (x : PlainSlot). x.first.wheels) swept;
      second = ap (λ (x : PlainSlot). x.second.wheels) new ∙ kept.second ∙ ap (λ (x : PlainSlot). x.second.wheels) swept;
    }

epoch-same : (plan : Plan) (s t : Sample) → HaveSameWords plan s t → HaveSameWords plan (epoch plan s) (epoch plan t)
unfolding swept_slot
epoch-same plan s t same = record {
  epochs = ap (λ n. n + 1) same.epochs;
  first = λ k below.
      (epoch-keeps plan s k below).first
      ∙ sweeps-words plan s.bit t.bit k plan.sweeps _ _ (same.first k below)
      ∙ sym (epoch-keeps plan t k below).first;
  second = λ k below.
      (epoch-keeps plan s k below).second
      ∙ sweeps-words plan s.bit t.bit k plan.sweeps _ _ (same.second k below)
      ∙ sym (epoch-keeps plan t k below).second;
  exchange = λ k below.
      get_or-table _ (pairs_of plan) k _ below
      ∙ ap (λ p. cond (has_turn k s.epoch) (drawn_pair p) p) (same.exchange k below)
      ∙ ap (λ e. cond (has_turn k e) (drawn_pair (pair_at t.pairs k)) (pair_at t.pairs k)) same.epochs
      ∙ sym (get_or-table _ (pairs_of plan) k _ below);
}

epochs-same : (plan : Plan) (a b n : ℕ) (s t : Sample) → HaveSameWords plan s t → HaveSameWords plan (epochs plan a n s) (epochs plan b n t)
unfolding steps
epochs-same plan a b zero s t same = same
epochs-same plan a b (suc n) s t same = epoch-same plan (epochs plan a n s) (epochs plan b n t) (epochs-same plan a b n s t same)

pub serial-same : (plan : Plan) (s t : Sample) (e : ℕ) → HaveSameWords plan s t → HaveSameWords plan (serial plan s e) (serial plan t e)
serial-same plan s t e same =
    let H : ℕ → Type 0 = λ n. HaveSameWords plan (serial plan s e) (epochs plan t.epoch (e - n) t) in
    subst H same.epochs (epochs-same plan s.epoch t.epoch (e - s.epoch) s t same)
