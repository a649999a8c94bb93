-- The dynamics of a sample reads no bit of the couplings but its own.
use Rattle.std.proofs.Common.{◌≡◌, ℕ, zero, suc, ◌+◌, ◌-◌, ◌/◌, ◌%◌, Bool, List, length, get_or, refl, ap, sym, ◌∙◌, subst, cond}
use Rattle.std.proofs.Math.Path.{fun_ext}
use Rattle.spin_model.specs.Words.{is_set}
use Rattle.spin_model.specs.Steps.{steps, table}
use Rattle.spin_model.specs.Couplings.{Bonds}
use Rattle.spin_model.specs.Stream.{draw}
use Rattle.spin_model.proofs.Tables.{table-same}
use Rattle.threshold_table.specs.Tables.{RuleView, rule_of, thresholds_of}
use Rattle.coupling_set.specs.CouplingWords.{bonds_of, place_of}
use Rattle.scalar_rule.specs.Plan.{Plan, slots_of, pairs_of, dynamics_of}
use Rattle.scalar_rule.specs.Sweep.{Dynamics, sweeps}
use Rattle.scalar_rule.specs.Sums.{energy, overlap, unsatisfied}
use Rattle.scalar_rule.specs.Replica.{configuration_of, with_configuration}
use Rattle.scalar_rule.specs.Exchange.{is_swapped, decision, traded, cold_side, hot_side, drawn_pair}
use Rattle.scalar_rule.specs.Epoch.{slot_at, pair_at, has_turn, has_partner, pair_of, partner, swept_slot, swept_slots, record_of, side, exchanged, epoch, epoch_records}
use Rattle.scalar_rule.specs.Serial.{serial}
use Rattle.scalar_rule.specs.declared.plain_copy.PlainCopy.{PlainCopy}
use Rattle.scalar_rule.specs.declared.sample.PlainPair.{PlainPair}
use Rattle.scalar_rule.specs.declared.sample.PlainSlot.{PlainSlot}
use Rattle.scalar_rule.specs.declared.sample.Record.{Record}
use Rattle.scalar_rule.specs.declared.sample.Sample.{Sample}
use Rattle.plane_sweep.specs.Packed.{part}
use Rattle.plane_sweep.specs.declared.stand.Stand.{Stand}
use Rattle.plane_sweep.proofs.Starting.{part-bit}
use Rattle.model_laws.specs.Packing.{AgreeInSample}

bonds-same : (b : ℕ) (plan other : Plan) → AgreeInSample b plan other → bonds_of plan.couplings b ≡ bonds_of other.couplings b
bonds-same b plan other a = fun_ext (λ n. a.couplings (place_of plan.couplings.size (n / 3) (n % 3))
    ∙ ap (λ l. is_set (get_or other.couplings.words (place_of l (n / 3) (n % 3)) 0) b) a.lattice)

slots-same : (b : ℕ) (plan other : Plan) → AgreeInSample b plan other → slots_of plan ≡ slots_of other
slots-same b plan other a = ap (λ (r : RuleView). length r.rows) a.rules

-- ---- sweeps

abbrev dynamics_by : ℕ → RuleView → Bonds → ℕ → Dynamics
dynamics_by size rules bonds t = record { size = size; rule = rule_of rules.kind; thresholds = thresholds_of rules t; bonds = bonds }

dynamics-same : (b t : ℕ) (plan other : Plan) → AgreeInSample b plan other → dynamics_of plan b t ≡ dynamics_of other b t
dynamics-same b t plan other a =
    ap (λ l. dynamics_by l plan.rules (bonds_of plan.couplings b) t) a.size
    ∙ ap (λ r. dynamics_by other.size r (bonds_of plan.couplings b) t) a.rules
    ∙ ap (λ j. dynamics_by other.size other.rules j t) (bonds-same b plan other a)

abbrev copy_by : Dynamics → ℕ → PlainCopy → PlainCopy
copy_by d n copy = with_configuration copy (sweeps d n (configuration_of copy))

slot_by : Dynamics → ℕ → PlainSlot → PlainSlot
slot_by d n slot = record { first = copy_by d n slot.first; second = copy_by d n slot.second }

swept-by : (plan : Plan) (b t : ℕ) (slot : PlainSlot) → swept_slot plan b t slot ≡ slot_by (dynamics_of plan b t) plan.sweeps slot
unfolding swept_slot slot_by
swept-by plan b t slot = refl

swept-same : (b t : ℕ) (plan other : Plan) (slot : PlainSlot) → AgreeInSample b plan other → swept_slot plan b t slot ≡ swept_slot other b t slot
swept-same b t plan other slot a =
    swept-by plan b t slot ∙ ap (λ d. slot_by d plan.sweeps slot) (dynamics-same b t plan other a)
    ∙ ap (λ n. slot_by (dynamics_of other b t) n slot) a.sweeps ∙ sym (swept-by other b t slot)

swept-all-same : (plan other : Plan) (s : Sample) → AgreeInSample s.bit plan other → swept_slots plan s ≡ swept_slots other s
swept-all-same plan other s a =
    table-same (λ t. swept_slot plan s.bit t (slot_at s.slots t)) (λ t. swept_slot other s.bit t (slot_at s.slots t)) (slots_of plan) (λ t _. swept-same s.bit t plan other (slot_at s.slots t) a)
    ∙ ap (table (λ t. swept_slot other s.bit t (slot_at s.slots t))) (slots-same s.bit plan other a)

-- ---- records

record_by : ℕ → Bonds → PlainSlot → Record
record_by l bonds slot = record {
  first_energy = energy l bonds slot.first.spins;
  second_energy = energy l bonds slot.second.spins;
  overlap = overlap l slot.first.spins slot.second.spins;
  first_replica = slot.first.replica;
  second_replica = slot.second.replica;
}

record-by : (plan : Plan) (b : ℕ) (slot : PlainSlot) → record_of plan b slot ≡ record_by plan.size (bonds_of plan.couplings b) slot
unfolding record_by
record-by plan b slot = refl

record-same : (b : ℕ) (plan other : Plan) (slot : PlainSlot) → AgreeInSample b plan other → record_of plan b slot ≡ record_of other b slot
record-same b plan other slot a =
    record-by plan b slot ∙ ap (λ l. record_by l (bonds_of plan.couplings b) slot) a.size
    ∙ ap (λ j. record_by other.size j slot) (bonds-same b plan other a) ∙ sym (record-by other b slot)

records-same : (plan other : Plan) (s : Sample) → AgreeInSample s.bit plan other → epoch_records plan s ≡ epoch_records other s
records-same plan other s a =
    ap (λ slots. table (λ t. record_of plan s.bit (slot_at slots t)) (slots_of plan)) (swept-all-same plan other s a)
    ∙ table-same (λ t. record_of plan s.bit (slot_at (swept_slots other s) t)) (λ t. record_of other s.bit (slot_at (swept_slots other s) t)) (slots_of plan)
    (λ t _. record-same s.bit plan other (slot_at (swept_slots other s) t) a)
    ∙ ap (table (λ t. record_of other s.bit (slot_at (swept_slots other s) t))) (slots-same s.bit plan other a)

-- ---- exchanges

decision_by : ℕ → List (List ℕ) → Bonds → ℕ → ℕ → List ℕ → PlainCopy → PlainCopy → Bool
decision_by l swaps bonds b k words cold hot = is_swapped swaps k (draw words b) (unsatisfied l bonds cold.spins) (unsatisfied l bonds hot.spins)

decision-by : (plan : Plan) (b k : ℕ) (words : List ℕ) (cold hot : PlainCopy) → decision plan b k words cold hot ≡ decision_by plan.size plan.swaps (bonds_of plan.couplings b) b k words cold hot
unfolding decision_by
decision-by plan b k words cold hot = refl

decision-same : (b k : ℕ) (plan other : Plan) (words : List ℕ) (cold hot : PlainCopy) → AgreeInSample b plan other → decision plan b k words cold hot ≡ decision other b k words cold hot
decision-same b k plan other words cold hot a =
    decision-by plan b k words cold hot
    ∙ ap (λ l. decision_by l plan.swaps (bonds_of plan.couplings b) b k words cold hot) a.size
    ∙ ap (λ w. decision_by other.size w (bonds_of plan.couplings b) b k words cold hot) a.swaps
    ∙ ap (λ j. decision_by other.size other.swaps j b k words cold hot) (bonds-same b plan other a)
    ∙ sym (decision-by other b k words cold hot)

-- a slot after an exchange that the two decisions give
after_by : Bool → Bool → PlainSlot → PlainSlot → PlainSlot
after_by one two own other = record { first = traded one own.first other.first; second = traded two own.second other.second }

cold-by : (plan : Plan) (b k : ℕ) (pair : PlainPair) (cold hot : PlainSlot)
    → cold_side plan b k pair cold hot ≡ after_by (decision plan b k pair.first cold.first hot.first) (decision plan b k pair.second cold.second hot.second) cold hot
unfolding cold_side after_by
cold-by plan b k pair cold hot = refl

hot-by : (plan : Plan) (b k : ℕ) (pair : PlainPair) (cold hot : PlainSlot)
    → hot_side plan b k pair cold hot ≡ after_by (decision plan b k pair.first cold.first hot.first) (decision plan b k pair.second cold.second hot.second) hot cold
unfolding hot_side after_by
hot-by plan b k pair cold hot = refl

after-same : (b k : ℕ) (plan other : Plan) (pair : PlainPair) (cold hot own away : PlainSlot) → AgreeInSample b plan other
    → after_by (decision plan b k pair.first cold.first hot.first) (decision plan b k pair.second cold.second hot.second) own away
    ≡ after_by (decision other b k pair.first cold.first hot.first) (decision other b k pair.second cold.second hot.second) own away
after-same b k plan other pair cold hot own away a =
    ap (λ d. after_by d (decision plan b k pair.second cold.second hot.second) own away) (decision-same b k plan other pair.first cold.first hot.first a)
    ∙ ap (λ d. after_by (decision other b k pair.first cold.first hot.first) d own away) (decision-same b k plan other pair.second cold.second hot.second a)

cold-same : (b k : ℕ) (plan other : Plan) (pair : PlainPair) (cold hot : PlainSlot) → AgreeInSample b plan other → cold_side plan b k pair cold hot ≡ cold_side other b k pair cold hot
cold-same b k plan other pair cold hot a = cold-by plan b k pair cold hot ∙ after-same b k plan other pair cold hot cold hot a ∙ sym (cold-by other b k pair cold hot)

hot-same : (b k : ℕ) (plan other : Plan) (pair : PlainPair) (cold hot : PlainSlot) → AgreeInSample b plan other → hot_side plan b k pair cold hot ≡ hot_side other b k pair cold hot
hot-same b k plan other pair cold hot a = hot-by plan b k pair cold hot ∙ after-same b k plan other pair cold hot hot cold a ∙ sym (hot-by other b k pair cold hot)

side-same : (b e t : ℕ) (plan other : Plan) (pair : PlainPair) (own away : PlainSlot) → AgreeInSample b plan other → side plan b e t pair own away ≡ side other b e t pair own away
unfolding side
side-same b e t plan other pair own away a =
    ap (λ x. cond (has_turn t e) x (hot_side plan b (pair_of t e) pair away own)) (cold-same b (pair_of t e) plan other pair own away a)
    ∙ ap (λ x. cond (has_turn t e) (cold_side other b (pair_of t e) pair own away) x) (hot-same b (pair_of t e) plan other pair away own a)

exchanged-same : (b e t : ℕ) (plan other : Plan) (pairs : List PlainPair) (slots : List PlainSlot) → AgreeInSample b plan other → exchanged plan b e pairs slots t ≡ exchanged other b e pairs slots t
exchanged-same b e t plan other pairs slots a =
    let pair = pair_at pairs (pair_of t e) in
    let own = slot_at slots t in
    let away = slot_at slots (partner t e) in
    ap (λ n. cond (has_partner n t e) (side plan b e t pair own away) own) (slots-same b plan other a)
    ∙ ap (λ x. cond (has_partner (slots_of other) t e) x own) (side-same b e t plan other pair own away a)

-- ---- epochs

abbrev epoch_by : Sample → List PlainSlot → ℕ → Sample
epoch_by s slots n = record {
  bit = s.bit;
  epoch = s.epoch + 1;
  slots = slots;
  pairs = table (λ k. cond (has_turn k s.epoch) (drawn_pair (pair_at s.pairs k)) (pair_at s.pairs k)) n;
}

epoch-same : (plan other : Plan) (s : Sample) → AgreeInSample s.bit plan other → epoch plan s ≡ epoch other s
epoch-same plan other s a =
    let b = s.bit in
    let slots : table (exchanged plan b s.epoch s.pairs (swept_slots plan s)) (slots_of plan) ≡ table (exchanged other b s.epoch s.pairs (swept_slots other s)) (slots_of other) =
    ap (λ swept. table (exchanged plan b s.epoch s.pairs swept) (slots_of plan)) (swept-all-same plan other s a)
    ∙ table-same (exchanged plan b s.epoch s.pairs (swept_slots other s)) (exchanged other b s.epoch s.pairs (swept_slots other s)) (slots_of plan)
    (λ t _. exchanged-same b s.epoch t plan other s.pairs (swept_slots other s) a)
    ∙ ap (table (exchanged other b s.epoch s.pairs (swept_slots other s))) (slots-same b plan other a) in
    ap (λ x. epoch_by s x (pairs_of plan)) slots
    ∙ ap (λ n. epoch_by s (table (exchanged other b s.epoch s.pairs (swept_slots other s)) (slots_of other)) (n - 1)) (slots-same b plan other a)

steps-bit : (plan : Plan) (start n : ℕ) (s : Sample) → (steps (λ _ t. epoch plan t) start n s).bit ≡ s.bit
unfolding steps
steps-bit plan start zero s = refl
steps-bit plan start (suc n) s = steps-bit plan start n s

steps-same : (plan other : Plan) (start n : ℕ) (s : Sample) → AgreeInSample s.bit plan other → steps (λ _ t. epoch plan t) start n s ≡ steps (λ _ t. epoch other t) start n s
unfolding steps
steps-same plan other start zero s a = refl
steps-same plan other start (suc n) s a =
    let bit = steps-bit other start n s in
    let there : AgreeInSample (steps (λ _ t. epoch other t) start n s).bit plan other = subst (λ (b : ℕ). AgreeInSample b plan other) (sym bit) a in
    ap (epoch plan) (steps-same plan other start n s a) ∙ epoch-same plan other (steps (λ _ t. epoch other t) start n s) there

serial-same : (plan other : Plan) (s : Sample) (e : ℕ) → AgreeInSample s.bit plan other → serial plan s e ≡ serial other s e
serial-same plan other s e a = steps-same plan other s.epoch (e - s.epoch) s a

pub others-dont-matter : (plan other : Plan) (stand beside : Stand) (b e : ℕ) → AgreeInSample b plan other → part plan.size b stand ≡ part other.size b beside
    → (serial plan (part plan.size b stand) e ≡ serial other (part other.size b beside) e)
    × (epoch_records plan (serial plan (part plan.size b stand) e) ≡ epoch_records other (serial other (part other.size b beside) e))
others-dont-matter plan other stand beside b e a same =
    let s = part other.size b beside in
    let here : AgreeInSample s.bit plan other = subst (λ (n : ℕ). AgreeInSample n plan other) (sym (part-bit other.size b beside)) a in
    let states : serial plan (part plan.size b stand) e ≡ serial other s e = ap (λ x. serial plan x e) same ∙ serial-same plan other s e here in
    let last : (serial other s e).bit ≡ b = steps-bit other s.epoch (e - s.epoch) s ∙ part-bit other.size b beside in
    let there : AgreeInSample (serial other s e).bit plan other = subst (λ (n : ℕ). AgreeInSample n plan other) (sym last) a in
    (states, ap (epoch_records plan) states ∙ records-same plan other (serial other s e) there)
