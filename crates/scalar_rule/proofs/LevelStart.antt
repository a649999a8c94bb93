-- Where all slots start at one epoch, the content of a slot at rest is that of the serial dynamics.
use Rattle.std.proofs.Common.{inl, inr, ◌≡◌, ℕ, zero, suc, ◌+◌, ◌-◌, ◌<◌, ◌≤◌, Bool, true, false, not, ◌&&◌, cond, ◌==◌, nat_le, nat_lt, List, refl, ap, sym, ◌∙◌, arith, add-zero, add-suc}
use Rattle.std.proofs.lemmas.Bool.{cases_Bool, ltb-true, eq-eqb, and_right}
use Rattle.std.proofs.lemmas.Bool.Decides.{nat_tests}
use Rattle.spin_model.specs.Steps.{steps}
use Rattle.spin_model.proofs.Tables.{get_or-table}
use Rattle.scalar_rule.specs.Plan.{Plan, slots_of, pairs_of}
use Rattle.scalar_rule.specs.Epoch.{slot_at, pair_at, swept_slot, swept_slots, has_turn, has_partner, pair_of, partner, side, exchanged, epoch}
use Rattle.scalar_rule.specs.Exchange.{drawn_pair}
use Rattle.scalar_rule.specs.Laws.{level_start}
use Rattle.scalar_rule.specs.Ragged.{Position, position_at, generators, waiting_from, ready}
use Rattle.scalar_rule.specs.Serial.{serial}
use Rattle.scalar_rule.specs.declared.sample.PlainSlot.{PlainSlot}
use Rattle.scalar_rule.specs.declared.sample.PlainPair.{PlainPair}
use Rattle.scalar_rule.specs.declared.sample.Sample.{Sample}
use Rattle.scalar_rule.proofs.Resuming.{epochs, epochs-epoch, epochs-bit}

-- where every slot starts
abbrev pub start_position : Sample → Position
start_position s = record { epoch = s.epoch; waits = false }

position-level : (plan : Plan) (s : Sample) (t : ℕ) → t < slots_of plan → position_at (level_start plan s) t ≡ start_position s
position-level plan s t below = get_or-table (λ k. start_position s) (slots_of plan) t _ below

-- no slot waits at the start
waiting-level : (plan : Plan) (s : Sample) (e t : ℕ) (rest : PlainSlot) → t < slots_of plan → waiting_from plan (level_start plan s) e t rest ≡ swept_slot plan s.bit t rest
waiting-level plan s e t rest below =
    ap (λ (p : Position). cond (p.waits && p.epoch == e) (slot_at s.slots t) (swept_slot plan s.bit t rest)) (position-level plan s t below)

-- the content at rest one epoch on, from that of all slots
ready-next : (plan : Plan) (s : Sample) (e t : ℕ) → s.epoch ≤ e → t < slots_of plan
    → ready plan (level_start plan s) (suc e) t
    ≡ cond (has_partner (slots_of plan) t e)
    (side plan s.bit e t (generators plan (level_start plan s) (pair_of t e) e)
    (waiting_from plan (level_start plan s) e t (ready plan (level_start plan s) e t))
    (waiting_from plan (level_start plan s) e (partner t e) (ready plan (level_start plan s) e (partner t e))))
    (waiting_from plan (level_start plan s) e t (ready plan (level_start plan s) e t))
unfolding ready
ready-next plan s e t later below =
    let u = level_start plan s in
    let own = waiting_from plan u e t (ready plan u e t) in
    let other = waiting_from plan u e (partner t e) (ready plan u e (partner t e)) in
    let next = cond (has_partner (slots_of plan) t e) (side plan s.bit e t (generators plan u (pair_of t e) e) own other) own in
    let past : (s.epoch == suc e) ≡ false = grind (arith, nat_tests) in
    ap (λ (p : Position). cond (not p.waits && p.epoch == suc e) (slot_at s.slots t) next) (position-level plan s t below)
    ∙ ap (λ b. cond b (slot_at s.slots t) next) past

-- what an epoch makes of slot t
epoch-slot : (plan : Plan) (x : Sample) (b e t : ℕ) → x.bit ≡ b → x.epoch ≡ e → t < slots_of plan
    → slot_at (epoch plan x).slots t ≡ exchanged plan b e x.pairs (swept_slots plan x) t
epoch-slot plan x b e t bit here below =
    get_or-table _ (slots_of plan) t _ below
    ∙ ap (λ n. exchanged plan n x.epoch x.pairs (swept_slots plan x) t) bit
    ∙ ap (λ n. exchanged plan b n x.pairs (swept_slots plan x) t) here

swept-slot : (plan : Plan) (x : Sample) (b t : ℕ) → x.bit ≡ b → t < slots_of plan → slot_at (swept_slots plan x) t ≡ swept_slot plan b t (slot_at x.slots t)
swept-slot plan x b t bit below =
    get_or-table _ (slots_of plan) t _ below ∙ ap (λ n. swept_slot plan n t (slot_at x.slots t)) bit

partner-below : (n t e : ℕ) → t < n → has_partner n t e ≡ true → partner t e < n
partner-below n t e below has = elim (cases_Bool (has_turn t e)) [
  | inl on ↦
      let more : nat_lt (t + 1) n ≡ true = sym (ap (λ b. cond b (nat_lt (t + 1) n) (nat_lt 0 t)) on) ∙ has in
      let less = ltb-true (t + 1) n more in
      let is : partner t e ≡ t + 1 = ap (λ b. cond b (t + 1) (t - 1)) on in
      omega arith
  | inr off ↦
      let is : partner t e ≡ t - 1 = ap (λ b. cond b (t + 1) (t - 1)) off in
      omega arith
]

pair-below : (n t e : ℕ) → t < n → has_partner n t e ≡ true → pair_of t e < n - 1
pair-below n t e below has = elim (cases_Bool (has_turn t e)) [
  | inl on ↦
      let more : nat_lt (t + 1) n ≡ true = sym (ap (λ b. cond b (nat_lt (t + 1) n) (nat_lt 0 t)) on) ∙ has in
      let less = ltb-true (t + 1) n more in
      let is : pair_of t e ≡ t = ap (λ b. cond b t (t - 1)) on in
      omega arith
  | inr off ↦
      let more : nat_lt 0 t ≡ true = sym (ap (λ b. cond b (nat_lt (t + 1) n) (nat_lt 0 t)) off) ∙ has in
      let less = ltb-true 0 t more in
      let is : pair_of t e ≡ t - 1 = ap (λ b. cond b t (t - 1)) off in
      omega arith
]

pub and-true : (b : Bool) → (b && true) ≡ b
and-true true = refl
and-true false = refl

generators-next : (plan : Plan) (s : Sample) (k e : ℕ) → s.epoch ≤ e → k < slots_of plan
    → generators plan (level_start plan s) k (suc e) ≡ cond (has_turn k e) (drawn_pair (generators plan (level_start plan s) k e)) (generators plan (level_start plan s) k e)
unfolding generators
generators-next plan s k e later below =
    let u = level_start plan s in
    let due : nat_le s.epoch e ≡ true = grind (arith, nat_tests) in
    let test : (has_turn k e && nat_le (position_at u k).epoch e) ≡ has_turn k e =
    ap (λ (p : Position). has_turn k e && nat_le p.epoch e) (position-level plan s k below) ∙ ap (λ b. has_turn k e && b) due ∙ and-true (has_turn k e) in
    ap (λ b. cond b (drawn_pair (generators plan u k e)) (generators plan u k e)) test

ready-start : (plan : Plan) (s : Sample) (e t : ℕ) → t < slots_of plan → s.epoch ≡ e → ready plan (level_start plan s) e t ≡ slot_at s.slots t
unfolding ready
ready-start plan s zero t below here = refl
ready-start plan s (suc e) t below here =
    let u = level_start plan s in
    let own = waiting_from plan u e t (ready plan u e t) in
    let other = waiting_from plan u e (partner t e) (ready plan u e (partner t e)) in
    let next = cond (has_partner (slots_of plan) t e) (side plan s.bit e t (generators plan u (pair_of t e) e) own other) own in
    let there : (s.epoch == suc e) ≡ true = eq-eqb s.epoch (suc e) here in
    ap (λ (p : Position). cond (not p.waits && p.epoch == suc e) (slot_at s.slots t) next) (position-level plan s t below)
    ∙ ap (λ b. cond b (slot_at s.slots t) next) there

-- a slot after the exchange, where own, other and the generators are those of the list
exchanged-by : (plan : Plan) (b e t : ℕ) (pair : PlainPair) (pairs : List PlainPair) (own other : PlainSlot) (slots : List PlainSlot)
    → own ≡ slot_at slots t
    → (has_partner (slots_of plan) t e ≡ true → other ≡ slot_at slots (partner t e))
    → (has_partner (slots_of plan) t e ≡ true → pair ≡ pair_at pairs (pair_of t e))
    → cond (has_partner (slots_of plan) t e) (side plan b e t pair own other) own ≡ exchanged plan b e pairs slots t
exchanged-by plan b e t pair pairs own other slots own_is other_is pair_is =
    let alone = slot_at slots t in
    elim (cases_Bool (has_partner (slots_of plan) t e)) [
      | inl has ↦
          ap (λ p. cond p (side plan b e t pair own other) own) has
          ∙ ap (λ p. side plan b e t p own other) (pair_is has)
          ∙ ap (λ x. side plan b e t (pair_at pairs (pair_of t e)) x other) own_is
          ∙ ap (λ x. side plan b e t (pair_at pairs (pair_of t e)) alone x) (other_is has)
          ∙ sym (ap (λ p. cond p (side plan b e t (pair_at pairs (pair_of t e)) alone (slot_at slots (partner t e))) alone) has)
      | inr lone ↦
          ap (λ p. cond p (side plan b e t pair own other) own) lone
          ∙ own_is
          ∙ sym (ap (λ p. cond p (side plan b e t (pair_at pairs (pair_of t e)) alone (slot_at slots (partner t e))) alone) lone)
    ]

generators-start : (plan : Plan) (s : Sample) (k e : ℕ) → k < slots_of plan → e ≤ s.epoch → generators plan (level_start plan s) k e ≡ pair_at s.pairs k
unfolding generators
generators-start plan s k zero below upto = refl
generators-start plan s k (suc e) below upto =
    let u = level_start plan s in
    let before = generators-start plan s k e below (omega arith) in
    let early : nat_le s.epoch e ≡ false = grind (arith, nat_tests) in
    let test : (has_turn k e && nat_le (position_at u k).epoch e) ≡ false =
    ap (λ (p : Position). has_turn k e && nat_le p.epoch e) (position-level plan s k below) ∙ and_right (has_turn k e) _ early in
    ap (λ b. cond b (drawn_pair (generators plan u k e)) (generators plan u k e)) test ∙ before

pub generators-level : (plan : Plan) (s : Sample) (k m : ℕ) → k < pairs_of plan → generators plan (level_start plan s) k (s.epoch + m) ≡ pair_at (epochs plan s.epoch m s).pairs k
unfolding steps
generators-level plan s k zero below = rw add-zero (generators-start plan s k s.epoch (omega arith) (omega arith))
generators-level plan s k (suc m) below =
    let x = epochs plan s.epoch m s in
    let e = s.epoch + m in
    let here = epochs-epoch plan s.epoch m s in
    ap (λ n. generators plan (level_start plan s) k n) (add-suc s.epoch m)
    ∙ generators-next plan s k e (omega arith) (omega arith)
    ∙ ap (λ p. cond (has_turn k e) (drawn_pair p) p) (generators-level plan s k m below)
    ∙ ap (λ n. cond (has_turn k n) (drawn_pair (pair_at x.pairs k)) (pair_at x.pairs k)) (sym here)
    ∙ sym (get_or-table _ (pairs_of plan) k _ below)

pub ready-level : (plan : Plan) (s : Sample) (m t : ℕ) → t < slots_of plan → ready plan (level_start plan s) (s.epoch + m) t ≡ slot_at (epochs plan s.epoch m s).slots t
unfolding steps
ready-level plan s zero t below = rw add-zero (ready-start plan s s.epoch t below refl)
ready-level plan s (suc m) t below =
    let u = level_start plan s in
    let x = epochs plan s.epoch m s in
    let e = s.epoch + m in
    let n = slots_of plan in
    let here = epochs-epoch plan s.epoch m s in
    let bit = epochs-bit plan s.epoch m s in
    let content : (k : ℕ) → k < n → waiting_from plan u e k (ready plan u e k) ≡ slot_at (swept_slots plan x) k = λ k less.
    waiting-level plan s e k (ready plan u e k) less ∙ ap (swept_slot plan s.bit k) (ready-level plan s m k less) ∙ sym (swept-slot plan x s.bit k bit less) in
    let own = content t below in
    ap (λ j. ready plan u j t) (add-suc s.epoch m)
    ∙ ready-next plan s e t (omega arith) below
    ∙ exchanged-by plan s.bit e t (generators plan u (pair_of t e) e) x.pairs (waiting_from plan u e t (ready plan u e t)) (waiting_from plan u e (partner t e) (ready plan u e (partner t e))) (swept_slots plan x) own
    (λ has. content (partner t e) (partner-below n t e below has))
    (λ has. generators-level plan s (pair_of t e) m (pair-below n t e below has))
    ∙ sym (epoch-slot plan x s.bit e t bit here below)

-- epoch e of the dynamics
pub ready-serial : (plan : Plan) (s : Sample) (e t : ℕ) → s.epoch ≤ e → t < slots_of plan → ready plan (level_start plan s) e t ≡ slot_at (serial plan s e).slots t
ready-serial plan s e t from h =
    let there : s.epoch + (e - s.epoch) ≡ e = omega arith in
    ap (λ n. ready plan (level_start plan s) n t) (sym there) ∙ ready-level plan s (e - s.epoch) t h

pub generators-serial : (plan : Plan) (s : Sample) (e k : ℕ) → s.epoch ≤ e → k < pairs_of plan → generators plan (level_start plan s) k e ≡ pair_at (serial plan s e).pairs k
generators-serial plan s e k from h =
    let there : s.epoch + (e - s.epoch) ≡ e = omega arith in
    ap (λ n. generators plan (level_start plan s) k n) (sym there) ∙ generators-level plan s k (e - s.epoch) h
