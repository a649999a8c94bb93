-- From a state whose slots have the content of another's at later positions the dynamics goes on as from that other.
use Rattle.std.proofs.Common.{arith, ◌≡◌, inl, inr, ◌⊎◌, ℕ, zero, suc, ◌+◌, ◌-◌, ◌*◌, ◌<◌, ◌≤◌, ◌≢◌, Bool, true, false, ◌&&◌, ◌==◌, cond, nat_le, refl, sym, ap, ap₂, ◌∙◌, subst}
use Rattle.std.proofs.lemmas.Bool.{le-leb, cases_lt, cases_Bool}
use Rattle.std.proofs.lemmas.Bool.Decides.{eqb_tells}
use Rattle.scalar_rule.specs.Plan.{Plan, slots_of}
use Rattle.scalar_rule.specs.Epoch.{has_turn, has_partner, partner, pair_of, side, slot_at, swept_slot}
use Rattle.scalar_rule.specs.Exchange.{drawn_pair}
use Rattle.scalar_rule.specs.Ragged.{UnevenState, position_at, generators, ready, arrived}
use Rattle.scalar_rule.specs.Positions.{rank, content, turns}
use Rattle.scalar_rule.specs.Laws.{IsReached}
use Rattle.scalar_rule.specs.declared.sample.PlainSlot.{PlainSlot}
use Rattle.scalar_rule.specs.declared.sample.PlainPair.{PlainPair}
use Rattle.scalar_rule.proofs.SlotPartners.{turns-from, sides, low-partner, high-partner, back}
use Rattle.scalar_rule.proofs.UnevenContents.{generators-more, generators-from, ready-alone, ready-settled, arrived-swept, content-start}

abbrev pub bit : Bool → ℕ
bit a = cond a 2 0

bit-small : (a : Bool) → bit a ≤ 2
bit-small true = omega arith
bit-small false = omega arith

pub bit-tells : (a : Bool) → ((a ≡ true) × (bit a ≡ 2)) ⊎ ((a ≡ false) × (bit a ≡ 0))
bit-tells true = inl (refl, refl)
bit-tells false = inr (refl, refl)

-- a phase of 2 tells that a slot waits
pub phase-waits : (a : Bool) → (cond a 2 0 == 2) ≡ a
phase-waits true = refl
phase-waits false = refl

side-same : (plan : Plan) (b b' e t : ℕ) (w w' : PlainPair) (x x' y y' : PlainSlot) → b ≡ b' → w ≡ w' → x ≡ x' → y ≡ y' → side plan b e t w x y ≡ side plan b' e t w' x' y'
side-same plan b b' e t w w' x x' y y' eb ew ex ey = rw (eb, ew, ex, ey) refl

-- the pair of a slot with a partner
pub pair-known : (n t e : ℕ) → t < n → has_partner n t e ≡ true → pair_of t e + 1 < n
pair-known n t e h has = elim (sides t e) [
  | inl l ↦ subst (λ k. k + 1 < n) (sym l.pair_is) (low-partner n t e l has)
  | inr l ↦ let z = high-partner n t e l has in subst (λ k. k + 1 < n) (sym l.pair_is) (omega arith)
]

level : (plan : Plan) (s r : UnevenState) → IsReached plan s r → (k : ℕ) → k + 1 < slots_of plan → turns k (position_at r k).epoch ≡ turns k (position_at r (k + 1)).epoch
level plan s r reached k h = turns-from k _ _ (λ f turn below. (reached.turns k h f turn).0 below) (λ f turn below. (reached.turns k h f turn).1 below)

pub generators-reached : (plan : Plan) (s r : UnevenState) (k e : ℕ) → IsReached plan s r → k + 1 < slots_of plan → (position_at r k).epoch ≤ e
    → generators plan r k e ≡ generators plan s k e
generators-reached plan s r k zero h known below =
    let z : (position_at r k).epoch ≡ 0 = omega arith in
    generators-from plan r k 0 (omega arith) ∙ (h.pairs k known ∙ ap (generators plan s k) z)
generators-reached plan s r k (suc e) h known below = elim (cases_lt e (position_at r k).epoch) [
  | inl now ↦
      let z : (position_at r k).epoch ≡ suc e = omega arith in
      generators-from plan r k (suc e) (omega arith) ∙ (h.pairs k known ∙ ap (generators plan s k) z)
  | inr past ↦
      let before = generators-reached plan s r k e h known past in
      let place : suc e ≡ e + 1 = omega arith in
      let l' : nat_le (position_at r k).epoch e ≡ true = le-leb _ _ past in
      let later = h.later k (omega arith) in let small = bit-small (position_at r k).waits in
      let l : nat_le (position_at s k).epoch e ≡ true = le-leb _ _ (omega arith) in
      let a : Bool = has_turn k e in
      let f : PlainPair → PlainPair = λ w. cond (a && true) (drawn_pair w) w in
      let one : generators plan r k (e + 1) ≡ f (generators plan r k e) = generators-more plan r k e ∙ ap (λ x. cond (a && x) (drawn_pair (generators plan r k e)) (generators plan r k e)) l' in
      let two : generators plan s k (e + 1) ≡ f (generators plan s k e) = generators-more plan s k e ∙ ap (λ x. cond (a && x) (drawn_pair (generators plan s k e)) (generators plan s k e)) l in
      ap (generators plan r k) place ∙ (one ∙ (ap f before ∙ (sym two ∙ ap (generators plan s k) (sym place))))
]

arrived-from-ready : (plan : Plan) (s r : UnevenState) (e t : ℕ) → IsReached plan s r → t < slots_of plan → rank (position_at r t) ≤ 4 * e + 2
    → (rank (position_at r t) ≤ 4 * e → ready plan r e t ≡ ready plan s e t) → arrived plan r e t ≡ arrived plan s e t
arrived-from-ready plan s r e t h known below before =
    let later = h.later t known in
    let swept : rank (position_at r t) ≤ 4 * e → arrived plan r e t ≡ arrived plan s e t = λ low.
    arrived-swept plan r e t (omega arith) ∙ (ap₂ (λ b c. swept_slot plan b t c) h.bit_is (before low) ∙ sym (arrived-swept plan s e t (omega arith))) in
    elim (bit-tells (position_at r t).waits) [
      | inl y ↦ elim (eqb_tells (position_at r t).epoch e) [
        | inl z ↦
            let D : ℕ → Bool → UnevenState → Type 0 = λ i a x. content plan x t i a ≡ slot_at r.slots t in
            let there : D e true r = subst (λ i. D i true r) z.1 (subst (λ a. D (position_at r t).epoch a r) y.0 (content-start plan r t)) in
            let here : D e true s = subst (λ i. D i true s) z.1 (subst (λ a. D (position_at r t).epoch a s) y.0 (sym (h.slots t known))) in
            there ∙ sym here
        | inr z ↦ swept (let ne : (position_at r t).epoch ≢ e = z.1 in let yy = y.1 in omega arith)
      ]
      | inr y ↦ swept (let yy = y.1 in omega arith)
    ]

-- the partner of a slot that is not past e is not past it either
partner-past : (plan : Plan) (s r : UnevenState) (e t : ℕ) → IsReached plan s r → t < slots_of plan → has_partner (slots_of plan) t e ≡ true
    → rank (position_at r t) ≤ 4 * e + 2 → rank (position_at r (partner t e)) ≤ 4 * e + 2
partner-past plan s r e t h known has below =
    let small = bit-small (position_at r t).waits in
    let p = bit-small (position_at r (partner t e)).waits in
    let b0 : (position_at r t).epoch ≤ e = omega arith in
    elim (sides t e) [
      | inl l ↦
          let more = low-partner (slots_of plan) t e l has in
          let lv = level plan s r h t more in let par = l.parity in
          let z : (position_at r (partner t e)).epoch ≡ (position_at r (t + 1)).epoch = ap (λ j. (position_at r j).epoch) l.partner_is in
          let b1 : (position_at r (partner t e)).epoch ≤ e = omega arith in
          omega arith
      | inr l ↦
          let pos = high-partner (slots_of plan) t e l has in
          let one : t - 1 + 1 ≡ t = omega arith in
          let lv = level plan s r h (t - 1) (omega arith) in let par = l.parity in
          let y : (position_at r (t - 1 + 1)).epoch ≡ (position_at r t).epoch = ap (λ j. (position_at r j).epoch) one in
          let z : (position_at r (partner t e)).epoch ≡ (position_at r (t - 1)).epoch = ap (λ j. (position_at r j).epoch) l.partner_is in
          let b1 : (position_at r (partner t e)).epoch ≤ e = omega arith in
          omega arith
    ]

-- nor is the pair's colder slot
pair-past : (plan : Plan) (s r : UnevenState) (e t : ℕ) → IsReached plan s r → t < slots_of plan → has_partner (slots_of plan) t e ≡ true
    → rank (position_at r t) ≤ 4 * e + 2 → (position_at r (pair_of t e)).epoch ≤ e
pair-past plan s r e t h known has below = elim (sides t e) [
  | inl l ↦ let z : (position_at r (pair_of t e)).epoch ≡ (position_at r t).epoch = ap (λ j. (position_at r j).epoch) l.pair_is in omega arith
  | inr l ↦
      let p = partner-past plan s r e t h known has below in
      let same : pair_of t e ≡ partner t e = l.pair_is ∙ sym l.partner_is in
      let z : (position_at r (pair_of t e)).epoch ≡ (position_at r (partner t e)).epoch = ap (λ j. (position_at r j).epoch) same in omega arith
]

ready-here : (plan : Plan) (s r : UnevenState) (e t : ℕ) → IsReached plan s r → t < slots_of plan → (position_at r t).epoch ≡ e → (position_at r t).waits ≡ false
    → ready plan r e t ≡ ready plan s e t
ready-here plan s r e t h known at rests =
    let D : ℕ → Bool → UnevenState → Type 0 = λ i a x. content plan x t i a ≡ slot_at r.slots t in
    let there : D e false r = subst (λ i. D i false r) at (subst (λ a. D (position_at r t).epoch a r) rests (content-start plan r t)) in
    let here : D e false s = subst (λ i. D i false s) at (subst (λ a. D (position_at r t).epoch a s) rests (sym (h.slots t known))) in
    there ∙ sym here

pub ready-reached : (plan : Plan) (s r : UnevenState) (e t : ℕ) → IsReached plan s r → t < slots_of plan → rank (position_at r t) ≤ 4 * e
    → ready plan r e t ≡ ready plan s e t
ready-reached plan s r zero t h known below = elim (bit-tells (position_at r t).waits) [
  | inl y ↦ let yy = y.1 in absurd (omega arith)
  | inr y ↦ ready-here plan s r 0 t h known (omega arith) y.0
]
ready-reached plan s r (suc e) t h known below =
    let later = h.later t known in
    elim (cases_lt e (position_at r t).epoch) [
      | inl now ↦ elim (bit-tells (position_at r t).waits) [
        | inl y ↦ let yy = y.1 in absurd (omega arith)
        | inr y ↦ ready-here plan s r (suc e) t h known (omega arith) y.0
      ]
      | inr past ↦
          let q = bit-small (position_at r t).waits in
          let b0 : rank (position_at r t) ≤ 4 * e + 2 = omega arith in
          let b1 : rank (position_at s t) ≤ 4 * e + 2 = omega arith in
          let place : suc e ≡ e + 1 = omega arith in
          let x = arrived-from-ready plan s r e t h known b0 (ready-reached plan s r e t h known) in
          let step : ready plan r (e + 1) t ≡ ready plan s (e + 1) t = elim (cases_Bool (has_partner (slots_of plan) t e)) [
            | inl has ↦
                let k = back (slots_of plan) t e known has in
                let w = generators-reached plan s r (pair_of t e) e h (pair-known (slots_of plan) t e known has) (pair-past plan s r e t h known has b0) in
                let y = arrived-from-ready plan s r e (partner t e) h k.known (partner-past plan s r e t h known has b0) (ready-reached plan s r e (partner t e) h k.known) in
                ready-settled plan r e t b0 has ∙ (side-same plan _ _ e t _ _ _ _ _ _ h.bit_is w x y ∙ sym (ready-settled plan s e t b1 has))
            | inr alone ↦ ready-alone plan r e t b0 alone ∙ (x ∙ sym (ready-alone plan s e t b1 alone))
          ] in
          ap (λ i. ready plan r i t) place ∙ (step ∙ ap (λ i. ready plan s i t) (sym place))
    ]

pub arrived-reached : (plan : Plan) (s r : UnevenState) (e t : ℕ) → IsReached plan s r → t < slots_of plan → rank (position_at r t) ≤ 4 * e + 2
    → arrived plan r e t ≡ arrived plan s e t
arrived-reached plan s r e t h known below = arrived-from-ready plan s r e t h known below (ready-reached plan s r e t h known)
