-- Where the configuration of a slot comes from: itself, or its partner where the pair swaps.
use Rattle.std.proofs.Common.{inl, inr, ◌≡◌, ℕ, ◌<◌, Bool, true, false, not, ◌&&◌, cond, List, refl, ap, sym, ◌∙◌, arith}
use Rattle.std.proofs.lemmas.Bool.{cases_Bool, and_from, and_left, and_right}
use Rattle.scalar_rule.specs.Plan.{Plan, slots_of}
use Rattle.scalar_rule.specs.Epoch.{slot_at, pair_at, has_turn, has_partner, pair_of, partner, side, exchanged}
use Rattle.scalar_rule.specs.Exchange.{decision, traded, cold_side, hot_side}
use Rattle.scalar_rule.specs.declared.plain_copy.PlainCopy.{PlainCopy}
use Rattle.scalar_rule.specs.declared.sample.PlainPair.{PlainPair}
use Rattle.scalar_rule.specs.declared.sample.PlainSlot.{PlainSlot}
use Rattle.scalar_rule.proofs.SlotPartners.{Back, back}
use Rattle.plane_sweep.specs.Packed.{Permutes}
use Rattle.model_laws.specs.Trading.{AreTraded}

-- ---- one replica of all slots, the words of its pairs' generators, and whether slot t swaps

abbrev copies : List PlainSlot → Bool → ℕ → PlainCopy
copies slots second t = cond second (slot_at slots t).second (slot_at slots t).first

abbrev words : List PlainPair → Bool → ℕ → List ℕ
words pairs second k = cond second (pair_at pairs k).second (pair_at pairs k).first

-- the decision of the pair of two slots, the own one colder or hotter
abbrev decided : Plan → ℕ → ℕ → List ℕ → Bool → PlainCopy → PlainCopy → Bool
decided plan b k w low own other = cond low (decision plan b k w own other) (decision plan b k w other own)

decided-back : (plan : Plan) (b k : ℕ) (w : List ℕ) (low : Bool) (own other : PlainCopy) → decided plan b k w (not low) other own ≡ decided plan b k w low own other
decided-back plan b k w true own other = refl
decided-back plan b k w false own other = refl

abbrev swaps : Plan → ℕ → ℕ → List PlainPair → (ℕ → PlainCopy) → Bool → ℕ → Bool
swaps plan b e pairs copy second t =
    has_partner (slots_of plan) t e && decided plan b (pair_of t e) (words pairs second (pair_of t e)) (has_turn t e) (copy t) (copy (partner t e))

abbrev source_of : Plan → ℕ → ℕ → List PlainPair → (ℕ → PlainCopy) → Bool → ℕ → ℕ
source_of plan b e pairs copy second t = cond (swaps plan b e pairs copy second t) (partner t e) t

-- ---- the sources are each slot once, since going there twice is staying

pub record Returns (n : ℕ) (f : ℕ → ℕ) : Type 0 where
  pub known : (t : ℕ) → t < n → f t < n
  pub twice : (t : ℕ) → t < n → f (f t) ≡ t

pub permutes-returns : (n : ℕ) (f : ℕ → ℕ) → Returns n f → Permutes n f
permutes-returns n f r = record {
  below = r.known;
  apart = λ t u h k same. sym (r.twice t h) ∙ ap f same ∙ r.twice u k;
  onto = λ q h. (f q, r.known q h, r.twice q h);
}

source-swaps : (plan : Plan) (b e : ℕ) (pairs : List PlainPair) (copy : ℕ → PlainCopy) (second : Bool) (t : ℕ) → swaps plan b e pairs copy second t ≡ true → source_of plan b e pairs copy second t ≡ partner t e
source-swaps plan b e pairs copy second t on = ap (λ s. cond s (partner t e) t) on

source-stays : (plan : Plan) (b e : ℕ) (pairs : List PlainPair) (copy : ℕ → PlainCopy) (second : Bool) (t : ℕ) → swaps plan b e pairs copy second t ≡ false → source_of plan b e pairs copy second t ≡ t
source-stays plan b e pairs copy second t off = ap (λ s. cond s (partner t e) t) off

-- the partner swaps as the slot does
partner-swaps : (plan : Plan) (b e : ℕ) (pairs : List PlainPair) (copy : ℕ → PlainCopy) (second : Bool) (t : ℕ) → Back (slots_of plan) t e (partner t e)
    → decided plan b (pair_of t e) (words pairs second (pair_of t e)) (has_turn t e) (copy t) (copy (partner t e)) ≡ true
    → swaps plan b e pairs copy second (partner t e) ≡ true
partner-swaps plan b e pairs copy second t p on =
    let u = partner t e in
    let place : decided plan b (pair_of u e) (words pairs second (pair_of u e)) (has_turn u e) (copy u) (copy (partner u e))
    ≡ decided plan b (pair_of t e) (words pairs second (pair_of t e)) (not (has_turn t e)) (copy u) (copy t) =
    ap (λ k. decided plan b k (words pairs second k) (has_turn u e) (copy u) (copy (partner u e))) p.pair_is
    ∙ ap (λ low. decided plan b (pair_of t e) (words pairs second (pair_of t e)) low (copy u) (copy (partner u e))) p.low
    ∙ ap (λ k. decided plan b (pair_of t e) (words pairs second (pair_of t e)) (not (has_turn t e)) (copy u) (copy k)) p.partner_is in
    and_from _ _ p.has (place ∙ decided-back plan b (pair_of t e) (words pairs second (pair_of t e)) (has_turn t e) (copy t) (copy u) ∙ on)

pub source-returns : (plan : Plan) (b e : ℕ) (pairs : List PlainPair) (copy : ℕ → PlainCopy) (second : Bool) → Returns (slots_of plan) (source_of plan b e pairs copy second)
source-returns plan b e pairs copy second = record { known = λ t h. (one t h).0; twice = λ t h. (one t h).1 }
  where
    n : ℕ
    n = slots_of plan

    f : ℕ → ℕ
    f = source_of plan b e pairs copy second

    there : (t : ℕ) → t < n → has_partner n t e ≡ true → decided plan b (pair_of t e) (words pairs second (pair_of t e)) (has_turn t e) (copy t) (copy (partner t e)) ≡ true
        → (f t < n) × (f (f t) ≡ t)
    there t h has on =
        let p = back n t e h has in
        let moves : f t ≡ partner t e = source-swaps plan b e pairs copy second t (and_from _ _ has on) in
        let moves_back : f (partner t e) ≡ partner (partner t e) e = source-swaps plan b e pairs copy second (partner t e) (partner-swaps plan b e pairs copy second t p on) in
        let known = p.known in
        (omega arith, ap f moves ∙ moves_back ∙ p.partner_is)

    stays : (t : ℕ) → t < n → swaps plan b e pairs copy second t ≡ false → (f t < n) × (f (f t) ≡ t)
    stays t h off = let same : f t ≡ t = source-stays plan b e pairs copy second t off in (omega arith, ap f same ∙ same)

    one : (t : ℕ) → t < n → (f t < n) × (f (f t) ≡ t)
    one t h = elim (cases_Bool (has_partner n t e)) [
      | inl has ↦ elim (cases_Bool (decided plan b (pair_of t e) (words pairs second (pair_of t e)) (has_turn t e) (copy t) (copy (partner t e)))) [
        | inl on ↦ there t h has on
        | inr off ↦ stays t h (and_right _ _ off)
      ]
      | inr alone ↦ stays t h (and_left _ _ alone)
    ]

-- ---- what a slot has after the exchange

-- the copy of a slot, as its source has it
abbrev copy_from : (ℕ → PlainCopy) → ℕ → ℕ → PlainCopy
copy_from copy t s = record { spins = (copy s).spins; wheels = (copy t).wheels; replica = (copy s).replica }

-- the first replica, and the second
first-side : (plan : Plan) (b e t : ℕ) (pair : PlainPair) (own other : PlainSlot) (low : Bool) → has_turn t e ≡ low
    → (side plan b e t pair own other).first ≡ traded (decided plan b (pair_of t e) pair.first low own.first other.first) own.first other.first
unfolding side cold_side hot_side
first-side plan b e t pair own other true low = rw low refl
first-side plan b e t pair own other false low = rw low refl

second-side : (plan : Plan) (b e t : ℕ) (pair : PlainPair) (own other : PlainSlot) (low : Bool) → has_turn t e ≡ low
    → (side plan b e t pair own other).second ≡ traded (decided plan b (pair_of t e) pair.second low own.second other.second) own.second other.second
unfolding side cold_side hot_side
second-side plan b e t pair own other true low = rw low refl
second-side plan b e t pair own other false low = rw low refl

traded-from : (copy : ℕ → PlainCopy) (t u : ℕ) (has swap : Bool) → cond has (traded swap (copy t) (copy u)) (copy t) ≡ copy_from copy t (cond (has && swap) u t)
traded-from copy t u true true = refl
traded-from copy t u true false = refl
traded-from copy t u false true = refl
traded-from copy t u false false = refl

first-from : (plan : Plan) (b e t : ℕ) (pairs : List PlainPair) (slots : List PlainSlot) (has : Bool) → has_partner (slots_of plan) t e ≡ has
    → (exchanged plan b e pairs slots t).first ≡ cond has (side plan b e t (pair_at pairs (pair_of t e)) (slot_at slots t) (slot_at slots (partner t e))).first (slot_at slots t).first
first-from plan b e t pairs slots true has = rw has refl
first-from plan b e t pairs slots false has = rw has refl

second-from : (plan : Plan) (b e t : ℕ) (pairs : List PlainPair) (slots : List PlainSlot) (has : Bool) → has_partner (slots_of plan) t e ≡ has
    → (exchanged plan b e pairs slots t).second ≡ cond has (side plan b e t (pair_at pairs (pair_of t e)) (slot_at slots t) (slot_at slots (partner t e))).second (slot_at slots t).second
second-from plan b e t pairs slots true has = rw has refl
second-from plan b e t pairs slots false has = rw has refl

first-source : (plan : Plan) (b e t : ℕ) (pairs : List PlainPair) (slots : List PlainSlot)
    → (exchanged plan b e pairs slots t).first ≡ copy_from (copies slots false) t (source_of plan b e pairs (copies slots false) false t)
first-source plan b e t pairs slots =
    let has = has_partner (slots_of plan) t e in
    let pair = pair_at pairs (pair_of t e) in
    first-from plan b e t pairs slots has refl
    ∙ ap (λ c. cond has c (slot_at slots t).first) (first-side plan b e t pair (slot_at slots t) (slot_at slots (partner t e)) (has_turn t e) refl)
    ∙ traded-from (copies slots false) t (partner t e) has (decided plan b (pair_of t e) pair.first (has_turn t e) (copies slots false t) (copies slots false (partner t e)))

second-source : (plan : Plan) (b e t : ℕ) (pairs : List PlainPair) (slots : List PlainSlot)
    → (exchanged plan b e pairs slots t).second ≡ copy_from (copies slots true) t (source_of plan b e pairs (copies slots true) true t)
second-source plan b e t pairs slots =
    let has = has_partner (slots_of plan) t e in
    let pair = pair_at pairs (pair_of t e) in
    second-from plan b e t pairs slots has refl
    ∙ ap (λ c. cond has c (slot_at slots t).second) (second-side plan b e t pair (slot_at slots t) (slot_at slots (partner t e)) (has_turn t e) refl)
    ∙ traded-from (copies slots true) t (partner t e) has (decided plan b (pair_of t e) pair.second (has_turn t e) (copies slots true t) (copies slots true (partner t e)))

-- ---- the law

from-sources : (n : ℕ) (copy after : ℕ → PlainCopy) (source : ℕ → ℕ) → Returns n source → ((t : ℕ) → after t ≡ copy_from copy t (source t)) → AreTraded n copy after source
from-sources n copy after source r is = record {
  each_once = permutes-returns n source r;
  spins = λ t h. ap (λ (c : PlainCopy). c.spins) (is t);
  label = λ t h. ap (λ (c : PlainCopy). c.replica) (is t);
  generators = λ t h. ap (λ (c : PlainCopy). c.wheels) (is t);
}

pub exchanges-trade : (plan : Plan) (b e : ℕ) (pairs : List PlainPair) (slots : List PlainSlot)
    → ((source : ℕ → ℕ) × AreTraded (slots_of plan) (λ t. (slot_at slots t).first) (λ t. (exchanged plan b e pairs slots t).first) source)
    × ((source : ℕ → ℕ) × AreTraded (slots_of plan) (λ t. (slot_at slots t).second) (λ t. (exchanged plan b e pairs slots t).second) source)
exchanges-trade plan b e pairs slots = (
  (
    source_of plan b e pairs (copies slots false) false,
    from-sources (slots_of plan) (copies slots false) (λ t. (exchanged plan b e pairs slots t).first) (source_of plan b e pairs (copies slots false) false)
        (source-returns plan b e pairs (copies slots false) false) (λ t. first-source plan b e t pairs slots),
  ),
  (
    source_of plan b e pairs (copies slots true) true,
    from-sources (slots_of plan) (copies slots true) (λ t. (exchanged plan b e pairs slots t).second) (source_of plan b e pairs (copies slots true) true)
        (source-returns plan b e pairs (copies slots true) true) (λ t. second-source plan b e t pairs slots),
  ),
)
