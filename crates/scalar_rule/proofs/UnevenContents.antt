-- What slots and pairs hold, one epoch on and where they start.
use Rattle.std.proofs.Common.{arith, ◌≡◌, ℕ, zero, suc, ◌+◌, ◌*◌, ◌≤◌, Bool, true, false, not, ◌&&◌, cond, ◌==◌, nat_le, refl, sym, ◌∙◌, add-one}
use Rattle.std.proofs.lemmas.Bool.{ne_eqb, eq-eqb, le-leb, lt-leb, and_right}
use Rattle.scalar_rule.specs.Plan.{Plan, slots_of}
use Rattle.scalar_rule.specs.Epoch.{has_turn, has_partner, partner, pair_of, side, pair_at, slot_at, swept_slot}
use Rattle.scalar_rule.specs.Exchange.{drawn_pair}
use Rattle.scalar_rule.specs.Ragged.{UnevenState, position_at, generators, ready, arrived}
use Rattle.scalar_rule.specs.Positions.{rank, content}

pub generators-more : (plan : Plan) (s : UnevenState) (k e : ℕ)
    → generators plan s k (e + 1) ≡ cond (has_turn k e && nat_le (position_at s k).epoch e) (drawn_pair (generators plan s k e)) (generators plan s k e)
unfolding generators
generators-more plan s k e = rw add-one refl

pub generators-idle : (plan : Plan) (s : UnevenState) (k e : ℕ) → has_turn k e ≡ false → generators plan s k (e + 1) ≡ generators plan s k e
generators-idle plan s k e idle = generators-more plan s k e ∙ rw idle refl

pub generators-turned : (plan : Plan) (s : UnevenState) (k e : ℕ) → has_turn k e ≡ true → (position_at s k).epoch ≤ e
    → generators plan s k (e + 1) ≡ drawn_pair (generators plan s k e)
generators-turned plan s k e turn later = generators-more plan s k e ∙ (let z = le-leb _ _ later in rw (turn, z) refl)

pub generators-from : (plan : Plan) (s : UnevenState) (k e : ℕ) → e ≤ (position_at s k).epoch → generators plan s k e ≡ pair_at s.pairs k
unfolding generators
generators-from plan s k zero h = refl
generators-from plan s k (suc e) h =
    let z : nat_le (position_at s k).epoch e ≡ false = lt-leb _ _ (omega arith) in
    let y : (has_turn k e && nat_le (position_at s k).epoch e) ≡ false = and_right (has_turn k e) _ z in
    rw y (generators-from plan s k e (omega arith))

not-back : (a : Bool) (p e : ℕ) → 4 * p + cond a 2 0 ≤ 4 * e + 2 → (not a && (p == suc e)) ≡ false
not-back true p e h = refl
not-back false p e h = ne_eqb p (suc e) (λ z. omega arith)

not-there : (a : Bool) (p e : ℕ) → 4 * p + cond a 2 0 ≤ 4 * e + 1 → (a && (p == e)) ≡ false
not-there true p e h = ne_eqb p e (λ z. omega arith)
not-there false p e h = refl

pub arrived-swept : (plan : Plan) (s : UnevenState) (e t : ℕ) → rank (position_at s t) ≤ 4 * e + 1 → arrived plan s e t ≡ swept_slot plan s.bit t (ready plan s e t)
arrived-swept plan s e t h = let z = not-there (position_at s t).waits (position_at s t).epoch e h in rw z refl

pub ready-more : (plan : Plan) (s : UnevenState) (e t : ℕ) → rank (position_at s t) ≤ 4 * e + 2 → ready plan s (e + 1) t
    ≡ cond (has_partner (slots_of plan) t e) (side plan s.bit e t (generators plan s (pair_of t e) e) (arrived plan s e t) (arrived plan s e (partner t e))) (arrived plan s e t)
unfolding ready
ready-more plan s e t h = let z = not-back (position_at s t).waits (position_at s t).epoch e h in rw add-one (rw z refl)

pub ready-alone : (plan : Plan) (s : UnevenState) (e t : ℕ) → rank (position_at s t) ≤ 4 * e + 2 → has_partner (slots_of plan) t e ≡ false
    → ready plan s (e + 1) t ≡ arrived plan s e t
ready-alone plan s e t h alone = ready-more plan s e t h ∙ rw alone refl

pub ready-settled : (plan : Plan) (s : UnevenState) (e t : ℕ) → rank (position_at s t) ≤ 4 * e + 2 → has_partner (slots_of plan) t e ≡ true
    → ready plan s (e + 1) t ≡ side plan s.bit e t (generators plan s (pair_of t e) e) (arrived plan s e t) (arrived plan s e (partner t e))
ready-settled plan s e t h has = ready-more plan s e t h ∙ rw has refl

-- at the position where the slot starts
from-start : (plan : Plan) (s : UnevenState) (t p : ℕ) (a : Bool) → p ≡ (position_at s t).epoch → a ≡ (position_at s t).waits → content plan s t p a ≡ slot_at s.slots t
unfolding ready
from-start plan s t p true hp ha = let z : ((position_at s t).epoch == p) ≡ true = eq-eqb _ _ (sym hp) in rw (← ha, z) refl
from-start plan s t zero false hp ha = refl
from-start plan s t (suc p) false hp ha = let z : ((position_at s t).epoch == suc p) ≡ true = eq-eqb _ _ (sym hp) in rw (← ha, z) refl

pub content-start : (plan : Plan) (s : UnevenState) (t : ℕ) → content plan s t (position_at s t).epoch (position_at s t).waits ≡ slot_at s.slots t
content-start plan s t = from-start plan s t _ _ refl refl
