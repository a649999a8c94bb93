-- The exchange pair after pair is that of an epoch.
use Rattle.std.proofs.Common.{inl, inr, ◌≡◌, ℕ, zero, suc, ◌+◌, ◌-◌, ◌%◌, ◌<◌, ◌≤◌, Bool, true, false, cond, nat_lt, List, length, set, ap, refl, sym, ◌∙◌, subst, arith}
use Rattle.std.proofs.lemmas.Bool.{cases_lt, cases_Bool, eqb-true, eqb-false, eq-eqb}
use Rattle.std.proofs.lemmas.Bool.Decides.{nat_tests}
use Rattle.std.proofs.lemmas.List.{get_or_default}
use Rattle.spin_model.specs.Steps.{table}
use Rattle.spin_model.proofs.Tables.{length-table, get_or-table}
use Rattle.scalar_rule.specs.Plan.{Plan, slots_of, pairs_of}
use Rattle.scalar_rule.specs.Epoch.{slot_at, pair_at, has_turn, side, exchanged}
use Rattle.scalar_rule.specs.Exchange.{cold_side, hot_side, drawn_pair}
use Rattle.scalar_rule.specs.Shape.{FitsSlot, FitSlots}
use Rattle.scalar_rule.specs.Turns.{TurnFits, exchanged_pair, after_turn, drawn_in_turn}
use Rattle.scalar_rule.specs.declared.sample.PlainSlot.{PlainSlot}
use Rattle.scalar_rule.specs.declared.sample.PlainPair.{PlainPair}
use Rattle.scalar_rule.proofs.SlotShapes.{fits-cold_side, fits-hot_side}
use Rattle.scalar_rule.proofs.Written.{Written, written-zero, written-more, written-same, written-all}

pub turn-next : (k e : ℕ) → has_turn k e ≡ true → has_turn (k + 1) e ≡ false
turn-next k e turn = let even = eqb-true ((k + e) % 2) 0 turn in grind (arith, nat_tests)

pub turn-follows : (k e : ℕ) → has_turn k e ≡ false → has_turn (k + 1) e ≡ true
turn-follows k e off = let odd = eqb-false ((k + e) % 2) 0 off in eq-eqb ((k + 1 + e) % 2) 0 (omega arith)

turn-before : (k e : ℕ) → has_turn (suc k) e ≡ false → has_turn k e ≡ true
turn-before k e off = let odd = eqb-false ((suc k + e) % 2) 0 off in eq-eqb ((k + e) % 2) 0 (omega arith)

pub exchanged-cold : (plan : Plan) (b e k : ℕ) (pairs : List PlainPair) (slots : List PlainSlot) → has_turn k e ≡ true → k + 1 < slots_of plan
    → cold_side plan b k (pair_at pairs k) (slot_at slots k) (slot_at slots (k + 1)) ≡ exchanged plan b e pairs slots k
unfolding side
exchanged-cold plan b e k pairs slots turn below =
    let partnered : nat_lt (k + 1) (slots_of plan) ≡ true = grind (arith, nat_tests) in
    rw (turn, partnered) refl

pub exchanged-hot : (plan : Plan) (b e k : ℕ) (pairs : List PlainPair) (slots : List PlainSlot) → has_turn k e ≡ true
    → hot_side plan b k (pair_at pairs k) (slot_at slots k) (slot_at slots (k + 1)) ≡ exchanged plan b e pairs slots (k + 1)
unfolding side
exchanged-hot plan b e k pairs slots turn =
    let off = turn-next k e turn in
    let partnered : nat_lt 0 (k + 1) ≡ true = grind (arith, nat_tests) in
    let colder : k + 1 - 1 ≡ k = omega arith in
    rw (off, partnered, colder) refl

-- the first slot where pair 0 has no turn, and the last one where no pair follows it
pub exchanged-first : (plan : Plan) (b e : ℕ) (pairs : List PlainPair) (slots : List PlainSlot) → has_turn 0 e ≡ false
    → slot_at slots 0 ≡ exchanged plan b e pairs slots 0
exchanged-first plan b e pairs slots off = rw off refl

pub exchanged-last : (plan : Plan) (b e k : ℕ) (pairs : List PlainPair) (slots : List PlainSlot) → has_turn k e ≡ true → slots_of plan ≤ k + 1
    → slot_at slots k ≡ exchanged plan b e pairs slots k
exchanged-last plan b e k pairs slots turn last =
    let lone : nat_lt (k + 1) (slots_of plan) ≡ false = grind (arith, nat_tests) in
    rw (turn, lone) refl

-- how many slots are exchanged once the pairs below k are done
abbrev pub settled : ℕ → ℕ → ℕ
settled k e = cond (has_turn k e) k (k + 1)

-- the generators of pair k after epoch e
abbrev pub drawn_at : List PlainPair → ℕ → ℕ → PlainPair
drawn_at pairs e k = cond (has_turn k e) (drawn_pair (pair_at pairs k)) (pair_at pairs k)

pub record Exchanging (plan : Plan) (b e : ℕ) (pairs : List PlainPair) (slots : List PlainSlot) (pairs_now : List PlainPair) (slots_now : List PlainSlot) (k : ℕ) : Type 0 where
  pub written : Written (exchanged plan b e pairs slots) slots slots_now (settled k e)
  pub drawn : Written (drawn_at pairs e) pairs pairs_now k

pub exchanging-zero : (plan : Plan) (b e : ℕ) (pairs : List PlainPair) (slots : List PlainSlot) → 0 < length slots → Exchanging plan b e pairs slots pairs slots 0
exchanging-zero plan b e pairs slots some =
    let f = exchanged plan b e pairs slots in
    let P : ℕ → Type 0 = λ n. Written f slots slots n in
    record {
      written = elim (cases_Bool (has_turn 0 e)) [
        | inl on ↦ subst P (sym (ap (λ t. cond t 0 (0 + 1)) on)) (written-zero f slots)
        | inr off ↦ subst P (sym (ap (λ t. cond t 0 (0 + 1)) off)) (written-same f slots slots 0 (λ d below. get_or_default slots 0 d _ below ∙ exchanged-first plan b e pairs slots off) (written-zero f slots) some)
      ];
      drawn = written-zero (drawn_at pairs e) pairs;
    }

exchanging-turn : (plan : Plan) (b e k : ℕ) (pairs pairs_now : List PlainPair) (slots slots_now : List PlainSlot)
    → length slots ≡ slots_of plan → length pairs ≡ pairs_of plan → k < pairs_of plan → has_turn k e ≡ true
    → Exchanging plan b e pairs slots pairs_now slots_now k
    → Exchanging plan b e pairs slots (set pairs_now k (drawn_pair (pair_at pairs_now k))) (exchanged_pair plan b k (pair_at pairs_now k) slots_now) (k + 1)
unfolding exchanged_pair
exchanging-turn plan b e k pairs pairs_now slots slots_now sized paired below on w =
    let f = exchanged plan b e pairs slots in
    let P : ℕ → Type 0 = λ n. Written f slots slots_now n in
    let here : Written f slots slots_now k = subst P (ap (λ t. cond t k (k + 1)) on) w.written in
    let pair : pair_at pairs_now k ≡ pair_at pairs k = w.drawn.left k _ (omega arith) in
    let cold : slot_at slots_now k ≡ slot_at slots k = here.left k _ (omega arith) in
    let hot : slot_at slots_now (k + 1) ≡ slot_at slots (k + 1) = here.left (k + 1) _ (omega arith) in
    let new_cold : cold_side plan b k (pair_at pairs_now k) (slot_at slots_now k) (slot_at slots_now (k + 1)) ≡ f k =
    ap (λ p. cold_side plan b k p (slot_at slots_now k) (slot_at slots_now (k + 1))) pair
    ∙ ap (λ s. cold_side plan b k (pair_at pairs k) s (slot_at slots_now (k + 1))) cold
    ∙ ap (λ s. cold_side plan b k (pair_at pairs k) (slot_at slots k) s) hot
    ∙ exchanged-cold plan b e k pairs slots on (omega arith) in
    let new_hot : hot_side plan b k (pair_at pairs_now k) (slot_at slots_now k) (slot_at slots_now (k + 1)) ≡ f (k + 1) =
    ap (λ p. hot_side plan b k p (slot_at slots_now k) (slot_at slots_now (k + 1))) pair
    ∙ ap (λ s. hot_side plan b k (pair_at pairs k) s (slot_at slots_now (k + 1))) cold
    ∙ ap (λ s. hot_side plan b k (pair_at pairs k) (slot_at slots k) s) hot
    ∙ exchanged-hot plan b e k pairs slots on in
    let one = written-more f slots slots_now k _ (omega arith) new_cold here in
    let two = written-more f slots (set slots_now k (cold_side plan b k (pair_at pairs_now k) (slot_at slots_now k) (slot_at slots_now (k + 1)))) (k + 1) _ (omega arith) new_hot one in
    let Q : ℕ → Type 0 = λ n. Written f slots (exchanged_pair plan b k (pair_at pairs_now k) slots_now) n in
    record {
      written = subst Q (sym (ap (λ t. cond t (k + 1) (k + 1 + 1)) (turn-next k e on))) two;
      drawn = written-more (drawn_at pairs e) pairs pairs_now k _ (omega arith) (ap drawn_pair pair ∙ sym (ap (λ t. cond t (drawn_pair (pair_at pairs k)) (pair_at pairs k)) on)) w.drawn;
    }

exchanging-skip : (plan : Plan) (b e k : ℕ) (pairs pairs_now : List PlainPair) (slots slots_now : List PlainSlot)
    → length pairs ≡ pairs_of plan → k < pairs_of plan → has_turn k e ≡ false
    → Exchanging plan b e pairs slots pairs_now slots_now k
    → Exchanging plan b e pairs slots pairs_now slots_now (k + 1)
exchanging-skip plan b e k pairs pairs_now slots slots_now paired below off w =
    let f = exchanged plan b e pairs slots in
    let P : ℕ → Type 0 = λ n. Written f slots slots_now n in
    record {
      written = subst P (ap (λ t. cond t k (k + 1)) off ∙ sym (ap (λ t. cond t (k + 1) (k + 1 + 1)) (turn-follows k e off))) w.written;
      drawn = written-same (drawn_at pairs e) pairs pairs_now k (λ d less. get_or_default pairs k d _ less ∙ sym (ap (λ t. cond t (drawn_pair (pair_at pairs k)) (pair_at pairs k)) off)) w.drawn (omega arith);
    }

pub exchanging-more : (plan : Plan) (b e k : ℕ) (pairs pairs_now : List PlainPair) (slots slots_now : List PlainSlot)
    → length slots ≡ slots_of plan → length pairs ≡ pairs_of plan → k < pairs_of plan
    → Exchanging plan b e pairs slots pairs_now slots_now k
    → Exchanging plan b e pairs slots (drawn_in_turn k e pairs_now) (after_turn plan b k e pairs_now slots_now) (k + 1)
unfolding after_turn drawn_in_turn
exchanging-more plan b e k pairs pairs_now slots slots_now sized paired below w =
    let T : Bool → Type 0 = λ t. Exchanging plan b e pairs slots (cond t (set pairs_now k (drawn_pair (pair_at pairs_now k))) pairs_now) (cond t (exchanged_pair plan b k (pair_at pairs_now k) slots_now) slots_now) (k + 1) in
    elim (cases_Bool (has_turn k e)) [
      | inl on ↦ subst T (sym on) (exchanging-turn plan b e k pairs pairs_now slots slots_now sized paired below on w)
      | inr off ↦ subst T (sym off) (exchanging-skip plan b e k pairs pairs_now slots slots_now paired below off w)
    ]

-- once all pairs are done
pub exchanging-slots : (plan : Plan) (b e : ℕ) (pairs pairs_now : List PlainPair) (slots slots_now : List PlainSlot)
    → length slots ≡ slots_of plan → 0 < slots_of plan
    → Exchanging plan b e pairs slots pairs_now slots_now (pairs_of plan)
    → slots_now ≡ table (exchanged plan b e pairs slots) (slots_of plan)
exchanging-slots plan b e pairs pairs_now slots slots_now sized some w =
    let f = exchanged plan b e pairs slots in
    let n = slots_of plan in
    let P : ℕ → Type 0 = λ m. Written f slots slots_now m in
    let last : n - 1 + 1 ≡ n = omega arith in
    let all : Written f slots slots_now n = elim (cases_Bool (has_turn (n - 1) e)) [
      | inl on ↦ subst P last (written-same f slots slots_now (n - 1) (λ d below. get_or_default slots (n - 1) d _ below ∙ exchanged-last plan b e (n - 1) pairs slots on (omega arith)) (subst P (ap (λ t. cond t (n - 1) (n - 1 + 1)) on) w.written) (omega arith))
      | inr off ↦ subst P (ap (λ t. cond t (n - 1) (n - 1 + 1)) off ∙ last) w.written
    ] in
    written-all f slots slots_now n sized all

pub exchanging-pairs : (plan : Plan) (b e : ℕ) (pairs pairs_now : List PlainPair) (slots slots_now : List PlainSlot)
    → length pairs ≡ pairs_of plan
    → Exchanging plan b e pairs slots pairs_now slots_now (pairs_of plan)
    → pairs_now ≡ table (drawn_at pairs e) (pairs_of plan)
exchanging-pairs plan b e pairs pairs_now slots slots_now paired w = written-all (drawn_at pairs e) pairs pairs_now (pairs_of plan) paired w.drawn

-- the slots of the pair whose turn comes are the old ones
pub exchanging-fits : (plan : Plan) (b e k : ℕ) (pairs pairs_now : List PlainPair) (slots slots_now : List PlainSlot)
    → FitSlots plan slots → k < pairs_of plan
    → Exchanging plan b e pairs slots pairs_now slots_now k
    → TurnFits plan.size k e slots_now
exchanging-fits plan b e k pairs pairs_now slots slots_now fits below w =
    let f = exchanged plan b e pairs slots in
    let P : ℕ → Type 0 = λ n. Written f slots slots_now n in
    let F : PlainSlot → Type 0 = λ s. FitsSlot plan.size s in
    let here : has_turn k e ≡ true → Written f slots slots_now k = λ on. subst P (ap (λ t. cond t k (k + 1)) on) w.written in
    record {
      cold = λ on. subst F (sym ((here on).left k _ (omega arith))) (fits.each k (omega arith));
      hot = λ on. subst F (sym ((here on).left (k + 1) _ (omega arith))) (fits.each (k + 1) (omega arith));
    }

exchanged-fits : (plan : Plan) (b e t : ℕ) (pairs : List PlainPair) (slots : List PlainSlot) → FitSlots plan slots → t < slots_of plan
    → FitsSlot plan.size (exchanged plan b e pairs slots t)
exchanged-fits plan b e zero pairs slots fits below =
    let F : PlainSlot → Type 0 = λ s. FitsSlot plan.size s in
    elim (cases_Bool (has_turn 0 e)) [
      | inl on ↦ elim (cases_lt (0 + 1) (slots_of plan)) [
        | inl more ↦ subst F (exchanged-cold plan b e 0 pairs slots on more) (fits-cold_side plan b 0 _ _ _ (fits.each 0 below) (fits.each (0 + 1) more))
        | inr last ↦ subst F (exchanged-last plan b e 0 pairs slots on last) (fits.each 0 below)
      ]
      | inr off ↦ subst F (exchanged-first plan b e pairs slots off) (fits.each 0 below)
    ]
exchanged-fits plan b e (suc k) pairs slots fits below =
    let F : PlainSlot → Type 0 = λ s. FitsSlot plan.size s in
    let next : k + 1 ≡ suc k = omega arith in
    let G : ℕ → Type 0 = λ n. FitsSlot plan.size (exchanged plan b e pairs slots n) in
    elim (cases_Bool (has_turn (suc k) e)) [
      | inl on ↦ elim (cases_lt (suc k + 1) (slots_of plan)) [
        | inl more ↦ subst F (exchanged-cold plan b e (suc k) pairs slots on more) (fits-cold_side plan b (suc k) _ _ _ (fits.each (suc k) below) (fits.each (suc k + 1) more))
        | inr last ↦ subst F (exchanged-last plan b e (suc k) pairs slots on last) (fits.each (suc k) below)
      ]
      | inr off ↦
          let before : has_turn k e ≡ true = turn-before k e off in
          subst G next (subst F (exchanged-hot plan b e k pairs slots before) (fits-hot_side plan b k _ _ _ (fits.each k (omega arith)) (fits.each (k + 1) (omega arith))))
    ]

pub exchanged-all-fit : (plan : Plan) (b e : ℕ) (pairs : List PlainPair) (slots : List PlainSlot) → FitSlots plan slots
    → FitSlots plan (table (exchanged plan b e pairs slots) (slots_of plan))
exchanged-all-fit plan b e pairs slots fits =
    let f = exchanged plan b e pairs slots in
    let F : PlainSlot → Type 0 = λ s. FitsSlot plan.size s in
    record {
      count = length-table f (slots_of plan);
      each = λ t below. subst F (sym (get_or-table f (slots_of plan) t _ below)) (exchanged-fits plan b e t pairs slots fits below);
    }
