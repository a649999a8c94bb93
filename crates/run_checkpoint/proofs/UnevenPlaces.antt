-- Positions among the bytes: what they are, and that none is wrong exactly where they are in step.
use Rattle.std.proofs.Common.{◌≡◌, ◌⊎◌, ℕ, ◌+◌, ◌-◌, ◌*◌, ◌<◌, ◌≤◌, Bool, true, false, not, ◌&&◌, ◌||◌, cond, List, drop, map, length, Some, None, refl, sym, ap, subst, ◌∙◌, arith, inl, inr}
use Rattle.std.specs.Prelude.{◌==◌, nat_lt}
use Rattle.std.proofs.Math.Nat.{mul-le-mul_right}
use Rattle.std.proofs.lemmas.Bool.{eqb-true, ltb-false, cases_Bool, eq-eqb, le-ltb, lt-ltb, not-false, not_from_true, or_from, or_parts}
use Rattle.std.proofs.lemmas.Bool.Decides.{nat_tests}
use Rattle.std.proofs.lemmas.List.{get_or-drop, get_or-map, length-map}
use Rattle.spin_model.specs.Steps.{count_below}
use Rattle.spin_model.proofs.Tables.{length-table, get_or-table}
use Rattle.scalar_rule.specs.Epoch.{has_turn, has_partner}
use Rattle.scalar_rule.specs.Ragged.{Position}
use Rattle.scalar_rule.specs.Positions.{turns, done, position_in, least, floor_of, deepest_of, pending_count, is_pending, AreInStep, HasSameTurns}
use Rattle.scalar_rule.proofs.Extremes.{least-at, greatest-at}
use Rattle.scalar_rule.proofs.InStep.{steps-short}
use Rattle.scalar_rule.proofs.SlotPartners.{turns-say, turns-from}
use Rattle.plane_sweep.specs.Uneven.{position_of}
use Rattle.run_checkpoint.specs.UnevenDecoding.{epoch_in, phase_in, place_in, places_in, is_wrong_place, wrong_place_at, wrong_place, HasRightPlaces}
use Rattle.run_checkpoint.specs.declared.refused.CheckpointRefused.{CheckpointRefused}
use Rattle.run_checkpoint.proofs.FirstOf.{first-all, all-none}
use Rattle.run_checkpoint.proofs.Tested.{held}

-- ---- one position

place-is : (bytes : List ℕ) (t : ℕ) → position_of (place_in (drop (9 * t) bytes)) ≡ record { epoch = epoch_in bytes t; waits = phase_in bytes t == 2 }
unfolding place_in
place-is bytes t =
    let made : ℕ → Position = λ p. record { epoch = epoch_in bytes t; waits = p == 2 } in
    ap made (get_or-drop (9 * t) bytes 8 0)

pub positions-count : (n : ℕ) (bytes : List ℕ) → length (map position_of (places_in n bytes)) ≡ n
unfolding places_in
positions-count n bytes = length-map (places_in n bytes) position_of ∙ length-table (λ i. place_in (drop (9 * i) bytes)) n

pub position-at : (n t : ℕ) (bytes : List ℕ) → t < n → position_in (map position_of (places_in n bytes)) t ≡ record { epoch = epoch_in bytes t; waits = phase_in bytes t == 2 }
unfolding places_in
position-at n t bytes within =
    let sized = length-table (λ i. place_in (drop (9 * i) bytes)) n in
    get_or-map position_of (places_in n bytes) t (place_in bytes) _ (omega (arith, sized))
    ∙ ap position_of (get_or-table (λ i. place_in (drop (9 * i) bytes)) n t (place_in bytes) within)
    ∙ place-is bytes t

pub last-number : (n k : ℕ) (bytes : List ℕ) → k ≤ n → n ≤ k → k ≡ length (map position_of (places_in n bytes))
last-number n k bytes most least = omega (arith, positions-count n bytes)

-- ---- one test

and-none : (a b : Bool) → (a && b) ≡ false → a ≡ true → b ≡ false
and-none true b e is = e
and-none false b e is = absurd cc

and-first : (a b : Bool) → (a ≡ true → b ≡ false) → (a && b) ≡ false
and-first true b none = none refl
and-first false b none = refl

either-phase : (p : ℕ) → ((p == 0) || (p == 2)) ≡ true → (p ≡ 0) ⊎ (p ≡ 2)
either-phase p e = elim (cases_Bool (p == 0)) [
  | inl zero_is ↦ inl (eqb-true p 0 zero_is)
  | inr not ↦ elim (cases_Bool (p == 2)) [
    | inl two ↦ inr (eqb-true p 2 two)
    | inr none ↦ let h : ((p == 0) || (p == 2)) ≡ false = or_from _ _ not none in absurd cc
  ]
]

phase-either : (p : ℕ) → (p ≡ 0) ⊎ (p ≡ 2) → ((p == 0) || (p == 2)) ≡ true
phase-either p (inl e) = rw e refl
phase-either p (inr e) = rw e refl

-- what the test of slot t says
pub record RightPlace (n : ℕ) (epoch phase : ℕ → ℕ) (t : ℕ) : Type 0 where
  pub phases : (phase t ≡ 0) ⊎ (phase t ≡ 2)
  pub limit : epoch t ≤ 1000000000
  pub partnered : (phase t == 2) ≡ true → has_partner n t (epoch t) ≡ true
  pub level : 0 < t → turns (t - 1) (epoch (t - 1)) ≡ turns (t - 1) (epoch t)
  pub lone : 0 < t → (phase (t - 1) == 2) ≡ true → (phase t == 2) ≡ true → epoch (t - 1) ≡ epoch t → has_turn (t - 1) (epoch t) ≡ false

right-place : (n : ℕ) (epoch phase : ℕ → ℕ) (t : ℕ) → is_wrong_place n epoch phase t ≡ false → RightPlace n epoch phase t
unfolding is_wrong_place
right-place n epoch phase t e =
    let a = or_parts (not ((phase t == 0) || (phase t == 2))) _ e in
    let b = or_parts (nat_lt 1000000000 (epoch t)) _ a.1 in
    let c = or_parts ((phase t == 2) && not (has_partner n t (epoch t))) _ b.1 in
    let pair : 0 < t → (not (turns (t - 1) (epoch (t - 1)) == turns (t - 1) (epoch t)) || ((phase (t - 1) == 2) && ((phase t == 2) && ((epoch (t - 1) == epoch t) && has_turn (t - 1) (epoch t))))) ≡ false =
    λ h. and-none (nat_lt 0 t) _ c.1 (lt-ltb 0 t h) in
    record {
      phases = either-phase (phase t) (not-false _ a.0);
      limit = ltb-false _ _ b.0;
      partnered = λ w. not-false _ (and-none (phase t == 2) _ c.0 w);
      level = λ h. eqb-true _ _ (not-false _ (or_parts _ _ (pair h)).0);
      lone = λ h x y same_epoch.
          let d = (or_parts (not (turns (t - 1) (epoch (t - 1)) == turns (t - 1) (epoch t))) _ (pair h)).1 in
          let f = and-none (phase (t - 1) == 2) _ d x in
          let g = and-none (phase t == 2) _ f y in
          and-none (epoch (t - 1) == epoch t) _ g (eq-eqb _ _ same_epoch);
    }

place-right : (n : ℕ) (epoch phase : ℕ → ℕ) (t : ℕ) → RightPlace n epoch phase t → is_wrong_place n epoch phase t ≡ false
unfolding is_wrong_place
place-right n epoch phase t right =
    or_from _ _ (not_from_true _ (phase-either (phase t) right.phases))
    (or_from _ _ (le-ltb _ _ right.limit)
    (or_from _ _ (and-first _ _ (λ w. not_from_true _ (right.partnered w)))
    (and-first _ _ (λ some.
    let h : 0 < t = grind (arith, nat_tests, some) in
    or_from _ _ (not_from_true _ (eq-eqb _ _ (right.level h)))
    (and-first _ _ (λ x. and-first _ _ (λ y. and-first _ _ (λ s. right.lone h x y (eqb-true _ _ s)))))))))

-- ---- all positions

none-wrong : (b : Bool) (x : CheckpointRefused) → b ≡ false → None ≡ cond b (Some x) None
none-wrong true x e = absurd cc
none-wrong false x e = refl

one-right : (n : ℕ) (bytes : List ℕ) → None ≡ wrong_place n bytes → (t : ℕ) → t < n → RightPlace n (epoch_in bytes) (phase_in bytes) t
unfolding wrong_place wrong_place_at
one-right n bytes none t within = right-place n (epoch_in bytes) (phase_in bytes) t (held _ _ (first-all (wrong_place_at n (epoch_in bytes) (phase_in bytes)) 0 n none t (omega arith) (omega arith)))

pub places-none : (n : ℕ) (bytes : List ℕ) → ((t : ℕ) → t < n → RightPlace n (epoch_in bytes) (phase_in bytes) t) → None ≡ wrong_place n bytes
unfolding wrong_place wrong_place_at
places-none n bytes right = all-none (wrong_place_at n (epoch_in bytes) (phase_in bytes)) 0 n (λ t ge lt. none-wrong _ _ (place-right n (epoch_in bytes) (phase_in bytes) t (right t (omega arith))))

waits-at : (n t : ℕ) (bytes : List ℕ) → t < n → (position_in (map position_of (places_in n bytes)) t).waits ≡ (phase_in bytes t == 2)
waits-at n t bytes within = ap (λ (p : Position). p.waits) (position-at n t bytes within)

epoch-at : (n t : ℕ) (bytes : List ℕ) → t < n → (position_in (map position_of (places_in n bytes)) t).epoch ≡ epoch_in bytes t
epoch-at n t bytes within = ap (λ (p : Position). p.epoch) (position-at n t bytes within)

back-one : (k : ℕ) → k + 1 - 1 ≡ k
back-one k = omega arith

pub right-places : (n : ℕ) (bytes : List ℕ) → None ≡ wrong_place n bytes → HasRightPlaces n bytes
right-places n bytes none =
    let right = one-right n bytes none in
    let E = epoch_in bytes in
    let P = phase_in bytes in
    record {
      epochs = λ t h. (right t h).limit;
      phases = λ t h. (right t h).phases;
      in_step = record {
        partnered = λ t h w.
            let z = (right t h).partnered (sym (waits-at n t bytes h) ∙ w) in
            ap (has_partner n t) (epoch-at n t bytes h) ∙ z;
        turns = λ k h.
            let z = (right (k + 1) h).level (omega arith) in
            let y : turns k (E k) ≡ turns k (E (k + 1)) = subst (λ j. turns j (E j) ≡ turns j (E (k + 1))) (back-one k) z in
            turns-say k _ _ (ap (turns k) (epoch-at n k bytes (omega arith)) ∙ y ∙ sym (ap (turns k) (epoch-at n (k + 1) bytes h)));
        lone = λ k h w v level.
            let small : k < n = omega arith in
            let here : E k ≡ E (k + 1) = sym (epoch-at n k bytes small) ∙ level ∙ epoch-at n (k + 1) bytes h in
            let first : (P k == 2) ≡ true = sym (waits-at n k bytes small) ∙ w in
            let second : (P (k + 1) == 2) ≡ true = sym (waits-at n (k + 1) bytes h) ∙ v in
            let z : has_turn k (E (k + 1)) ≡ false = subst (λ j. (P j == 2) ≡ true → (P (k + 1) == 2) ≡ true → E j ≡ E (k + 1) → has_turn j (E (k + 1)) ≡ false) (back-one k) ((right (k + 1) h).lone (omega arith)) first second here in
            ap (has_turn k) (epoch-at n k bytes small ∙ here) ∙ z;
      };
    }

turns-agree : (k a c : ℕ) → HasSameTurns k a c → turns k a ≡ turns k c
turns-agree k a c same_turns = turns-from k a c (λ f turn below. (same_turns f turn).0 below) (λ f turn below. (same_turns f turn).1 below)

pub step-right : (n : ℕ) (bytes : List ℕ) → AreInStep n (map position_of (places_in n bytes)) → ((t : ℕ) → t < n → epoch_in bytes t ≤ 1000000000) → ((t : ℕ) → t < n → (phase_in bytes t ≡ 0) ⊎ (phase_in bytes t ≡ 2))
    → (t : ℕ) → t < n → RightPlace n (epoch_in bytes) (phase_in bytes) t
step-right n bytes step limits phases t h =
    let E = epoch_in bytes in
    let P = phase_in bytes in
    record {
      phases = phases t h;
      limit = limits t h;
      partnered = λ w. ap (has_partner n t) (sym (epoch-at n t bytes h)) ∙ step.partnered t h (waits-at n t bytes h ∙ w);
      level = λ some.
          let k = t - 1 in
          let next : k + 1 ≡ t = omega arith in
          let small : k < n = omega arith in
          let z = turns-agree k _ _ (step.turns k (omega arith)) in
          let y : turns k (E k) ≡ turns k (E (k + 1)) = ap (turns k) (sym (epoch-at n k bytes small)) ∙ z ∙ ap (turns k) (epoch-at n (k + 1) bytes (omega arith)) in
          y ∙ ap (λ j. turns k (E j)) next;
      lone = λ some x y same_epoch.
          let k = t - 1 in
          let next : k + 1 ≡ t = omega arith in
          let small : k < n = omega arith in
          let large : k + 1 < n = omega arith in
          let second : (P (k + 1) == 2) ≡ true = ap (λ j. P j == 2) next ∙ y in
          let here : E k ≡ E (k + 1) = same_epoch ∙ ap E (sym next) in
          let z = step.lone k large (waits-at n k bytes small ∙ x) (waits-at n (k + 1) bytes large ∙ second) (epoch-at n k bytes small ∙ here ∙ sym (epoch-at n (k + 1) bytes large)) in
          ap (has_turn k) (sym same_epoch ∙ sym (epoch-at n k bytes small)) ∙ z;
    }

-- ---- the table of epochs, samples and slots

module _ (n : ℕ) (bytes : List ℕ) where
  abbrev ps : List Position
  ps = map position_of (places_in n bytes)

  pub done-few : HasRightPlaces n bytes → (t : ℕ) → t < n → done (position_in ps t) ≤ 1000000001
  done-few right t h =
      let e : done (position_in ps t) ≡ epoch_in bytes t + cond (phase_in bytes t == 2) 1 0 = ap done (position-at n t bytes h) in
      let z = right.epochs t h in
      elim (cases_Bool (phase_in bytes t == 2)) [
        | inl waits ↦ let y : done (position_in ps t) ≡ epoch_in bytes t + 1 = e ∙ ap (λ b. epoch_in bytes t + cond b 1 0) waits in omega arith
        | inr rests ↦ let y : done (position_in ps t) ≡ epoch_in bytes t + 0 = e ∙ ap (λ b. epoch_in bytes t + cond b 1 0) rests in omega arith
      ]

  pub shallow : HasRightPlaces n bytes → 1 ≤ n → (floor_of ps ≤ deepest_of ps) × (floor_of ps ≤ 1000000001) × (deepest_of ps ≤ floor_of ps + n)
  shallow right some =
      let sized = positions-count n bytes in
      let low = least-at (λ t. done (position_in ps t)) (length ps) 0 (omega arith) in
      let high = greatest-at (λ t. done (position_in ps t)) (length ps) 0 (omega arith) in
      let few = done-few right 0 (omega arith) in
      (omega arith, omega arith, steps-short n ps sized right.in_step)

  pub few-cells : HasRightPlaces n bytes → 1 ≤ n → n ≤ 32 → (samples : ℕ) → samples ≤ 64 → ((deepest_of ps - floor_of ps) * samples ≤ 2048) × ((deepest_of ps - floor_of ps) * samples * n ≤ 65536)
  few-cells right some few samples few_samples =
      let three = shallow right some in
      let d = deepest_of ps - floor_of ps in
      let deep : d ≤ 32 = omega (arith, three.2) in
      let one : d * samples ≤ 32 * samples = mul-le-mul_right samples deep in
      let two : d * samples * n ≤ 2048 * n = mul-le-mul_right n (omega arith) in
      (omega arith, omega arith)

  pub all-cells : (samples every floor deepest cell count : ℕ) → floor ≡ floor_of ps → deepest ≡ deepest_of ps → cell ≡ (deepest - floor) * samples * n
      → count ≡ count_below (is_pending (λ t. done (position_in ps t)) floor samples every n) cell → count ≡ pending_count samples every ps
  all-cells samples every floor deepest cell count low high all counted =
      let past : ℕ → ℕ = λ t. done (position_in ps t) in
      let sized = positions-count n bytes in
      let whole : cell ≡ (deepest_of ps - floor_of ps) * samples * length ps =
      all ∙ ap (λ d. (d - floor) * samples * n) high ∙ ap (λ f. (deepest_of ps - f) * samples * n) low ∙ ap (λ m. (deepest_of ps - floor_of ps) * samples * m) (sym sized) in
      counted
      ∙ ap (λ f. count_below (is_pending past f samples every n) cell) low
      ∙ ap (λ m. count_below (is_pending past (floor_of ps) samples every m) cell) (sym sized)
      ∙ ap (count_below (is_pending past (floor_of ps) samples every (length ps))) whole
