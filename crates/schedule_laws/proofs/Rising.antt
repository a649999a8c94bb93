-- Each event raises the progress and keeps the rule.
use Rattle.std.proofs.Common.{arith, ◌≡◌, inl, inr, ◌⊎◌, ℕ, zero, suc, ◌+◌, ◌*◌, ◌<◌, ◌≤◌, ◌≢◌, Bool, true, false, List, length, set, refl, sym, ap, ◌∙◌, subst}
use Rattle.std.specs.Prelude.{◌==◌, ◌&&◌}
use Rattle.std.proofs.lemmas.Bool.{cases_lt, false≢true}
use Rattle.std.proofs.lemmas.Bool.Decides.{eqb_tells}
use Rattle.std.proofs.lemmas.List.{length-set}
use Rattle.scalar_rule.specs.Epoch.{has_partner, partner}
use Rattle.scalar_rule.specs.Positions.{sum_below}
use Rattle.scalar_rule.proofs.Extremes.{sum-most}
use Rattle.scalar_rule.proofs.SlotPartners.{back}
use Rattle.exchange_board.specs.Machine.{epochs, phases, numbers, after, met}
use Rattle.exchange_board.specs.Views.{Stage, ready_at, out_at, arrived_at}
use Rattle.exchange_board.proofs.Arriving.{unmet-not}
use Rattle.exchange_board.proofs.Keeping.{one-set, two-set}
use Rattle.exchange_board.proofs.Machines.{OneMoved, taken-rule, alone-rule, wait-rule, settled-rule}
use Rattle.schedule_laws.specs.Events.{progress_of, KeepRule, IsHandOut, IsEvent, Lead, AreFew}

tells : (b : Bool) → (b ≡ true) ⊎ (b ≡ false)
tells true = inl refl
tells false = inr refl

-- ---- sums that rise

sum-rises : (f g : ℕ → ℕ) (n : ℕ) → ((j : ℕ) → j < n → f j ≤ g j) → sum_below f n ≤ sum_below g n
unfolding sum_below
sum-rises f g zero each = omega arith
sum-rises f g (suc n) each =
    let before = sum-rises f g n (λ j below. each j (omega arith)) in
    let last = each n (omega arith) in
    omega arith

sum-rises-at : (f g : ℕ → ℕ) (n t : ℕ) → t < n → f t < g t → ((j : ℕ) → j < n → f j ≤ g j) → sum_below f n + 1 ≤ sum_below g n
unfolding sum_below
sum-rises-at f g zero t h more each = absurd (omega arith)
sum-rises-at f g (suc n) t h more each = elim (eqb_tells n t) [
  | inl a ↦
      let same : n ≡ t = a.1 in
      let before = sum-rises f g n (λ j below. each j (omega arith)) in
      let last : f n < g n = subst (λ k. f k < g k) (sym same) more in
      omega arith
  | inr a ↦
      let other : n ≢ t = a.1 in
      let before = sum-rises-at f g n t (omega arith) more (λ j below. each j (omega arith)) in
      let last = each n (omega arith) in
      omega arith
]

-- what an event leaves
record Risen (until : ℕ) (since : ℕ → ℕ) (before later : List Stage) : Type 0 where
  rule : KeepRule until since later
  sized : length later ≡ length before
  risen : progress_of before + 1 ≤ progress_of later

-- one slot moves on
moved-on : (before later : List Stage) (t e p : ℕ) → OneMoved t e p (epochs before) (phases before) (epochs later) (phases later)
    → t < length before → length later ≡ length before → numbers before t < 4 * e + p → progress_of before + 1 ≤ progress_of later
moved-on before later t e p moved known sized more =
    let at_t : numbers before t < numbers later t = elim (moved t) [
      | inl a ↦ let x = a.1 in let y = a.2 in omega arith
      | inr a ↦ absurd (a.0 refl)
    ] in
    let each : (j : ℕ) → j < length before → numbers before j ≤ numbers later j = λ j below. elim (moved j) [
      | inl a ↦ let here : numbers before j ≡ numbers before t = ap (numbers before) a.0 in let x = a.1 in let y = a.2 in omega arith
      | inr a ↦ let x = a.1 in let y = a.2 in omega arith
    ] in
    let risen = sum-rises-at (numbers before) (numbers later) (length before) t known at_t each in
    subst (λ n. progress_of before + 1 ≤ sum_below (numbers later) n) (sym sized) risen

out-risen : (until : ℕ) (since : ℕ → ℕ) (before later : List Stage) → KeepRule until since before → IsHandOut until before later → Risen until since before later
out-risen until since before later rule out =
    let t = out.slot in
    let e = epochs before t in
    let place = out_at e in
    let moved = one-set before t place out.known in
    let sized = length-set before t place in
    let made : Risen until since before (set before t place) = record {
      rule = rw sized (taken-rule (length before) until since (epochs before) (phases before) (epochs (set before t place)) (phases (set before t place)) t rule moved out.known out.rests.0 out.rests.1);
      sized = sized;
      risen = let rest = out.rests.0 in moved-on before (set before t place) t e 1 moved out.known sized (omega arith);
    } in
    subst (λ (l : List Stage). Risen until since before l) (sym out.places) made

alone-risen : (until : ℕ) (since : ℕ → ℕ) (before : List Stage) (t : ℕ) → KeepRule until since before → t < length before → phases before t ≡ 1
    → has_partner (length before) t (epochs before t) ≡ false → Risen until since before (set before t (ready_at (epochs before t + 1)))
alone-risen until since before t rule known out alone =
    let place = ready_at (epochs before t + 1) in
    let moved = one-set before t place known in
    let sized = length-set before t place in
    record {
      rule = rw sized (alone-rule (length before) until since (epochs before) (phases before) (epochs (set before t place)) (phases (set before t place)) t rule moved known out alone);
      sized = sized;
      risen = moved-on before (set before t place) t (epochs before t + 1) 0 moved known sized (omega arith);
    }

waits-risen : (until : ℕ) (since : ℕ → ℕ) (before : List Stage) (t : ℕ) → KeepRule until since before → t < length before → phases before t ≡ 1
    → has_partner (length before) t (epochs before t) ≡ true → met before t (epochs before t) ≡ false
    → Risen until since before (set before t (arrived_at (epochs before t)))
waits-risen until since before t rule known out has unmet =
    let place = arrived_at (epochs before t) in
    let moved = one-set before t place known in
    let sized = length-set before t place in
    record {
      rule = rw sized (wait-rule (length before) until since (epochs before) (phases before) (epochs (set before t place)) (phases (set before t place)) t rule moved known out has
          (unmet-not before t (epochs before t) unmet));
      sized = sized;
      risen = moved-on before (set before t place) t (epochs before t) 2 moved known sized (omega arith);
    }

-- a partner that waits at e
waiting : (before : List Stage) (u e : ℕ) → ((phases before u == 2) && (epochs before u == e)) ≡ true → (phases before u ≡ 2) × (epochs before u ≡ e)
waiting before u e is = elim (eqb_tells (phases before u) 2) [
  | inl a ↦ elim (eqb_tells (epochs before u) e) [
    | inl b ↦ (a.1, b.1)
    | inr b ↦ let p = a.0 in let q = b.0 in absurd (false≢true (rw (p, q) at is))
  ]
  | inr a ↦ let p = a.0 in absurd (false≢true (rw p at is))
]

meets-risen : (until : ℕ) (since : ℕ → ℕ) (before : List Stage) (t : ℕ) → KeepRule until since before → t < length before → phases before t ≡ 1
    → has_partner (length before) t (epochs before t) ≡ true → met before t (epochs before t) ≡ true
    → Risen until since before (set (set before (partner t (epochs before t)) (ready_at (epochs before t + 1))) t (ready_at (epochs before t + 1)))
meets-risen until since before t rule known out has is_met =
    let e = epochs before t in
    let u = partner t e in
    let there = back (length before) t e known has in
    let waits = waiting before u e is_met in
    let later = set (set before u (ready_at (e + 1))) t (ready_at (e + 1)) in
    let moved = two-set before t u (e + 1) known there.known in
    let sized : length later ≡ length before = length-set (set before u (ready_at (e + 1))) t (ready_at (e + 1)) ∙ length-set before u (ready_at (e + 1)) in
    let each : (j : ℕ) → j < length before → numbers before j ≤ numbers later j = λ j below. elim (moved j) [
      | inl a ↦
          let x = a.1 in
          let y = a.2 in
          elim (a.0) [
            | inl b ↦ let here : numbers before j ≡ numbers before t = ap (numbers before) b in omega arith
            | inr b ↦ let here : numbers before j ≡ numbers before u = ap (numbers before) b in let p = waits.0 in let q = waits.1 in omega arith
          ]
      | inr a ↦ let x = a.2 in let y = a.3 in omega arith
    ] in
    let at_t : numbers before t < numbers later t = elim (moved t) [
      | inl a ↦ let x = a.1 in let y = a.2 in omega arith
      | inr a ↦ absurd (a.0 refl)
    ] in
    let risen = sum-rises-at (numbers before) (numbers later) (length before) t known at_t each in
    record {
      rule = rw sized (settled-rule (length before) until since (epochs before) (phases before) (epochs later) (phases later) t u rule moved known out has refl waits.0 waits.1);
      sized = sized;
      risen = subst (λ n. progress_of before + 1 ≤ sum_below (numbers later) n) (sym sized) risen;
    }

back-risen : (until : ℕ) (since : ℕ → ℕ) (before : List Stage) (t : ℕ) → KeepRule until since before → t < length before → phases before t ≡ 1
    → Risen until since before (after before t (epochs before t))
back-risen until since before t rule known out = elim (tells (has_partner (length before) t (epochs before t))) [
  | inl has ↦ elim (tells (met before t (epochs before t))) [
    | inl is_met ↦ rw (has, is_met) (meets-risen until since before t rule known out has is_met)
    | inr unmet ↦ rw (has, unmet) (waits-risen until since before t rule known out has unmet)
  ]
  | inr alone ↦ rw alone (alone-risen until since before t rule known out alone)
]

event-risen : (until : ℕ) (since : ℕ → ℕ) (before later : List Stage) → KeepRule until since before → IsEvent until before later → Risen until since before later
event-risen until since before later rule (inl out) = out-risen until since before later rule out
event-risen until since before later rule (inr home) =
    subst (λ (l : List Stage). Risen until since before l) (sym home.places) (back-risen until since before home.slot rule home.known home.out)

-- ---- many events

-- a slot at epoch e at most until has at most the number 4 until
bounded : (until : ℕ) (since : ℕ → ℕ) (ps : List Stage) → KeepRule until since ps → progress_of ps ≤ length ps * (4 * until)
bounded until since ps rule = sum-most (numbers ps) (length ps) (4 * until) (λ t known.
    let below = rule.below t known in
    let phased = rule.phased t known in
    elim (cases_lt 0 (phases ps t)) [
      | inl more ↦ let working = rule.working t known more in omega arith
      | inr none ↦ omega arith
    ])

pub events-few : (until : ℕ) (since : ℕ → ℕ) (n : ℕ) (first last : List Stage) → KeepRule until since first → Lead until n first last → AreFew until since n first last
unfolding Lead
events-few until since zero first last rule is =
    let here : AreFew until since zero first first = record {
      rule = rule;
      sized = refl;
      risen = omega arith;
      bounded = bounded until since first rule;
    } in
    subst (λ (l : List Stage). AreFew until since zero first l) (sym is) here
events-few until since (suc n) first last rule leads =
    let before = events-few until since n first leads.0 rule leads.1.0 in
    let one = event-risen until since leads.0 last before.rule leads.1.1 in
    let sized : length last ≡ length first = one.sized ∙ before.sized in
    record {
      rule = one.rule;
      sized = sized;
      risen = let x = before.risen in let y = one.risen in omega arith;
      bounded = subst (λ k. progress_of last ≤ k * (4 * until)) sized (bounded until since last one.rule);
    }
