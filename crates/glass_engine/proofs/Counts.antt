-- How many hand-outs of a slot a run has made at its end: as many as may be, or as are left to its last epoch.
use Rattle.std.proofs.Common.{arith, ◌≡◌, ◌⊎◌, inl, inr, ℕ, zero, suc, ◌+◌, ◌-◌, ◌*◌, ◌<◌, ◌≤◌, length, sym, ap, ◌∙◌, subst}
use Rattle.std.specs.Prelude.{min}
use Rattle.std.proofs.Math.Nat.{min-eq_left, min-eq_right}
use native.Mathlib.Nat.{suc-mul}
use Rattle.std.proofs.lemmas.List.{length-map}
use Rattle.scalar_rule.specs.Positions.{sum_below, position_in, done}
use Rattle.scalar_rule.proofs.Extremes.{sum-most}
use Rattle.plane_sweep.specs.Uneven.{positions_of}
use Rattle.exchange_board.specs.Answers.{start_place, stages_of}
use Rattle.exchange_board.specs.Content.{plan_of, slots_in, positions_in, taken_before, IsLawfulOrigin}
use Rattle.exchange_board.specs.Machine.{taken, AllEnded}
use Rattle.exchange_board.specs.Stops.{IsStop}
use Rattle.exchange_board.specs.Views.{RaggedEndedView}
use Rattle.exchange_board.specs.declared.origin.Origin.{Origin}
use Rattle.exchange_board.proofs.Origins.{done-reach}
use Rattle.exchange_board.proofs.Starting.{taken-begun}
use Rattle.glass_engine.specs.Runs.{hand_outs}
use Rattle.glass_engine.proofs.WholeRuns.{later, later-lawful, rest-at}

sum-constant : (f : ℕ → ℕ) (c n : ℕ) → ((t : ℕ) → t < n → f t ≡ c) → sum_below f n ≡ n * c
unfolding sum_below
sum-constant f c zero each = omega arith
sum-constant f c (suc n) each =
    let before = sum-constant f c n (λ t h. each t (omega arith)) in
    let last = each n (omega arith) in
    let more : suc n * c ≡ n * c + c = suc-mul n c in
    omega arith

-- no more hand-outs than all epochs of all slots
few-hand-outs : (o : Origin) → IsLawfulOrigin o → taken_before o ≤ slots_in o * o.window.until
few-hand-outs o l = sum-most (λ t. done (position_in (positions_in o) t)) (slots_in o) o.window.until (λ t h. done-reach o t l h)

all-hand-outs : (o : Origin) (d : RaggedEndedView) → IsStop o d → AllEnded o.window.until (stages_of d.stand) → hand_outs (plan_of o) (positions_of d.stand) ≡ slots_in o * o.window.until
all-hand-outs o d s ended =
    let ps = positions_of d.stand in
    sum-constant (λ t. done (position_in ps t)) o.window.until (slots_in o) (λ t h.
    let rest = rest-at d.stand.places t o.window.until (omega (arith, s.fits.places)) (ended t (subst (λ k. t < k) (sym (length-map d.stand.places start_place ∙ s.fits.places)) h)) in
    let at : done (position_in ps t) ≡ o.window.until + 0 = ap done rest in
    omega arith)

made-all : (before most takes made : ℕ) → before ≤ most → made ≤ before + takes → made ≡ most → made ≡ before + min takes (most - before)
made-all before most takes made least within all =
    let m : min takes (most - before) ≡ most - before = min-eq_right (omega arith) in
    omega arith

made-asked : (before most takes made : ℕ) → made ≤ most → made ≡ before + takes → made ≡ before + min takes (most - before)
made-asked before most takes made within asked =
    let m : min takes (most - before) ≡ takes = min-eq_left (omega arith) in
    omega arith

-- the hand-outs that were made: as many as may be, or as were left
pub made : (o : Origin) (d : RaggedEndedView) (until takes : ℕ) → IsLawfulOrigin o → IsStop o d → o.window.until ≡ until → o.window.takes ≡ takes
    → AllEnded until (stages_of d.stand) ⊎ (taken (stages_of d.stand) ≡ taken_before o + takes)
    → hand_outs (plan_of o) (positions_of d.stand) ≡ taken_before o + min takes (slots_in o * until - taken_before o)
made o d until takes l s until_is takes_is finished =
    let x = later o d.stand in
    let lx = later-lawful o d l s in
    let count = hand_outs (plan_of o) (positions_of d.stand) in
    let within : count ≤ taken_before o + takes = let z = s.taken in omega (arith, z, takes_is) in
    let most : count ≤ slots_in o * until = subst (λ k. count ≤ slots_in o * k) until_is (few-hand-outs x lx) in
    let least : taken_before o ≤ slots_in o * until = subst (λ k. taken_before o ≤ slots_in o * k) until_is (few-hand-outs o l) in
    elim finished [
      | inl all ↦
          let U : ℕ → Type 0 = λ k. AllEnded k (stages_of d.stand) in
          let whole : count ≡ slots_in o * until = all-hand-outs o d s (subst U (sym until_is) all) ∙ ap (λ k. slots_in o * k) until_is in
          made-all (taken_before o) (slots_in o * until) takes count least within whole
      | inr spent ↦
          let at : taken (stages_of d.stand) ≡ count = taken-begun x lx in
          made-asked (taken_before o) (slots_in o * until) takes count most (sym at ∙ spent)
    ]
