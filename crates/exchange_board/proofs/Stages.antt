-- The places of a board with no slot in work are those of the state that it leaves.
use Rattle.std.proofs.Common.{arith, ◌≡◌, ℕ, zero, suc, ◌<◌, Bool, true, false, cond, List, length, map, refl, ap, ap₂, ◌∙◌, subst}
use Rattle.std.specs.Prelude.{◌==◌}
use Rattle.std.proofs.lemmas.List.{ext_get_or, length-map, get_or-map}
use Rattle.plane_sweep.specs.Uneven.{place_at}
use Rattle.plane_sweep.specs.declared.uneven.Place.{Place}
use Rattle.exchange_board.specs.Answers.{start_place}
use Rattle.exchange_board.specs.Machine.{phases, IsPhased, NoneOut}
use Rattle.exchange_board.specs.Stops.{AreStops}
use Rattle.exchange_board.specs.Views.{Stage, ready_at}

phase-by : (p : ℕ) → p < 3 → (p ≡ 1 → ⊥) → cond (p == 2) 2 0 ≡ p
phase-by zero small out = refl
phase-by (suc zero) small out = absurd (out refl)
phase-by (suc (suc zero)) small out = refl
phase-by (suc (suc (suc p))) small out = omega arith

start-is : (p : Place) → (let s : Stage = record { epoch = p.epoch; phase = cond p.arrived 2 0 } in start_place p ≡ s)
start-is p = start-by p.epoch p.arrived
  where
    start-by : (e : ℕ) (a : Bool) → (let q : Place = record { epoch = e; arrived = a } in let s : Stage = record { epoch = e; phase = cond a 2 0 } in start_place q ≡ s)
    start-by e true = refl
    start-by e false = refl

pub stages-are : (stages : List Stage) (places : List Place) → AreStops stages places → NoneOut stages → IsPhased stages → map start_place places ≡ stages
stages-are stages places stops none phased =
    ext_get_or (ready_at 0) (map start_place places) stages (length-map places start_place ∙ stops.sized) (λ t h.
    let known : t < length places = subst (λ n. t < n) (length-map places start_place) h in
    let here : t < length stages = subst (λ n. t < n) stops.sized known in
    let p : Place = place_at places t in
    let make : ℕ → ℕ → Stage = λ e q. record { epoch = e; phase = q } in
    let phase : cond p.arrived 2 0 ≡ phases stages t = ap (λ (a : Bool). cond a 2 0) (stops.arrived t here) ∙ phase-by (phases stages t) (phased t here) (none t here) in
    get_or-map start_place places t _ (ready_at 0) known ∙ (start-is p ∙ ap₂ make (stops.epoch t here) phase))
