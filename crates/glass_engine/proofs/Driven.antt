-- The end of a run.
use Rattle.std.proofs.Common.{◌≡◌, ◌⊎◌, inl, inr, ℕ, ◌+◌, List, refl, sym, ap, ◌∙◌, subst}
use Rattle.exchange_board.specs.declared.origin.Origin.{Origin}
use Rattle.exchange_board.specs.Answers.{stages_of, IsSpent}
use Rattle.exchange_board.specs.Content.{plan_of, taken_before, IsLawfulOrigin}
use Rattle.exchange_board.specs.Machine.{taken, AllEnded}
use Rattle.exchange_board.specs.Stops.{IsStop}
use Rattle.exchange_board.specs.Views.{Stage, BoardView, RaggedEndedView}
use Rattle.glass_engine.proofs.Counts.{made}
use Rattle.glass_engine.specs.KeptBank.{bank_view, KeepsBank, bank_done_view, KeepsBankDone}
use Rattle.glass_engine.specs.Runs.{RunView, IsOriginOf, IsEnd}
use Rattle.glass_engine.specs.declared.run.BankRun.TheInside as run
use Rattle.glass_engine.specs.declared.done.BankDone.TheInside as done

-- a board that stopped with no more to do
pub record HasEnded (b : BoardView) (d : RaggedEndedView) : Type 0 where
  pub finished : AllEnded b.origin.window.until b.places ⊎ IsSpent b
  pub places : stages_of d.stand ≡ b.places
  pub stop : IsStop b.origin d

pub end-of : (run : RunView) (b : BoardView) (d : RaggedEndedView) → IsOriginOf run d.origin → IsLawfulOrigin d.origin → HasEnded b d → IsEnd run d
end-of run b d origin lawful h =
    let same : d.origin ≡ b.origin = h.stop.same in
    let S : Origin → Type 0 = λ o. IsStop o d in
    let until : run.until ≡ b.origin.window.until = sym origin.until_is ∙ ap (λ (o : Origin). o.window.until) same in
    let takes : taken_before d.origin + run.takes ≡ taken_before b.origin + b.origin.window.takes = ap (λ n. taken_before d.origin + n) (sym origin.takes_is) ∙ ap (λ (o : Origin). taken_before o + o.window.takes) same in
    let stop = subst S (sym same) h.stop in
    let finished : AllEnded run.until (stages_of d.stand) ⊎ (taken (stages_of d.stand) ≡ taken_before d.origin + run.takes) = elim h.finished [
      | inl all ↦
          let A : List Stage → Type 0 = λ ps. AllEnded run.until ps in
          let U : ℕ → Type 0 = λ n. AllEnded n b.places in
          inl (subst A (sym h.places) (subst U (sym until) all))
      | inr is ↦ inr (ap taken h.places ∙ (is ∙ sym takes))
    ] in
    record {
      origin = origin;
      stop = stop;
      lawful = lawful;
      finished = finished;
      made = made d.origin d run.until run.takes lawful stop origin.until_is origin.takes_is finished;
    }

pub run-ends : (r : run.Inside) (b : BoardView) (d : RaggedEndedView) → KeepsBank r → b.origin ≡ r.opened.value.origin → HasEnded b d → IsEnd (bank_view r) d
run-ends r b d keeps same h =
    let P : Origin → Type 0 = λ o. IsOriginOf (bank_view r) o in
    let L : Origin → Type 0 = λ o. IsLawfulOrigin o in
    end-of (bank_view r) b d (subst P (sym (h.stop.same ∙ same)) keeps.origin) (subst L (sym (h.stop.same ∙ same)) keeps.lawful) h

pub done-keeps : (r : run.Inside) (b : BoardView) (d : RaggedEndedView) → KeepsBank r → b.origin ≡ r.opened.value.origin → HasEnded b d
    → KeepsBankDone (record { ended = d; orders = r.orders; saves = r.saves })
done-keeps r b d keeps same h =
    let there : d.origin ≡ r.opened.value.origin = h.stop.same ∙ same in
    let x : done.Inside = record { ended = d; orders = r.orders; saves = r.saves } in
    let every = ap (λ (o : Origin). o.window.every) there ∙ keeps.origin.every_is in
    let samples = ap (λ (o : Origin). o.window.samples) there ∙ keeps.origin.samples_is in
    let L : Origin → Type 0 = λ o. IsLawfulOrigin o in
    record {
      orders = keeps.orders;
      ended = end-of (bank_done_view x).run b d (record { plan_is = refl; base_is = refl; until_is = refl; every_is = every; samples_is = samples; takes_is = refl }) (subst L (sym there) keeps.lawful) h;
    }

-- what contracts see of a run stays
pub run-stays : (r : run.Inside) (d : RaggedEndedView) → d.origin ≡ r.opened.value.origin
    → (let x : done.Inside = record { ended = d; orders = r.orders; saves = r.saves } in (bank_done_view x).run ≡ bank_view r)
run-stays r d same =
    let view : Origin → RunView = λ o. record { plan = plan_of o; base = o.base; orders = r.orders; until = o.window.until; takes = o.window.takes; saves = r.saves } in
    ap view same
