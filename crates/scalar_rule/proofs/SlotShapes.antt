-- Slots that fit a plan still fit after one is written, and after the sweeps and the exchange of an epoch.
use Rattle.std.proofs.Common.{inl, inr, ◌≡◌, ℕ, ◌<◌, Bool, true, false, List, length, get_or, set, sym, ◌∙◌, subst, arith}
use Rattle.std.proofs.lemmas.Bool.{cases_eq}
use Rattle.std.proofs.lemmas.Grind.{get_or-set_at}
use Rattle.std.proofs.lemmas.List.{get_or-set_other, get_or_default, length-set}
use Rattle.scalar_rule.specs.Plan.{Plan, slots_of}
use Rattle.scalar_rule.specs.Epoch.{slot_at}
use Rattle.scalar_rule.specs.Exchange.{traded, cold_side, hot_side}
use Rattle.scalar_rule.specs.Shape.{FitsCopy, FitsSlot, FitSlots}
use Rattle.scalar_rule.specs.declared.plain_copy.PlainCopy.{PlainCopy}
use Rattle.scalar_rule.specs.declared.sample.PlainSlot.{PlainSlot}
use Rattle.scalar_rule.specs.declared.sample.PlainPair.{PlainPair}

-- a slot that is read from a list that fits
pub fits-read : (plan : Plan) (slots : List PlainSlot) (t : ℕ) (read : PlainSlot) → FitSlots plan slots → t < slots_of plan → read ≡ get_or slots t read → FitsSlot plan.size read
fits-read plan slots t read fits below is =
    let count = fits.count in
    let P : PlainSlot → Type 0 = λ s. FitsSlot plan.size s in
    subst P (sym (is ∙ get_or_default slots t read (slot_at slots (length slots)) (omega arith) ∙ get_or_default slots t _ _ (omega arith))) (fits.each t below)

pub fit-set : (plan : Plan) (slots : List PlainSlot) (t : ℕ) (v : PlainSlot) → FitSlots plan slots → FitsSlot plan.size v → FitSlots plan (set slots t v)
fit-set plan slots t v fits fit =
    let count = fits.count in
    let P : PlainSlot → Type 0 = λ s. FitsSlot plan.size s in
    record {
      count = length-set slots t v ∙ count;
      each = λ k below. elim (cases_eq k t) [
        | inl here ↦ subst P (sym (get_or-set_at slots t k v _ here (omega arith))) fit
        | inr other ↦ subst P (sym (get_or-set_other slots t k v _ other)) (fits.each k below)
      ];
    }

fits-traded : (l : ℕ) (swap : Bool) (own other : PlainCopy) → FitsCopy l own → FitsCopy l other → FitsCopy l (traded swap own other)
fits-traded l true own other fit with_other = record { spins = with_other.spins; wheels = fit.wheels }
fits-traded l false own other fit with_other = fit

pub fits-cold_side : (plan : Plan) (b k : ℕ) (pair : PlainPair) (cold hot : PlainSlot) → FitsSlot plan.size cold → FitsSlot plan.size hot → FitsSlot plan.size (cold_side plan b k pair cold hot)
unfolding cold_side
fits-cold_side plan b k pair cold hot fit other = record {
  first = fits-traded plan.size _ cold.first hot.first fit.first other.first;
  second = fits-traded plan.size _ cold.second hot.second fit.second other.second;
}

pub fits-hot_side : (plan : Plan) (b k : ℕ) (pair : PlainPair) (cold hot : PlainSlot) → FitsSlot plan.size cold → FitsSlot plan.size hot → FitsSlot plan.size (hot_side plan b k pair cold hot)
unfolding hot_side
fits-hot_side plan b k pair cold hot other fit = record {
  first = fits-traded plan.size _ hot.first cold.first fit.first other.first;
  second = fits-traded plan.size _ hot.second cold.second fit.second other.second;
}
