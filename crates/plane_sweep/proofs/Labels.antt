-- Labels that are a permutation of the slots' numbers.
use Rattle.std.proofs.Common.{◌≡◌, ℕ, ◌<◌, length, ap, sym, ◌∙◌, arith}
use Rattle.spin_model.proofs.Tables.{get_or-table}
use Rattle.scalar_rule.specs.Epoch.{slot_at}
use Rattle.scalar_rule.specs.Plan.{Plan, slots_of}
use Rattle.scalar_rule.specs.declared.sample.PlainSlot.{PlainSlot}
use Rattle.scalar_rule.specs.declared.sample.Sample.{Sample}
use Rattle.plane_sweep.specs.Packed.{Permutes, PermutesLabels}
use Rattle.plane_sweep.specs.Sharing.{sharing_slot, sharing}

-- the numbers themselves are a permutation
pub permutes-same : (n : ℕ) (f : ℕ → ℕ) → ((t : ℕ) → t < n → f t ≡ t) → Permutes n f
permutes-same n f same = record {
  below = λ t within. let e = same t within in omega arith;
  apart = λ t u within other equal. let e = same t within in let g = same u other in omega arith;
  onto = λ q within. (q, within, same q within);
}

-- and so are others that are equal to a permutation
pub permutes-equal : (n : ℕ) (f g : ℕ → ℕ) → Permutes n f → ((t : ℕ) → t < n → g t ≡ f t) → Permutes n g
permutes-equal n f g p same = record {
  below = λ t within. let e = same t within in let h = p.below t within in omega arith;
  apart = λ t u within other equal. p.apart t u within other (sym (same t within) ∙ equal ∙ same u other);
  onto = λ q within. let h = p.onto q within in (h.0, h.1, same h.0 h.1 ∙ h.2);
}

-- a sample with the generators of another keeps its labels
pub sharing-labels : (plan : Plan) (from own : Sample) → length own.slots ≡ slots_of plan → PermutesLabels plan own → PermutesLabels plan (sharing from own)
sharing-labels plan from own sized labels =
    let item : (t : ℕ) → t < slots_of plan → slot_at (sharing from own).slots t ≡ sharing_slot (slot_at from.slots t) (slot_at own.slots t) =
    λ t within. get_or-table _ (length own.slots) t _ (omega arith) in
    record {
      first = permutes-equal (slots_of plan) _ _ labels.first (λ t within. ap (λ (s : PlainSlot). s.first.replica) (item t within));
      second = permutes-equal (slots_of plan) _ _ labels.second (λ t within. ap (λ (s : PlainSlot). s.second.replica) (item t within));
    }
