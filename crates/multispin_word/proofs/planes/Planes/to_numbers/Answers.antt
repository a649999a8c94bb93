-- A plane adds its worth to the samples that have it set; one that none has changes no number.
use Rattle.std.proofs.Common.{◌^◌, ℕ, refl, sym, ◌∙◌, arith, mul-zero}
use Rattle.std.proofs.lemmas.List.{get_or-replicate}
use Rattle.std.proofs.lemmas.Nat.Bits.{bit_at-zero}
use Rattle.multispin_word.proofs.Bits.{one_if-is_set}
use Rattle.multispin_word.proofs.Numbers.{first-none, first-more, first-lt, whole}
use Rattle.multispin_word.proofs.planes.Planes.to_numbers.Goals as goal
use Rattle.multispin_word.proofs.planes.Planes.to_numbers.Goals.{then-word-ne0, else-word-ne0}

pub planes-init : goal.planes-init
planes-init g c = record { long = refl; done = λ k h. get_or-replicate {A = ℕ} 64 k 0 0 h ∙ sym (first-none _ _) }

pub add_worths-requires-clause-room : goal.add_worths-requires-clause-room
add_worths-requires-clause-room g c = λ b h. rw (c.planes.invariant.done b h) (first-lt c.args.self.now.words c.planes.w b)

pub planes-preserved : goal.planes-preserved
planes-preserved g c = elim c.if-word-ne0.branch [
  | then-word-ne0 w ↦ record {
    long = c.if-word-ne0.array_long;
    done = λ k h. rw (w.out-is, w.add_worths.ensures k h, one_if-is_set _ _, c.planes.invariant.done k h)
        (sym (first-more c.args.self.now.words c.planes.w k));
  }
  | else-word-ne0 w ↦ record {
    long = c.if-word-ne0.array_long;
    done = λ k h. rw (w.out-is, first-more c.args.self.now.words c.planes.w k, w.if-word-ne0.false, bit_at-zero k, c.planes.invariant.done k h)
        (omega (arith, mul-zero (2 ^ c.planes.w)));
  }
]

pub returns : goal.returns
returns g c = λ b h. c.planes.invariant.done b h ∙ whole c.args.self.now.words c.planes.w b (omega arith)
