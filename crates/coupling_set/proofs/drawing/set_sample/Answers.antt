-- One bit of a bond's word is written, and the words of other bonds stay.
use Rattle.std.proofs.Common.{inl, inr, ◌≡◌, ◌≢◌, ℕ, ◌<◌, List, length, get_or, slice_set, get_or-set_same, get_or-set_other, below_more, ap, sym, ◌∙◌, arith, rules}
use Rattle.std.proofs.lemmas.Bool.{cases_eq}
use Rattle.spin_model.specs.Words.{is_set}
use Rattle.coupling_set.proofs.drawing.set_sample.Goals as goal

-- where the word that is written has the bit of the old one, so has each place
bit-kept : (words : List ℕ) (p w q b : ℕ) → p < length words → is_set w b ≡ is_set (get_or words p 0) b
    → is_set (get_or (slice_set words p w) q 0) b ≡ is_set (get_or words q 0) b
bit-kept words p w q b listed same = elim (cases_eq q p) [
  | inl here ↦
      ap (λ k. is_set (get_or (slice_set words p w) k 0) b) here ∙ ap (λ word. is_set word b) (get_or-set_same words p w 0 listed)
      ∙ same ∙ ap (λ k. is_set (get_or words k 0) b) (sym here)
  | inr there ↦ ap (λ word. is_set word b) (get_or-set_other words p q w 0 there)
]

pub bonds-preserved : goal.bonds-preserved
bonds-preserved c =
    let row = c.bonds.row in
    let k = c.bonds.k in
    let word = c.with_bit.result in
    let known = c.bonds.invariant in
    let listed : k < length row = search (rules, arith) in
    let bit : is_set word c.args.sample ≡ c.is_negative.result = search (rules, arith) in
    record {
      bits = below_more _ _
          (λ j less. let other : j ≢ k = omega arith in
          ap (λ w. is_set w c.args.sample) (get_or-set_other row k j word 0 other) ∙ known.bits j less)
          (ap (λ w. is_set w c.args.sample) (get_or-set_same row k word 0 listed) ∙ bit ∙ c.is_negative.ensures);
      others = λ b j small other.
          let same : is_set word b ≡ is_set (get_or row k 0) b = search (rules, arith) in
          bit-kept row k word j b listed same ∙ known.others b j small other;
    }
