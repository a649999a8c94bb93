-- One sample's byte is written, at a place of its own.
use Rattle.std.proofs.Common.{◌≡◌, ◌+◌, ◌-◌, ◌*◌, ◌<◌, length, get_or, slice_set, get_or-set_same, get_or-set_other, below_more, ◌∙◌, arith, rules}
use Rattle.std.proofs.Math.Nat.{mul_comm}
use Rattle.std.proofs.lemmas.Nat.{mul-add-lt, same_from_place}
use Rattle.spin_model.specs.Words.{is_set}
use Rattle.coupling_set.specs.BondsAsWords.{word_of}
use Rattle.coupling_set.proofs.file_writing.write_column.Goals as goal

pub samples-preserved : goal.samples-preserved
samples-preserved c =
    let known = c.samples.invariant in
    let b = c.samples.b in
    let stride = c.args.stride in
    let k = c.args.k in
    let old = c.samples.bytes in
    let place = b * stride + k in
    let row = mul-add-lt b stride k c.args.samples c.samples-test.true c.requires.byte in
    let turned = mul_comm stride c.args.samples in
    let inside : place < length old = omega (arith, row, turned, known.sized) in
    record {
      sized = search (rules, arith);
      written = below_more (λ s. get_or (slice_set old place c.byte_of.result) (s * stride + k) 0 ≡ word_of (λ i. is_set (get_or c.args.words.now (7 - i) 0) s) 8) b
          (λ s below. get_or-set_other old place (s * stride + k) c.byte_of.result 0
          (λ e. let same = same_from_place s k b k stride c.requires.byte c.requires.byte e in absurd (omega (arith, same.0)))
          ∙ known.written s below)
          (get_or-set_same old place c.byte_of.result 0 inside ∙ c.byte_of.ensures);
      others = λ s j small within other.
          get_or-set_other old place (s * stride + j) c.byte_of.result 0 (λ e. other (same_from_place s j b k stride within c.requires.byte e).1)
          ∙ known.others s j small within other;
    }
