-- One byte more of each sample, by the words of its bonds.
use Rattle.std.proofs.Common.{rules, inl, inr, ◌≡◌, ◌+◌, ◌-◌, ◌*◌, ◌/◌, ◌%◌, get_or, ap, sym, ◌∙◌, arith}
use Rattle.std.proofs.lemmas.Bool.{cases_lt}
use Rattle.std.proofs.lemmas.Nat.{div_below, mod_below, div-add-mod'}
use Rattle.spin_model.specs.Words.{is_set}
use Rattle.spin_model.proofs.Tables.{table-of_items}
use Rattle.coupling_set.specs.CouplingWords.{bonds_of}
use Rattle.coupling_set.specs.CouplingsFile.{sample_bytes, coupling_byte, coupling_bytes}
use Rattle.coupling_set.proofs.BondsAsWords.{word_of-same}
use Rattle.coupling_set.proofs.FileBytes.{sample_bytes-positive}
use Rattle.coupling_set.proofs.file_writing.write_samples.Goals as goal

pub bytes-preserved : goal.bytes-preserved
bytes-preserved c =
    let known = c.bytes.invariant in
    let k = c.bytes.k in
    let written = c.write_column.ensures in
    record {
      sized = search (rules, arith);
      room = c.gather.ensures.sized;
      written = λ s j small below. elim (cases_lt j k) [
        | inl less ↦ written.others s j small (omega arith) (omega arith) ∙ known.written s j small less
        | inr not ↦
            let last : j ≡ k = omega arith in
            ap (λ i. get_or c.write_column.new.bytes (s * c.sample_bytes-stride.result + i) 0) last ∙ written.written s small
            ∙ word_of-same (λ i. is_set (get_or c.gather.new.words (7 - i) 0) s) (λ i. bonds_of c.args.couplings.now s (8 * k + (7 - i))) 8
            (λ i h. c.gather.ensures.words (7 - i) s (omega arith))
            ∙ ap (coupling_byte (bonds_of c.args.couplings.now s)) (sym last)
      ];
    }

pub returns : goal.returns
unfolding coupling_bytes
returns c =
    let couplings = c.args.couplings.now in
    let s = sample_bytes couplings.size in
    let some = sample_bytes-positive couplings.size c.size.ensures.lawful.lawful in
    let stride : c.sample_bytes-stride.result ≡ s = c.sample_bytes-stride.ensures.value ∙ ap sample_bytes c.size.ensures.value in
    table-of_items (λ p. coupling_byte (bonds_of couplings (p / s)) (p % s)) (c.args.samples * s) 0 c.bytes.bytes (rw stride at c.bytes.invariant.sized)
    (λ p within.
    let row = div_below p s c.args.samples some within in
    let column = mod_below p s some in
    ap (λ q. get_or c.bytes.bytes q 0) (sym (div-add-mod' p s))
    ∙ rw stride at (c.bytes.invariant.written (p / s) (p % s) row (omega (arith, stride, column))))
