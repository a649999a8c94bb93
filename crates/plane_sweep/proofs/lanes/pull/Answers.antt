use Rattle.std.proofs.Common.{bit_xor, refl, sym, ◌∙◌, arith}
use Rattle.std.proofs.lemmas.Simd.{length-zip2, get_or-zip2}
use Rattle.plane_sweep.proofs.lanes.pull.Goals as goal

pub returns-clause-length : goal.returns-clause-length
returns-clause-length g c =
    length-zip2 bit_xor c.words_at.result c.words_at-2.result (c.words_at.ensures.length ∙ sym c.words_at-2.ensures.length) ∙ c.words_at.ensures.length

pub returns-clause-words : goal.returns-clause-words
returns-clause-words g c = λ i below.
    rw (get_or-zip2 bit_xor c.words_at.result c.words_at-2.result i 0 0 0 (omega (arith, c.words_at.ensures.length, below)) (omega (arith, c.words_at-2.ensures.length, below)), c.words_at.ensures.words i below, c.words_at-2.ensures.words i below) refl
