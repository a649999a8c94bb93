-- Lane by lane the exclusive or of three words.
use Rattle.std.proofs.Common.{bit_xor, refl}
use lib.Lanes.{zip2}
use Rattle.local_rule.proofs.Lanes.{long, at}
use Rattle.bit_totals.proofs.lanes.mixed_at.Goals as goal

pub returns-clause-length : goal.returns-clause-length
returns-clause-length c =
    let two = long bit_xor c.words_at.result c.words_at-2.result c.words_at.ensures.length c.words_at-2.ensures.length in
    long bit_xor (zip2 bit_xor c.words_at.result c.words_at-2.result) c.words_at-3.result two c.words_at-3.ensures.length

pub returns-clause-words : goal.returns-clause-words
returns-clause-words c = λ i h.
    let a = c.words_at.ensures in
    let b = c.words_at-2.ensures in
    let d = c.words_at-3.ensures in
    let two = long bit_xor c.words_at.result c.words_at-2.result a.length b.length in
    rw (
      at bit_xor (zip2 bit_xor c.words_at.result c.words_at-2.result) c.words_at-3.result i two d.length h,
      at bit_xor c.words_at.result c.words_at-2.result i a.length b.length h,
      a.words i h,
      b.words i h,
      d.words i h,
    )
    refl
