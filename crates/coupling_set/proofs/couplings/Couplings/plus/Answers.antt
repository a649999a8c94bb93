-- Each word is 0, and so is each bit.
use Rattle.std.proofs.Common.{◌≡◌, replicate, ap, ◌∙◌}
use Rattle.coupling_set.specs.KeptWords.{kept_count}
use Rattle.coupling_set.proofs.KeptPlaces.{kept-zeros}
use Rattle.coupling_set.proofs.couplings.Couplings.plus.Goals as goal

pub returns-clause-bonds : goal.returns-clause-bonds
returns-clause-bonds c = λ b n small within.
    let l = c.args.lattice in
    let zeros : c.in_ok-words.words.items ≡ replicate c.word_count.result 0 = c.in_ok-words.ensures.items_if_clones_equal (λ y h. h) in
    let all : c.in_ok-words.words.items ≡ replicate (kept_count l) 0 = zeros ∙ ap (λ count. replicate count 0) c.word_count.ensures.value in
    rw (c.of.ensures, all) (kept-zeros l b n c.word_count.ensures.lawful (rw (c.of.ensures) at within))
