-- The bond's word is written, and the words of other bonds stay.
use Rattle.std.proofs.Common.{◌/◌, ◌%◌, ◌<◌, length, get_or, slice_set, get_or-set_same, get_or-set_other, ap, sym, ◌∙◌}
use Rattle.spin_model.specs.Words.{is_set}
use Rattle.coupling_set.specs.CouplingWords.{place_of}
use Rattle.coupling_set.specs.KeptWords.{kept_place}
use Rattle.coupling_set.proofs.Places.{places-apart}
use Rattle.coupling_set.proofs.KeptPlaces.{kept_place-same, kept-bond}
use Rattle.coupling_set.proofs.bond_words.write_word.Goals as goal

pub returns-clause-written : goal.returns-clause-written
returns-clause-written c = λ b.
    let l = c.args.lattice.now in
    let words = c.args.words.now in
    let placed = c.place.ensures in
    let listed : c.place.result < length words = rw (c.requires.sized) placed.within in
    kept-bond l _ b c.args.bond placed.lawful c.requires.bond
    ∙ ap (λ place. is_set (get_or (slice_set words c.place.result c.args.word) place 0) b) (sym placed.value)
    ∙ ap (λ word. is_set word b) (get_or-set_same words c.place.result c.args.word 0 listed)

pub returns-clause-others : goal.returns-clause-others
returns-clause-others c = λ b n within other.
    let l = c.args.lattice.now in
    let words = c.args.words.now in
    let placed = c.place.ensures in
    let place = place_of l (n / 3) (n % 3) in
    let apart = places-apart l n c.args.bond placed.lawful within c.requires.bond other in
    kept-bond l _ b n placed.lawful within
    ∙ ap (λ word. is_set word b) (get_or-set_other words c.place.result (kept_place l place) c.args.word 0 (λ e. apart (kept_place-same l _ _ placed.lawful (e ∙ placed.value))))
    ∙ sym (kept-bond l words b n placed.lawful within)
