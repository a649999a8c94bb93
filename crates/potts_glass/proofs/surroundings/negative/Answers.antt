-- Each of the six words is that of the bond to its neighbour.
use Rattle.std.proofs.Common.{◌≡◌, ℕ, ◌+◌, ◌*◌, ◌/◌, ◌%◌, ◌<◌, [], ◌∷◌, get_or, refl, ap, sym, ◌∙◌, arith}
use Rattle.coupling_set.specs.CouplingWords.{bonds_of, bond_word}
use Rattle.multispin_word.specs.Planes.{is_set}
use Rattle.spin_model.specs.Lattice.{site_at, backward, previous}
use Rattle.potts_glass.specs.Potts.{joint}
use Rattle.potts_glass.proofs.Sites.{bond-word, each-of_six}
use Rattle.potts_glass.proofs.NeighbourPlaces.{stands, stands-behind_x, stands-behind_y, stands-behind_z}
use Rattle.potts_glass.proofs.surroundings.negative.Goals as goal

pub returns : goal.returns
returns c = λ b k h.
    let couplings = c.args.couplings.now in
    let l = c.args.lattice.now in
    let x = c.args.at.0 in
    let y = c.args.at.1 in
    let z = c.args.at.2 in
    let class = (x + y + z) % 2 in
    let i = site_at l x y z in
    let lawful = c.size-size.ensures.lawful in
    let half = sym c.size-size.ensures.value in
    let back_x : previous l x ≡ c.previous.result = sym (rw c.size-size.ensures.value at c.previous.ensures.value) in
    let back_y : previous l y ≡ c.previous-2.result = sym (rw c.size-size.ensures.value at c.previous-2.ensures.value) in
    let back_z : previous l z ≡ c.previous-3.result = sym (rw c.size-size.ensures.value at c.previous-3.ensures.value) in
    let here = stands l class x y z c.requires.x c.requires.y c.requires.z refl in
    let place = here.at_place ∙ ap (λ n. y * (n / 2) + x / 2) half in
    let behind_x = stands-behind_x l class x y z lawful c.requires.x c.requires.y c.requires.z refl in
    let behind_y = stands-behind_y l class x y z lawful c.requires.x c.requires.y c.requires.z refl in
    let behind_z = stands-behind_z l class x y z lawful c.requires.x c.requires.y c.requires.z refl in
    let place_x = behind_x.at_place ∙ ap (λ n. y * (n / 2) + previous l x / 2) half ∙ ap (λ u. y * (c.size-size.result / 2) + u / 2) back_x in
    let place_y = behind_y.at_place ∙ ap (λ n. previous l y * (n / 2) + x / 2) half ∙ ap (λ u. u * (c.size-size.result / 2) + x / 2) back_y in
    let place_z = behind_z.at_place ∙ ap (λ n. y * (n / 2) + x / 2) half in
    let told = λ (w j d : ℕ) (direction : d < 3) (e : w ≡ bond_word couplings j d). ap (λ u. is_set u b) e ∙ sym (bond-word couplings j d b direction) in
    each-of_six (λ m. is_set (get_or (c.word_in_plane.result ∷ c.word_in_plane-2.result ∷ c.word_in_plane-3.result ∷ c.word_in_plane-4.result ∷ c.word_in_plane-5.result ∷ c.word_in_plane-6.result ∷ []) m 0) b ≡ bonds_of couplings b (joint l i m))
    (told _ i 0 (omega arith) (c.word_in_plane.ensures i here.within here.of_class here.in_plane place))
    (told _ i 1 (omega arith) (c.word_in_plane-2.ensures i here.within here.of_class here.in_plane place))
    (told _ i 2 (omega arith) (c.word_in_plane-3.ensures i here.within here.of_class here.in_plane place))
    (told _ (backward l i 0) 0 (omega arith) (c.word_in_plane-4.ensures (backward l i 0) behind_x.within behind_x.of_class behind_x.in_plane place_x))
    (told _ (backward l i 1) 1 (omega arith) (c.word_in_plane-5.ensures (backward l i 1) behind_y.within behind_y.of_class behind_y.in_plane place_y))
    (told _ (backward l i 2) 2 (omega arith) (c.word_in_plane-6.ensures (backward l i 2) behind_z.within behind_z.of_class (behind_z.in_plane ∙ back_z) place_z))
    k h
