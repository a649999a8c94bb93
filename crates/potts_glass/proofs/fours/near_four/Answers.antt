-- Each of the six rows of words stands at the neighbours.
use Rattle.std.proofs.Common.{◌≡◌, ℕ, ◌+◌, ◌*◌, ◌<◌, [], ◌∷◌, length, get_or, slice_index_or, ap, sym, ◌∙◌, arith}
use Rattle.spin_model.specs.Lattice.{site_at, next, previous}
use Rattle.spin_model.proofs.Neighbours.{forward-x, forward-y, forward-z, backward-x, backward-y, backward-z}
use Rattle.spin_model.proofs.Sites.{site_at-below}
use Rattle.potts_glass.specs.PackedColours.{colour_in}
use Rattle.potts_glass.specs.Potts.{neighbour}
use Rattle.potts_glass.specs.SitesBeside.{site_in}
use Rattle.potts_glass.proofs.NeighbourPlaces.{row-site, next-inside, previous-inside}
use Rattle.potts_glass.proofs.Sites.{each-of_four, each-of_six}
use Rattle.potts_glass.proofs.fours.near_four.Goals as goal

pub words_of-requires-2 : goal.words_of-requires-2
words_of-requires-2 c =
    let l = c.args.lattice.now in
    let x = c.args.at.0 in
    let y = c.args.at.1 in
    let z = c.args.at.2 in
    let here = c.site-here.result in
    let back = c.previous.result in
    let at = c.site-here.ensures.value in
    let below = λ (u : ℕ) (h : u < l). site_at-below l u y z h c.requires.y c.requires.z in
    let inside = rw c.size-size.ensures.value at c.previous.ensures.within in
    each-of_four (λ i. get_or ((here + back) ∷ (here + x + 1) ∷ (here + x + 3) ∷ (here + x + 5) ∷ []) i 0 < length c.args.sites.now)
    (omega (arith, c.requires.sites, row-site l back y z here at, below back inside))
    (omega (arith, c.requires.sites, c.requires.x, row-site l (x + 1) y z here at, below (x + 1) (omega (arith, c.requires.x))))
    (omega (arith, c.requires.sites, c.requires.x, row-site l (x + 3) y z here at, below (x + 3) (omega (arith, c.requires.x))))
    (omega (arith, c.requires.sites, c.requires.x, row-site l (x + 5) y z here at, below (x + 5) (omega (arith, c.requires.x))))

pub returns : goal.returns
returns c = λ i k b lane six.
    let l = c.args.lattice.now in
    let sites = c.args.sites.now in
    let x = c.args.at.0 in
    let y = c.args.at.1 in
    let z = c.args.at.2 in
    let u = x + 2 * i in
    let j = site_at l u y z in
    let h : u < l = omega (arith, c.requires.x, lane) in
    let size = c.size-size.ensures.value in
    let here = c.site-here.result in
    let at = c.site-here.ensures.value in
    let fore = c.next.result in
    let back = c.previous.result in
    let fore_at : fore ≡ next l (x + 6) = rw size at c.next.ensures.value in
    let back_at : back ≡ previous l x = rw size at c.previous.ensures.value in
    let none : x ≡ x + 2 * 0 = omega arith in
    let ahead : get_or ((here + x + 1) ∷ (here + x + 3) ∷ (here + x + 5) ∷ (here + fore) ∷ []) i 0 ≡ site_at l (next l u) y z =
    each-of_four (λ m. get_or ((here + x + 1) ∷ (here + x + 3) ∷ (here + x + 5) ∷ (here + fore) ∷ []) m 0 ≡ site_at l (next l (x + 2 * m)) y z)
    (rw (next-inside l (x + 2 * 0) (omega (arith, c.requires.x))) (omega (arith, row-site l (x + 1) y z here at)))
    (rw (next-inside l (x + 2 * 1) (omega (arith, c.requires.x))) (omega (arith, row-site l (x + 3) y z here at)))
    (rw (next-inside l (x + 2 * 2) (omega (arith, c.requires.x))) (omega (arith, row-site l (x + 5) y z here at)))
    (row-site l fore y z here at ∙ ap (λ n. site_at l n y z) fore_at)
    i lane in
    let behind : get_or ((here + back) ∷ (here + x + 1) ∷ (here + x + 3) ∷ (here + x + 5) ∷ []) i 0 ≡ site_at l (previous l u) y z =
    each-of_four (λ m. get_or ((here + back) ∷ (here + x + 1) ∷ (here + x + 3) ∷ (here + x + 5) ∷ []) m 0 ≡ site_at l (previous l (x + 2 * m)) y z)
    (row-site l back y z here at ∙ ap (λ n. site_at l n y z) (back_at ∙ ap (previous l) none))
    (rw (previous-inside l (x + 2 * 1) (omega arith) (omega (arith, c.requires.x))) (omega (arith, row-site l (x + 1) y z here at)))
    (rw (previous-inside l (x + 2 * 2) (omega arith) (omega (arith, c.requires.x))) (omega (arith, row-site l (x + 3) y z here at)))
    (rw (previous-inside l (x + 2 * 3) (omega arith) (omega (arith, c.requires.x))) (omega (arith, row-site l (x + 5) y z here at)))
    i lane in
    let read = λ (m n : ℕ) (e : m ≡ n). ap (λ p. colour_in (slice_index_or sites p []) b) e in
    let ahead_y = c.site.ensures.value ∙ ap (λ v. site_at l 0 v z) (rw size at c.next-2.ensures.value) in
    let ahead_z = c.site-2.ensures.value ∙ ap (λ v. site_at l 0 y v) (rw size at c.next-3.ensures.value) in
    let behind_y = c.site-3.ensures.value ∙ ap (λ v. site_at l 0 v z) (rw size at c.previous-2.ensures.value) in
    let behind_z = c.site-4.ensures.value ∙ ap (λ v. site_at l 0 y v) (rw size at c.previous-3.ensures.value) in
    let on = λ (n v w : ℕ) (e : n ≡ site_at l 0 v w). along l x v w n i e in
    each-of_six (λ m. colour_in (site_in (slice_index_or (c.words_of.result ∷ c.words_from.result ∷ c.words_from-2.result ∷ c.words_of-2.result ∷ c.words_from-3.result ∷ c.words_from-4.result ∷ []) m []) i) b ≡ colour_in (slice_index_or sites (neighbour l j m) []) b)
    (c.words_of.ensures i b lane ∙ read _ _ (ahead ∙ sym (forward-x l u y z h c.requires.y)))
    (c.words_from.ensures i b lane ∙ read _ _ (on _ (next l y) z ahead_y ∙ sym (forward-y l u y z h c.requires.y)))
    (c.words_from-2.ensures i b lane ∙ read _ _ (on _ y (next l z) ahead_z ∙ sym (forward-z l u y z h c.requires.y)))
    (c.words_of-2.ensures i b lane ∙ read _ _ (behind ∙ sym (backward-x l u y z h c.requires.y)))
    (c.words_from-3.ensures i b lane ∙ read _ _ (on _ (previous l y) z behind_y ∙ sym (backward-y l u y z h c.requires.y)))
    (c.words_from-4.ensures i b lane ∙ read _ _ (on _ y (previous l z) behind_z ∙ sym (backward-z l u y z h c.requires.y)))
    k six
  where
    along : (l x y z n i : ℕ) → n ≡ site_at l 0 y z → n + x + 2 * i ≡ site_at l (x + 2 * i) y z
    along l x y z n i e = omega (arith, e)
