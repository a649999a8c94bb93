-- Each of the six rows of words is that of the bonds to the neighbours.
use Rattle.std.proofs.Common.{◌≡◌, ℕ, ◌+◌, ◌-◌, ◌*◌, ◌/◌, ◌%◌, ◌<◌, List, [], ◌∷◌, get_or, refl, ap, sym, ◌∙◌, arith}
use Rattle.coupling_set.specs.CouplingWords.{bonds_of, bond_word}
use Rattle.multispin_word.specs.Planes.{is_set}
use Rattle.spin_model.specs.Lattice.{site_at, backward, previous}
use Rattle.potts_glass.specs.Potts.{joint}
use Rattle.potts_glass.specs.SitesBeside.{bit_in}
use Rattle.potts_glass.proofs.NeighbourPlaces.{held, previous-inside, stands, stands-behind_x, stands-behind_y, stands-behind_z}
use Rattle.potts_glass.proofs.Sites.{bond-word, each-of_four, each-of_six}
use Rattle.potts_glass.proofs.fours.negative_four.Goals as goal

pub returns : goal.returns
returns c = λ i k b lane six.
    let couplings = c.args.couplings.now in
    let bonds = c.args.bonds.now in
    let l = couplings.size in
    let s = c.size-size.result in
    let class = c.args.class in
    let x = c.args.at.0 in
    let y = c.args.at.1 in
    let z = c.args.at.2 in
    let u = x + 2 * i in
    let j = site_at l u y z in
    let lawful = c.size-size.ensures.lawful.lawful in
    let none : x ≡ x + 2 * 0 = omega arith in
    let size = c.size-size.ensures.value in
    let h : u < l = omega (arith, c.requires.x, lane) in
    let parity : (u + y + z) % 2 ≡ class = omega (arith, c.requires.class) in
    let row : y * (s / 2) ≡ y * (l / 2) = ap (λ n. y * (n / 2)) size in
    let half : u / 2 ≡ x / 2 + i = omega arith in
    let here = stands l class u y z h c.requires.y c.requires.z parity in
    let back_x = stands-behind_x l class u y z lawful h c.requires.y c.requires.z parity in
    let back_y = stands-behind_y l class u y z lawful h c.requires.y c.requires.z parity in
    let back_z = stands-behind_z l class u y z lawful h c.requires.y c.requires.z parity in
    let place : y * (s / 2) + x / 2 + i ≡ y * (l / 2) + u / 2 = omega arith in
    let first = y * (s / 2) + c.previous.result / 2 in
    let back = y * (s / 2) + (x + 1) / 2 in
    let begins : c.previous.result ≡ previous l x = rw size at c.previous.ensures.value in
    let behind : get_or (first ∷ back ∷ (back + 1) ∷ (back + 2) ∷ []) i 0 ≡ y * (l / 2) + previous l u / 2 =
    each-of_four (λ m. get_or (first ∷ back ∷ (back + 1) ∷ (back + 2) ∷ []) m 0 ≡ y * (l / 2) + previous l (x + 2 * m) / 2)
    (ap (λ n. y * (s / 2) + n / 2) begins ∙ ap (λ n. n + previous l x / 2) row ∙ ap (λ u. y * (l / 2) + previous l u / 2) none)
    (rw (previous-inside l (x + 2 * 1) (omega arith) (omega (arith, c.requires.x))) (omega arith))
    (rw (previous-inside l (x + 2 * 2) (omega arith) (omega (arith, c.requires.x))) (omega arith))
    (rw (previous-inside l (x + 2 * 3) (omega arith) (omega (arith, c.requires.x))) (omega arith))
    i lane in
    let words = bonds.behind_x.now in
    let picked : get_or (get_or words first 0 ∷ get_or words back 0 ∷ get_or words (back + 1) 0 ∷ get_or words (back + 2) 0 ∷ []) i 0
    ≡ get_or words (get_or (first ∷ back ∷ (back + 1) ∷ (back + 2) ∷ []) i 0) 0 = read i lane words first back in
    let down : c.previous-2.result * (s / 2) + x / 2 + i ≡ previous l y * (l / 2) + u / 2 =
    ap (λ n. n + x / 2 + i) (ap (λ n. n * (s / 2)) (rw size at c.previous-2.ensures.value) ∙ ap (λ n. previous l y * (n / 2)) size) ∙ omega arith in
    let told = λ (w n d : ℕ) (direction : d < 3) (e : w ≡ bond_word couplings n d). ap (λ v. is_set v b) e ∙ sym (bond-word couplings n d b direction) in
    each-of_six (λ m. bit_in (c.four_from.result ∷ c.four_from-2.result ∷ c.four_from-3.result ∷ (get_or words first 0 ∷ get_or words back 0 ∷ get_or words (back + 1) 0 ∷ get_or words (back + 2) 0 ∷ []) ∷ c.four_from-4.result ∷ c.four_from-5.result ∷ []) m i b ≡ bonds_of couplings b (joint l j m))
    (told _ j 0 (omega arith) (c.four_from.ensures i lane ∙ held couplings class z 0 j _ _ bonds.ahead_x.now c.requires.bonds.ahead_x here place))
    (told _ j 1 (omega arith) (c.four_from-2.ensures i lane ∙ held couplings class z 1 j _ _ bonds.ahead_y.now c.requires.bonds.ahead_y here place))
    (told _ j 2 (omega arith) (c.four_from-3.ensures i lane ∙ held couplings class z 2 j _ _ bonds.ahead_z.now c.requires.bonds.ahead_z here place))
    (told _ (backward l j 0) 0 (omega arith) (picked ∙ held couplings (1 - class) z 0 (backward l j 0) _ _ words c.requires.bonds.behind_x back_x behind))
    (told _ (backward l j 1) 1 (omega arith) (c.four_from-4.ensures i lane ∙ held couplings (1 - class) z 1 (backward l j 1) _ _ bonds.behind_y.now c.requires.bonds.behind_y back_y down))
    (told _ (backward l j 2) 2 (omega arith) (c.four_from-5.ensures i lane ∙ held couplings (1 - class) (previous l z) 2 (backward l j 2) _ _ bonds.behind_z.now c.requires.bonds.behind_z back_z place))
    k six
  where
    read : (i : ℕ) → i < 4 → (ws : List ℕ) (p q : ℕ) → get_or (get_or ws p 0 ∷ get_or ws q 0 ∷ get_or ws (q + 1) 0 ∷ get_or ws (q + 2) 0 ∷ []) i 0 ≡ get_or ws (get_or (p ∷ q ∷ (q + 1) ∷ (q + 2) ∷ []) i 0) 0
    read i lane ws p q = each-of_four (λ m. get_or (get_or ws p 0 ∷ get_or ws q 0 ∷ get_or ws (q + 1) 0 ∷ get_or ws (q + 2) 0 ∷ []) m 0 ≡ get_or ws (get_or (p ∷ q ∷ (q + 1) ∷ (q + 2) ∷ []) m 0) 0) refl refl refl refl i lane
