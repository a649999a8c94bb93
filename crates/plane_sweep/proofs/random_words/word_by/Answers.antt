-- The site of a column that has the colour, and where its two draws stand.
use Rattle.std.proofs.Common.{◌≡◌, ℕ, ◌+◌, ◌*◌, ◌/◌, ◌%◌, ◌<◌, get_or, refl, ap, ◌∙◌, arith}
use Rattle.std.proofs.lemmas.Nat.{mul-add-lt, mod-mul-add}
use Rattle.spin_model.specs.Lattice.{IsLawfulSize}
use Rattle.spin_model.specs.Words.{is_set}
use Rattle.spin_model.proofs.CompactOrder.{from_compact-place_at, chosen-below}
use Rattle.plane_sweep.specs.Beginnings.{site_of}
use Rattle.multispin_word.proofs.Halves.{half-of_pair}
use Rattle.plane_sweep.proofs.random_words.word_by.Goals as goal

-- the site lies in its row within the plane
in_row : (l c z y j : ℕ) → IsLawfulSize l → y < l → j < l / 2 → y * l + (2 * j + (c + y + z) % 2) < l * l
in_row l c z y j lawful row column = mul-add-lt y l (2 * j + (c + y + z) % 2) l row (chosen-below l c y z j lawful.2 column)

-- the number of that site in its plane
site-in_plane : (l c z y j : ℕ) → IsLawfulSize l → z < l → y < l → j < l / 2
    → site_of l c z (y * (l / 2) + j) % (l * l) ≡ y * l + (2 * j + (c + y + z) % 2)
site-in_plane l c z y j lawful plane row column =
    let x = 2 * j + (c + y + z) % 2 in
    let parts : x + l * y + l * l * z ≡ z * (l * l) + (y * l + x) = omega arith in
    ap (λ i. i % (l * l)) (from_compact-place_at l c z y j plane row column ∙ parts)
    ∙ mod-mul-add z (l * l) (y * l + x) (in_row l c z y j lawful row column)

pub returns : goal.returns
returns c = λ b below.
    let l = c.args.lattice.now in
    let xs = c.args.draws.now in
    let size : c.size.result ≡ l = c.size.ensures.value in
    let place = site-in_plane l c.args.colour c.args.z c.args.y c.args.column c.size.ensures.lawful c.requires.plane c.requires.row c.requires.column in
    c.joined.ensures b below
    ∙ ap (λ w. is_set w (b % 32)) (half-of_pair xs (2 * (c.args.y * c.size.result + (2 * c.args.column + (c.args.colour + c.args.y + c.args.z) % 2))) b below
    ∙ ap (λ n. get_or xs (2 * n + b / 32) 0) (rw (size, place) refl))
