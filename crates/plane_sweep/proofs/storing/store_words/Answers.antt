use Rattle.std.proofs.Common.{◌≡◌, ℕ, ◌*◌, ◌/◌, Bool, false, refl, ap, subst, ◌∙◌, arith}
use Rattle.std.proofs.lemmas.List.{get_or_read}
use Rattle.spin_model.specs.Lattice.{half_plane}
use Rattle.coupling_set.proofs.Places.{in_plane-below}
use Rattle.scalar_rule.specs.Neighbours.{spin}
use Rattle.plane_sweep.specs.Beginnings.{site_of}
use Rattle.plane_sweep.specs.Storing.{StoresWord, StoresWords}
use Rattle.plane_sweep.proofs.Gathering.{changed-none, changed-more}
use Rattle.plane_sweep.proofs.storing.store_words.Goals as goal

pub from_compact-requires : goal.from_compact-requires
from_compact-requires c =
    let size : c.size-size.result * (c.size-size.result / 2) ≡ half_plane c.args.lattice.now = ap (λ n. n * (n / 2)) c.size-size.ensures.value in
    rw (c.size-size.ensures.value)
    (in_plane-below c.args.lattice.now c.args.colour c.args.z c.places.k c.size-size.ensures.lawful c.requires.colour c.requires.plane (omega arith))

pub places-init : goal.places-init
places-init c = changed-none _ _

pub places-preserved : goal.places-preserved
places-preserved c =
    let l = c.args.lattice.now in
    let size : c.size-size.result * (c.size-size.result / 2) ≡ half_plane l = ap (λ n. n * (n / 2)) c.size-size.ensures.value in
    let site : c.from_compact.result ≡ site_of l c.args.colour c.args.z c.places.k = c.from_compact.ensures.value ∙ rw (c.size-size.ensures.value) refl in
    let within = c.from_compact.ensures.within in
    let long = c.requires.spins in
    let up : c.at-up.result.now ≡ spin c.args.spins.now (site_of l c.args.colour c.args.z c.places.k) =
    get_or_read c.args.spins.now c.from_compact.result c.at-up.result.now (omega arith) c.at-up.ensures false ∙ ap (spin c.args.spins.now) site in
    let S : Bool → Type 0 = λ s. StoresWord c.args.sample s c.at_mut.result.now c.store_word.new.word in
    let sized = c.requires.words in
    changed-more _ c.places.k c.args.words.now c.places.words c.at_mut.result.now c.store_word.new.word c.places.invariant (omega arith) c.at_mut.ensures.value (subst S up c.store_word.ensures)

pub returns : goal.returns
returns c =
    let l = c.args.lattice.now in
    let size : c.size-size.result * (c.size-size.result / 2) ≡ half_plane l = ap (λ n. n * (n / 2)) c.size-size.ensures.value in
    let whole : c.places.k ≡ half_plane l = omega arith in
    let S : ℕ → Type 0 = λ n. StoresWords l c.args.sample c.args.spins.now c.args.colour c.args.z n c.args.words.now c.places.words in
    subst S whole c.places.invariant
