-- The words of a plane lie within the list, and each is where its bond's word is kept.
use Rattle.std.proofs.Common.{◌≡◌, ℕ, ◌+◌, ◌-◌, ◌*◌, ◌<◌, List, length, get_or, take, drop, get_or-drop, sym, ap, ◌∙◌, arith}
use Rattle.std.proofs.lemmas.List.{get_or-take}
use Rattle.spin_model.specs.Lattice.{half_plane, half_volume, from_compact}
use Rattle.spin_model.proofs.CompactOrder.{from_compact-below}
use Rattle.coupling_set.specs.CouplingWords.{CouplingsView, bond_word}
use Rattle.coupling_set.specs.KeptWords.{kept_count}
use Rattle.coupling_set.proofs.KeptPlaces.{kept-word}
use Rattle.coupling_set.proofs.KeptPlanes.{kept_place-plane}
use Rattle.coupling_set.proofs.couplings.Couplings.plane_of_size.Goals as goal

-- an item of a part of a list
part-read : (xs words : List ℕ) (first last k place : ℕ) → xs ≡ words → k < last - first → first + k ≡ place
    → get_or (take (last - first) (drop first xs)) k 0 ≡ get_or words place 0
part-read xs words first last k place same within at =
    get_or-take (last - first) (drop first xs) k 0 within ∙ get_or-drop first xs k 0 ∙ ap (λ i. get_or xs i 0) at ∙ ap (λ v. get_or v place 0) same

pub slice_bounds-result-end : goal.slice_bounds-result-end
slice_bounds-result-end c =
    let known : c.args.size ≡ c.self.inside.lattice = c.requires.size ∙ sym (ap (λ (v : CouplingsView). v.size) c.self.view_is) in
    let long : length c.as_slice.result.now ≡ kept_count c.args.size = ap length c.as_slice.ensures ∙ c.self.invariant.sized ∙ ap kept_count (sym known) in
    let within = c.plane_start-first.ensures.within in
    omega (arith, long, within)

pub returns-clause-words : goal.returns-clause-words
returns-clause-words c = λ k below.
    let l = c.self.inside.lattice in
    let words = c.self.inside.words in
    let lawful = c.self.invariant.lawful in
    let size : c.args.self.now.size ≡ l = sym (ap (λ (v : CouplingsView). v.size) c.self.view_is) in
    let known : c.args.size ≡ l = c.requires.size ∙ size in
    let plane = rw size at c.requires.plane in
    let within = rw size at below in
    let site = from_compact l (c.args.colour * half_volume l + c.args.z * half_plane l + k) in
    let place = kept_place-plane l c.args.colour c.args.z k c.args.d lawful c.requires.colour plane within in
    let word = kept-word l words site c.args.d lawful (from_compact-below l _ lawful) c.requires.direction in
    rw (c.plane_start-first.ensures.value, known)
    (part-read _ words _ _ k _ c.as_slice.ensures (omega arith) (sym place) ∙ sym word
    ∙ ap (λ (v : CouplingsView). bond_word v (from_compact v.size (c.args.colour * half_volume v.size + c.args.z * half_plane v.size + k)) c.args.d) c.self.view_is)
