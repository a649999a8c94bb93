-- Each of the six words stands at its neighbour.
use Rattle.std.proofs.Common.{◌≡◌, ℕ, ◌<◌, List, [], ◌∷◌, length, get_or, ap, sym, ◌∙◌, arith}
use Rattle.std.proofs.lemmas.List.{get_or_default}
use Rattle.spin_model.specs.Lattice.{volume, site_at, forward, backward}
use Rattle.potts_glass.specs.Potts.{neighbour}
use Rattle.potts_glass.proofs.Sites.{each-of_six}
use Rattle.spin_model.proofs.Neighbours.{forward-x, forward-y, forward-z, backward-x, backward-y, backward-z}
use Rattle.potts_glass.proofs.surroundings.near.Goals as goal

read : (sites : List (List ℕ)) (w : List ℕ) (n j : ℕ) → w ≡ get_or sites n w → n < length sites → n ≡ j → w ≡ get_or sites j []
read sites w n j e h f = e ∙ get_or_default sites n w [] h ∙ ap (λ m. get_or sites m []) f

pub returns : goal.returns
returns c =
    let l = c.args.lattice.now in
    let sites = c.args.sites.now in
    let x = c.args.at.0 in
    let y = c.args.at.1 in
    let z = c.args.at.2 in
    let i = site_at l x y z in
    let h = c.requires.x in
    let k = c.requires.y in
    let size = c.size-size.ensures.value in
    let whole = c.requires.sites in
    let ahead_x : c.site.result ≡ forward l i 0 = c.site.ensures.value ∙ ap (λ u. site_at l u y z) (rw size at c.next.ensures.value) ∙ sym (forward-x l x y z h k) in
    let ahead_y : c.site-2.result ≡ forward l i 1 = c.site-2.ensures.value ∙ ap (λ u. site_at l x u z) (rw size at c.next-2.ensures.value) ∙ sym (forward-y l x y z h k) in
    let ahead_z : c.site-3.result ≡ forward l i 2 = c.site-3.ensures.value ∙ ap (λ u. site_at l x y u) (rw size at c.next-3.ensures.value) ∙ sym (forward-z l x y z h k) in
    let behind_x : c.site-4.result ≡ backward l i 0 = c.site-4.ensures.value ∙ ap (λ u. site_at l u y z) (rw size at c.previous.ensures.value) ∙ sym (backward-x l x y z h k) in
    let behind_y : c.site-5.result ≡ backward l i 1 = c.site-5.ensures.value ∙ ap (λ u. site_at l x u z) (rw size at c.previous-2.ensures.value) ∙ sym (backward-y l x y z h k) in
    let behind_z : c.site-6.result ≡ backward l i 2 = c.site-6.ensures.value ∙ ap (λ u. site_at l x y u) (rw size at c.previous-3.ensures.value) ∙ sym (backward-z l x y z h k) in
    record {
      near = each-of_six (λ k. get_or (c.at.result.now ∷ c.at-2.result.now ∷ c.at-3.result.now ∷ c.at-4.result.now ∷ c.at-5.result.now ∷ c.at-6.result.now ∷ []) k [] ≡ get_or sites (neighbour l i k) [])
          (read sites _ _ _ c.at.ensures (omega (arith, whole, c.site.ensures.within)) ahead_x)
          (read sites _ _ _ c.at-2.ensures (omega (arith, whole, c.site-2.ensures.within)) ahead_y)
          (read sites _ _ _ c.at-3.ensures (omega (arith, whole, c.site-3.ensures.within)) ahead_z)
          (read sites _ _ _ c.at-4.ensures (omega (arith, whole, c.site-4.ensures.within)) behind_x)
          (read sites _ _ _ c.at-5.ensures (omega (arith, whole, c.site-5.ensures.within)) behind_y)
          (read sites _ _ _ c.at-6.ensures (omega (arith, whole, c.site-6.ensures.within)) behind_z);
      within = each-of_six (λ k. neighbour l i k < volume l)
          (rw ahead_x at c.site.ensures.within)
          (rw ahead_y at c.site-2.ensures.within)
          (rw ahead_z at c.site-3.ensures.within)
          (rw behind_x at c.site-4.ensures.within)
          (rw behind_y at c.site-5.ensures.within)
          (rw behind_z at c.site-6.ensures.within);
    }
