-- The bonds of the planes of a colour, counted one after the other.
use Rattle.std.proofs.Common.{◌≡◌, ℕ, zero, suc, ◌+◌, ◌-◌, ◌*◌, ◌<◌, ◌≤◌, List, ◌++◌, length, refl, ap, sym, subst, ◌∙◌, arith}
use Rattle.std.proofs.Math.Nat.{zero-mul}
use Rattle.std.proofs.lemmas.List.{get_or_append_left, get_or-append_right}
use Rattle.coupling_set.specs.CouplingWords.{CouplingsView, bonds_of}
use Rattle.spin_model.specs.Lattice.{IsLawfulSize, half_plane}
use Rattle.scalar_rule.specs.Positions.{sum_below}
use Rattle.scalar_rule.proofs.Extremes.{sum-same}
use Rattle.plane_sweep.specs.Packed.{plane_at, spins_of}
use Rattle.plane_sweep.specs.declared.replica.Plane.{Plane}
use Rattle.plane_sweep.proofs.Empties.{no_plane}
use Rattle.plane_sweep.proofs.SamplePulls.{AreOthers}
use Rattle.bit_totals.specs.Counted.{unsatisfied_from}
use Rattle.bit_totals.specs.RowBonds.{plane_count, planes_count}
use Rattle.bit_totals.proofs.ColourBonds.{from-none}
use Rattle.bit_totals.proofs.PlaneBonds.{plane-counted}

pub planes-none : (couplings : CouplingsView) (other : List Plane) (c : ℕ) (own : List Plane) (b : ℕ) → planes_count couplings other c own b 0 ≡ 0
unfolding planes_count sum_below
planes-none couplings other c own b = refl

-- one more is counted, and those before it are as they were
pub planes-more : (couplings : CouplingsView) (other : List Plane) (c n b : ℕ) (now new : List Plane) → ((k : ℕ) → k < n → plane_at new k ≡ plane_at now k)
    → planes_count couplings other c new b (n + 1) ≡ planes_count couplings other c now b n + plane_count couplings other c n (plane_at new n).words b (half_plane couplings.size)
unfolding planes_count sum_below
planes-more couplings other c n b now new kept =
    let h = half_plane couplings.size in
    let term = λ (planes : List Plane) (z : ℕ). plane_count couplings other c z (plane_at planes z).words b h in
    let place : n + 1 ≡ suc n = omega arith in
    let last : sum_below (term new) (suc n) ≡ sum_below (term new) n + term new n = refl in
    let each = sum-same (term new) (term now) n (λ z below. ap (λ (p : Plane). plane_count couplings other c z p.words b h) (kept z below)) in
    ap (sum_below (term new)) place ∙ last ∙ ap (λ m. m + term new n) each

-- the bonds of the sites of the first n planes of a colour
planes-bonds : (couplings : CouplingsView) (planes other own : List Plane) (c b n : ℕ) → IsLawfulSize couplings.size → c < 2 → n ≤ couplings.size
    → AreOthers couplings.size c planes other → ((z : ℕ) → z < couplings.size → plane_at own z ≡ plane_at planes (c * couplings.size + z))
    → unsatisfied_from couplings.size (bonds_of couplings b) (spins_of couplings.size b planes) c (n * half_plane couplings.size) ≡ planes_count couplings other c own b n
planes-bonds couplings planes other own c b zero lawful chosen within others same =
    let l = couplings.size in
    ap (unsatisfied_from l (bonds_of couplings b) (spins_of l b planes) c) (zero-mul (half_plane l)) ∙ from-none l (bonds_of couplings b) (spins_of l b planes) c ∙ sym (planes-none couplings other c own b)
planes-bonds couplings planes other own c b (suc n) lawful chosen within others same =
    let l = couplings.size in
    let h = half_plane l in
    let place : suc n ≡ n + 1 = omega arith in
    let before = planes-bonds couplings planes other own c b n lawful chosen (omega arith) others same in
    let counted = plane-counted couplings planes other c n b (plane_at own n).words lawful chosen (omega arith) others (ap (λ (p : Plane). p.words) (same n (omega arith))) in
    let more = planes-more couplings other c n b own own (λ k below. refl) in
    let T : ℕ → Type 0 = λ m. unsatisfied_from l (bonds_of couplings b) (spins_of l b planes) c (m * h) ≡ planes_count couplings other c own b m in
    subst T (sym place) (counted ∙ ap (λ m. m + plane_count couplings other c n (plane_at own n).words b h) before ∙ sym more)

-- those of colour 1, by the planes of colour 0 before them
pub second-bonds : (couplings : CouplingsView) (first second : List Plane) (b : ℕ) → IsLawfulSize couplings.size → length first ≡ couplings.size
    → unsatisfied_from couplings.size (bonds_of couplings b) (spins_of couplings.size b (first ++ second)) 1 (couplings.size * half_plane couplings.size) ≡ planes_count couplings first 1 second b couplings.size
second-bonds couplings first second b lawful long =
    let l = couplings.size in
    let planes = first ++ second in
    planes-bonds couplings planes first second 1 b l lawful (omega arith) (omega arith)
    (λ z below.
    let place : z ≡ (1 - 1) * l + z = omega arith in
    sym (get_or_append_left first second no_plane z (omega arith)) ∙ ap (plane_at planes) place)
    (λ z below.
    let rest : l + z - l ≡ z = omega arith in
    let place : l + z ≡ 1 * l + z = omega arith in
    sym (get_or-append_right first second l (l + z) no_plane long (omega arith) ∙ ap (plane_at second) rest) ∙ ap (plane_at planes) place)
