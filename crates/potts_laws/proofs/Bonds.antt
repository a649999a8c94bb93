-- What another colour at one site does to the bonds: the six of the site may change, all others stay.
use Rattle.std.proofs.Common.{inl, inr, ◌≡◌, ◌≢◌, ℕ, zero, suc, ◌+◌, ◌-◌, ◌*◌, ◌/◌, ◌%◌, ◌<◌, Bool, true, false, not, ◌==◌, ◌&&◌, if◌then◌else◌, List, length, get_or, set, refl, ap, sym, ◌∙◌, arith}
use Rattle.std.specs.Prelude.{pos, ◌+ℤ◌}
use Rattle.std.proofs.lemmas.Bool.{cases_lt, cases_eq, eq-eqb, lt-ltb, le-ltb}
use Rattle.std.proofs.lemmas.Int.{ints}
use Rattle.std.proofs.lemmas.List.{get_or-set_same, get_or-set_other}
use Rattle.spin_model.specs.Words.{one_if}
use Rattle.spin_model.specs.Couplings.{Bonds}
use Rattle.spin_model.specs.Lattice.{IsLawfulSize, volume, bond_count, bond, colour as class, forward, backward}
use Rattle.spin_model.specs.Steps.{count_below}
use Rattle.spin_model.proofs.Colours.{colour-forward, colour-backward, differs}
use Rattle.spin_model.proofs.Counts.{count-same}
use Rattle.scalar_rule.proofs.FiniteSums.{ArePermutation}
use Rattle.scalar_rule.proofs.Shifts.{shift-x, shift-y, shift-z}
use Rattle.potts_glass.specs.Potts.{Dynamics, Surroundings, favours, votes, neighbour, joint, around, is_equal, is_raising, is_lowering, energy}
use Rattle.potts_laws.specs.Changes.{changed}
use Rattle.potts_laws.proofs.Counts.{unequal, count-split, count-places}

-- ---- the six neighbours and their bonds

undoing : (l d : ℕ) → 0 < l → d < 3 → ArePermutation (λ j. forward l j d) (λ j. backward l j d) (volume l)
undoing l zero some small = shift-x l some
undoing l (suc zero) some small = shift-y l some
undoing l (suc (suc zero)) some small = shift-z l some
undoing l (suc (suc (suc n))) some small = absurd (omega arith)

joint-ahead : (l i k : ℕ) → k < 3 → joint l i k ≡ 3 * i + k
joint-ahead l i k less = ap (λ t. if t then bond i k else bond (backward l i (k - 3)) (k - 3)) (lt-ltb k 3 less)

joint-behind : (l i k d : ℕ) → k ≡ d + 3 → joint l i k ≡ 3 * backward l i d + d
joint-behind l i k d more =
    let back : k - 3 ≡ d = omega arith in
    ap (λ t. if t then bond i k else bond (backward l i (k - 3)) (k - 3)) (le-ltb k 3 (omega arith)) ∙ ap (λ n. bond (backward l i n) n) back

neighbour-ahead : (l i k : ℕ) → k < 3 → neighbour l i k ≡ forward l i k
neighbour-ahead l i k less = ap (λ t. if t then forward l i k else backward l i (k - 3)) (lt-ltb k 3 less)

neighbour-behind : (l i k d : ℕ) → k ≡ d + 3 → neighbour l i k ≡ backward l i d
neighbour-behind l i k d more =
    let back : k - 3 ≡ d = omega arith in
    ap (λ t. if t then forward l i k else backward l i (k - 3)) (le-ltb k 3 (omega arith)) ∙ ap (backward l i) back

-- a site is none of its own neighbours
forward-other : (l i d : ℕ) → IsLawfulSize l → i < volume l → forward l i d ≢ i
forward-other l i d lawful within same = differs _ _ (colour-forward l i d lawful within) (ap (class l) same)

backward-other : (l i d : ℕ) → IsLawfulSize l → i < volume l → backward l i d ≢ i
backward-other l i d lawful within same = differs _ _ (colour-backward l i d lawful within) (ap (class l) same)

pub neighbour-other : (l i k : ℕ) → IsLawfulSize l → i < volume l → neighbour l i k ≢ i
neighbour-other l i k lawful within same = elim (cases_lt k 3) [
  | inl less ↦ forward-other l i k lawful within (sym (neighbour-ahead l i k less) ∙ same)
  | inr more ↦ backward-other l i (k - 3) lawful within (sym (neighbour-behind l i k (k - 3) (omega arith)) ∙ same)
]

joint-within : (l i : ℕ) → IsLawfulSize l → i < volume l → (k : ℕ) → k < 6 → joint l i k < bond_count l
joint-within l i lawful within k six = elim (cases_lt k 3) [
  | inl less ↦ let e = joint-ahead l i k less in omega arith
  | inr more ↦
      let e = joint-behind l i k (k - 3) (omega arith) in
      let b = (undoing l (k - 3) (omega arith) (omega arith)).back i within in
      omega arith
]

joints-apart : (l i : ℕ) → IsLawfulSize l → i < volume l → (j k : ℕ) → j < k → k < 6 → joint l i j ≢ joint l i k
joints-apart l i lawful within j k order six same = elim (cases_lt k 3) [
  | inl less ↦
      let e = joint-ahead l i k less in
      let f = joint-ahead l i j (omega arith) in
      absurd (omega arith)
  | inr more ↦
      let e = joint-behind l i k (k - 3) (omega arith) in
      elim (cases_lt j 3) [
        | inl near ↦
            let f = joint-ahead l i j near in
            let reached : backward l i (k - 3) ≡ i = omega arith in
            backward-other l i (k - 3) lawful within reached
        | inr far ↦
            let f = joint-behind l i j (j - 3) (omega arith) in
            absurd (omega arith)
      ]
]

-- ---- the bonds of the site

-- colours are equal whichever is named first
other-way : (x y : ℕ) → (x == y) ≡ (y == x)
other-way x y = elim (cases_eq x y) [
  | inl same ↦ eq-eqb x y same ∙ sym (eq-eqb y x (sym same))
  | inr other ↦ unequal x y other ∙ sym (unequal y x (λ e. other (sym e)))
]

-- the two ends of bond n
abbrev ends : ℕ → List ℕ → ℕ → ℕ → Bool
ends l colours s d = get_or colours s 0 == get_or colours (forward l s d) 0

ends-of : (l : ℕ) (colours : List ℕ) (n s d : ℕ) → d < 3 → n ≡ 3 * s + d → is_equal l colours n ≡ ends l colours s d
ends-of l colours n s d small here =
    let site : n / 3 ≡ s = omega arith in
    let direction : n % 3 ≡ d = omega arith in
    ap (λ t. ends l colours t (n % 3)) site ∙ ap (ends l colours s) direction

-- a bond of the site joins equal colours where the neighbour has the site's
at-joint : (l : ℕ) (colours : List ℕ) (i k c : ℕ) → IsLawfulSize l → i < volume l → k < 6 → get_or colours i 0 ≡ c
    → is_equal l colours (joint l i k) ≡ (get_or colours (neighbour l i k) 0 == c)
at-joint l colours i k c lawful within six here = elim (cases_lt k 3) [
  | inl less ↦
      ends-of l colours (joint l i k) i k less (joint-ahead l i k less)
      ∙ other-way (get_or colours i 0) (get_or colours (forward l i k) 0)
      ∙ ap (λ x. get_or colours (forward l i k) 0 == x) here
      ∙ ap (λ s. get_or colours s 0 == c) (sym (neighbour-ahead l i k less))
  | inr more ↦
      let d = k - 3 in
      let next_to : k ≡ d + 3 = omega arith in
      let round = (undoing l d (omega arith) (omega arith)).redone i within in
      ends-of l colours (joint l i k) (backward l i d) d (omega arith) (joint-behind l i k d next_to)
      ∙ ap (λ s. get_or colours (backward l i d) 0 == get_or colours s 0) round
      ∙ ap (λ x. get_or colours (backward l i d) 0 == x) here
      ∙ ap (λ s. get_or colours s 0 == c) (sym (neighbour-behind l i k d next_to))
]

-- all others stay
off-joints : (l : ℕ) (colours : List ℕ) (i c : ℕ) → IsLawfulSize l → i < volume l → (n : ℕ) → n < bond_count l → ((k : ℕ) → k < 6 → n ≢ joint l i k)
    → is_equal l (changed colours i c) n ≡ is_equal l colours n
off-joints l colours i c lawful within n below apart =
    let s = n / 3 in
    let d = n % 3 in
    let small : d < 3 = omega arith in
    let place : n ≡ 3 * s + d = omega arith in
    let not_here : s ≢ i = λ e. let t : n ≡ 3 * i + d = omega arith in apart d (omega arith) (t ∙ sym (joint-ahead l i d small)) in
    let not_there : forward l s d ≢ i = λ e.
    let t : s ≡ backward l i d = sym ((undoing l d (omega arith) small).undone s (omega arith)) ∙ ap (λ j. backward l j d) e in
    let at : n ≡ 3 * backward l i d + d = omega arith in
    apart (d + 3) (omega arith) (at ∙ sym (joint-behind l i (d + 3) d refl)) in
    ap (λ x. x == get_or (set colours i c) (forward l s d) 0) (get_or-set_other colours i s c 0 not_here)
    ∙ ap (λ x. get_or colours s 0 == x) (get_or-set_other colours i (forward l s d) c 0 not_there)

-- ---- what the site adds to the energy with a colour: its raising and its lowering bonds

abbrev raised : Surroundings → ℕ → ℕ
raised around c = count_below (λ k. around.negative k && (around.colour k == c)) 6

abbrev lowered : Surroundings → ℕ → ℕ
lowered around c = count_below (λ k. not (around.negative k) && (around.colour k == c)) 6

voted : (n e f : Bool) → one_if (if n then f else e) ≡ one_if (not n && e) + one_if (n && f)
voted true e true = refl
voted true e false = refl
voted false true f = refl
voted false false f = refl

votes-parts : (around : Surroundings) (c other : ℕ) → votes around c other ≡ lowered around c + raised around other
votes-parts around c other =
    count-split (favours around c other) (λ k. not (around.negative k) && (around.colour k == c)) (λ k. around.negative k && (around.colour k == other)) 6
    (λ k. voted (around.negative k) (around.colour k == c) (around.colour k == other))

-- a count of equal bonds of one sign, by a test m of the bond
sign-changed : (m : Bool → Bool) (l : ℕ) (bonds : Bonds) (colours : List ℕ) (i c : ℕ) → IsLawfulSize l → length colours ≡ volume l → i < volume l
    → count_below (λ n. m (bonds n) && is_equal l (changed colours i c) n) (bond_count l)
    + count_below (λ k. m (bonds (joint l i k)) && (get_or colours (neighbour l i k) 0 == get_or colours i 0)) 6
    ≡ count_below (λ n. m (bonds n) && is_equal l colours n) (bond_count l)
    + count_below (λ k. m (bonds (joint l i k)) && (get_or colours (neighbour l i k) 0 == c)) 6
sign-changed m l bonds colours i c lawful sized within =
    let new : ℕ → Bool = λ n. m (bonds n) && is_equal l (changed colours i c) n in
    let old : ℕ → Bool = λ n. m (bonds n) && is_equal l colours n in
    let all = count-places new old (joint l i) 6 (bond_count l) (joint-within l i lawful within) (joints-apart l i lawful within)
    (λ n below apart. ap (λ e. m (bonds n) && e) (off-joints l colours i c lawful within n below apart)) in
    let before = count-same (λ k. old (joint l i k)) (λ k. m (bonds (joint l i k)) && (get_or colours (neighbour l i k) 0 == get_or colours i 0)) 6
    (λ k six. ap (λ e. m (bonds (joint l i k)) && e) (at-joint l colours i k (get_or colours i 0) lawful within six refl)) in
    let after = count-same (λ k. new (joint l i k)) (λ k. m (bonds (joint l i k)) && (get_or colours (neighbour l i k) 0 == c)) 6
    (λ k six. ap (λ e. m (bonds (joint l i k)) && e) (at-joint l (changed colours i c) i k c lawful within six (get_or-set_same colours i c 0 (omega arith))
    ∙ ap (λ x. x == c) (get_or-set_other colours i (neighbour l i k) c 0 (neighbour-other l i k lawful within)))) in
    omega arith

-- the change of the two counts, by votes
pub record IsChange (l : ℕ) (bonds : Bonds) (colours : List ℕ) (i c : ℕ) : Type 0 where
  pub balance : count_below (is_raising l bonds (changed colours i c)) (bond_count l) + count_below (is_lowering l bonds colours) (bond_count l)
      + votes (around l bonds colours i) c (get_or colours i 0)
      ≡ count_below (is_raising l bonds colours) (bond_count l) + count_below (is_lowering l bonds (changed colours i c)) (bond_count l)
      + votes (around l bonds colours i) (get_or colours i 0) c

pub change : (l : ℕ) (bonds : Bonds) (colours : List ℕ) (i c : ℕ) → IsLawfulSize l → length colours ≡ volume l → i < volume l → IsChange l bonds colours i c
change l bonds colours i c lawful sized within =
    let up = sign-changed (λ b. b) l bonds colours i c lawful sized within in
    let down = sign-changed not l bonds colours i c lawful sized within in
    let lost = votes-parts (around l bonds colours i) (get_or colours i 0) c in
    let won = votes-parts (around l bonds colours i) c (get_or colours i 0) in
    record { balance = omega arith }

pub gap-is-change : (d : Dynamics) (colours : List ℕ) (i c : ℕ) → IsLawfulSize d.size → length colours ≡ volume d.size → i < volume d.size
    → energy d.size d.bonds (changed colours i c) +ℤ pos (votes (around d.size d.bonds colours i) c (get_or colours i 0))
    ≡ energy d.size d.bonds colours +ℤ pos (votes (around d.size d.bonds colours i) (get_or colours i 0) c)
gap-is-change d colours i c lawful sized within = let e = (change d.size d.bonds colours i c lawful sized within).balance in omega (arith, ints)
