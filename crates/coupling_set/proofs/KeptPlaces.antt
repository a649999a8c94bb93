-- Each bond's word is kept at a place of its own within the list, and read there.
use Rattle.std.proofs.Common.{◌≡◌, ℕ, ◌+◌, ◌*◌, ◌/◌, ◌%◌, ◌^◌, ◌<◌, false, List, length, get_or, replicate, All, ap, sym, ◌∙◌, arith}
use Rattle.std.proofs.Math.Nat.{mul_assoc, mul_comm}
use Rattle.std.proofs.lemmas.List.{get_or-replicate}
use Rattle.std.proofs.lemmas.List.Elements.{All-get_or, All-from_get_or}
use Rattle.std.proofs.lemmas.Nat.{mul-add-lt, div-mul-add, div-add-mod', mod_below, div_below, same_from_place}
use Rattle.spin_model.specs.Lattice.{IsLawfulSize, volume, bond_count, half_plane, compact}
use Rattle.spin_model.specs.Words.{is_set}
use Rattle.spin_model.proofs.CompactOrder.{compact-below}
use Rattle.spin_model.proofs.Tables.{length-table, get_or-table}
use Rattle.multispin_word.proofs.Bits.{is_set-zero}
use Rattle.coupling_set.specs.CouplingWords.{place_of, bond_word, bonds_of, AreCouplings}
use Rattle.coupling_set.specs.KeptWords.{free_words, head_words, kept_place, kept_count, kept_on}
use Rattle.coupling_set.proofs.Places.{half_plane-positive}

-- the words of a direction fill 2 L planes, and those of all bonds 6 L
pub volume-planes : (l : ℕ) → IsLawfulSize l → volume l ≡ 2 * l * half_plane l
volume-planes l lawful =
    let even : l ≡ l / 2 * 2 = omega arith in
    let square : l * l ≡ half_plane l * 2 = ap (λ m. l * m) even ∙ sym (mul_assoc l (l / 2) 2) in
    let cube : volume l ≡ l * (half_plane l * 2) = mul_assoc l l l ∙ ap (λ m. l * m) square in
    omega arith

bond_count-planes : (l : ℕ) → IsLawfulSize l → bond_count l ≡ 6 * l * half_plane l
bond_count-planes l lawful = let sites = volume-planes l lawful in omega arith

pub place-below : (l i d : ℕ) → IsLawfulSize l → i < volume l → d < 3 → place_of l i d < bond_count l
place-below l i d lawful within direction =
    let bound = mul-add-lt d (volume l) (compact l i) 3 direction (compact-below l i lawful within) in
    omega arith

-- word k of plane q
pub kept_place-in_plane : (l q k : ℕ) → k < half_plane l
    → kept_place l (q * half_plane l + k) ≡ head_words + (q * (half_plane l + free_words) + k)
kept_place-in_plane l q k within =
    let plane = div-mul-add q (half_plane l) k within in
    omega arith

-- a word by its plane and its place there
kept_place-parts : (l n : ℕ) → IsLawfulSize l → kept_place l n ≡ head_words + (n / half_plane l * (half_plane l + free_words) + n % half_plane l)
kept_place-parts l n lawful =
    ap (kept_place l) (sym (div-add-mod' n (half_plane l)))
    ∙ kept_place-in_plane l (n / half_plane l) (n % half_plane l) (mod_below n (half_plane l) (half_plane-positive l lawful))

pub kept_place-below : (l n : ℕ) → IsLawfulSize l → n < bond_count l → kept_place l n < kept_count l
kept_place-below l n lawful within =
    let positive = half_plane-positive l lawful in
    let planes = bond_count-planes l lawful in
    let plane : n / half_plane l < 6 * l = div_below n (half_plane l) (6 * l) positive (omega arith) in
    let column = mod_below n (half_plane l) positive in
    let bound = mul-add-lt (n / half_plane l) (half_plane l + free_words) (n % half_plane l) (6 * l) plane (omega arith) in
    let turned = mul_comm (half_plane l + free_words) (6 * l) in
    let parts = kept_place-parts l n lawful in
    omega arith

-- words at one place are one word
pub kept_place-same : (l m n : ℕ) → IsLawfulSize l → kept_place l m ≡ kept_place l n → m ≡ n
kept_place-same l m n lawful same =
    let positive = half_plane-positive l lawful in
    let m_column = mod_below m (half_plane l) positive in
    let n_column = mod_below n (half_plane l) positive in
    let parts = same_from_place (m / half_plane l) (m % half_plane l) (n / half_plane l) (n % half_plane l) (half_plane l + free_words)
    (omega arith) (omega arith) (omega (arith, sym (kept_place-parts l m lawful) ∙ same ∙ kept_place-parts l n lawful)) in
    sym (div-add-mod' m (half_plane l)) ∙ ap (λ q. q * half_plane l + m % half_plane l) parts.0
    ∙ ap (λ k. n / half_plane l * half_plane l + k) parts.1 ∙ div-add-mod' n (half_plane l)

-- the word of a bond is read where it is kept
pub kept-word : (l : ℕ) (kept : List ℕ) (i d : ℕ) → IsLawfulSize l → i < volume l → d < 3
    → bond_word (kept_on l kept) i d ≡ get_or kept (kept_place l (place_of l i d)) 0
kept-word l kept i d lawful within direction =
    get_or-table (λ n. get_or kept (kept_place l n) 0) (bond_count l) (place_of l i d) 0 (place-below l i d lawful within direction)

pub kept-bond : (l : ℕ) (kept : List ℕ) (b n : ℕ) → IsLawfulSize l → n < bond_count l
    → bonds_of (kept_on l kept) b n ≡ is_set (get_or kept (kept_place l (place_of l (n / 3) (n % 3))) 0) b
kept-bond l kept b n lawful within = ap (λ word. is_set word b) (kept-word l kept (n / 3) (n % 3) lawful (omega arith) (omega arith))

-- words of zeros have no bit
pub kept-zeros : (l b n : ℕ) → IsLawfulSize l → n < bond_count l → bonds_of (kept_on l (replicate (kept_count l) 0)) b n ≡ false
kept-zeros l b n lawful within =
    let below = kept_place-below l _ lawful (place-below l (n / 3) (n % 3) lawful (omega arith) (omega arith)) in
    kept-bond l _ b n lawful within ∙ ap (λ word. is_set word b) (get_or-replicate (kept_count l) _ 0 0 below) ∙ is_set-zero b

-- and words kept so are couplings
kept-in_range : (l : ℕ) (kept : List ℕ) → IsLawfulSize l → length kept ≡ kept_count l → All (λ word. word < 2 ^ 64) kept
    → All (λ word. word < 2 ^ 64) (kept_on l kept).words
kept-in_range l kept lawful sized small =
    let item : ℕ → ℕ = λ n. get_or kept (kept_place l n) 0 in
    All-from_get_or (λ word. word < 2 ^ 64) (kept_on l kept).words 0 (λ n below.
    let within : n < bond_count l = omega (arith, below, length-table item (bond_count l)) in
    let place = kept_place-below l n lawful within in
    rw (get_or-table item (bond_count l) n 0 within) (All-get_or (λ word. word < 2 ^ 64) kept (kept_place l n) 0 (omega arith) small))

pub kept-are_couplings : (l : ℕ) (kept : List ℕ) → IsLawfulSize l → length kept ≡ kept_count l → All (λ word. word < 2 ^ 64) kept
    → AreCouplings (kept_on l kept)
kept-are_couplings l kept lawful sized small = record {
  lawful = lawful;
  sized = length-table _ (bond_count l);
  in_range = kept-in_range l kept lawful sized small;
}
