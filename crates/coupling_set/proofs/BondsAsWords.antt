-- Couplings are the words that their bonds make.
use Rattle.std.proofs.Common.{inl, inr, ◌≡◌, ℕ, zero, suc, ◌+◌, ◌-◌, ◌*◌, ◌/◌, ◌%◌, ◌^◌, ◌<◌, Bool, true, false, ◌==◌, slice_index, get_or, ap, refl, sym, ◌∙◌, arith}
use Rattle.std.proofs.Math.Nat.{pow-suc}
use Rattle.std.proofs.lemmas.Bool.{cases_lt}
use Rattle.std.proofs.lemmas.List.Elements.{All-get_or}
use Rattle.std.proofs.lemmas.Nat.{div_below, div-add-mod', mod_below}
use Rattle.std.proofs.lemmas.Nat.Bits.{bit_at_cat_low, bit_at_cat_high, same_from_bits_below}
use Rattle.std.specs.Int.{bit_at}
use Rattle.spin_model.specs.Words.{is_set, one_if}
use Rattle.spin_model.specs.Couplings.{Bonds}
use Rattle.spin_model.specs.Lattice.{IsLawfulSize, volume, bond_count, from_compact}
use Rattle.spin_model.proofs.CompactOrder.{compact-from_compact, from_compact-below}
use Rattle.spin_model.proofs.Tables.{table-same, table-of_items}
use Rattle.multispin_word.proofs.Bits.{one_if-is_set}
use Rattle.coupling_set.specs.CouplingWords.{CouplingsView, AreCouplings, HasBonds, place_of, words_on}
use Rattle.coupling_set.specs.BondsAsWords.{word_of, bond_at, couplings_with}

-- ---- one word

one_if-bit : (t : Bool) → bit_at (one_if t) 0 ≡ one_if t
one_if-bit true = refl
one_if-bit false = refl

one_if-add : (t : Bool) (power rest : ℕ) → rest < power → one_if t * power + rest < power * 2
one_if-add true power rest below = omega arith
one_if-add false power rest below = omega arith

word_of-below : (test : ℕ → Bool) (n : ℕ) → word_of test n < 2 ^ n
unfolding word_of
word_of-below test zero = search arith
word_of-below test (suc n) =
    rw (pow-suc 2 n) (one_if-add (test n) (2 ^ n) (word_of test n) (word_of-below test n))

word_of-bit : (test : ℕ → Bool) (n b : ℕ) → b < n → bit_at (word_of test n) b ≡ one_if (test b)
unfolding word_of
word_of-bit test zero b below = absurd (omega arith)
word_of-bit test (suc n) b below =
    elim (cases_lt b n) [
      | inl less ↦ bit_at_cat_low (one_if (test n)) n (word_of test n) b less ∙ word_of-bit test n b less
      | inr not ↦
          let last : n ≡ b = omega arith in
          let low : b - n ≡ 0 = omega arith in
          bit_at_cat_high (one_if (test n)) n (word_of test n) b (word_of-below test n) (omega arith)
          ∙ ap (bit_at (one_if (test n))) low ∙ one_if-bit (test n) ∙ ap (λ k. one_if (test k)) last
    ]

-- a word of n bits is the word of what its bits are
pub word-of_bits : (test : ℕ → Bool) (n word : ℕ) → word < 2 ^ n → ((b : ℕ) → b < n → is_set word b ≡ test b) → word ≡ word_of test n
word-of_bits test n word small same =
    same_from_bits_below n word (word_of test n) small (word_of-below test n)
    (λ b below. sym (one_if-is_set word b) ∙ ap one_if (same b below) ∙ sym (word_of-bit test n b below))

set-one_if : (t : Bool) → (one_if t == 1) ≡ t
set-one_if true = refl
set-one_if false = refl

-- and its bits are those of the test
pub is_set-word_of : (test : ℕ → Bool) (n b : ℕ) → b < n → is_set (word_of test n) b ≡ test b
is_set-word_of test n b below = ap (λ bit. bit == 1) (word_of-bit test n b below) ∙ set-one_if (test b)

-- tests that agree make one word
pub word_of-same : (f g : ℕ → Bool) (n : ℕ) → ((b : ℕ) → b < n → f b ≡ g b) → word_of f n ≡ word_of g n
unfolding word_of
word_of-same f g zero same = refl
word_of-same f g (suc n) same =
    let last = same n (omega arith) in
    let before = word_of-same f g n (λ b below. same b (omega arith)) in
    rw (last, before) refl

-- ---- all words

-- the place of the bond that stands at a place
place_of-bond_at : (l place : ℕ) → IsLawfulSize l → place < bond_count l → place_of l (bond_at l place / 3) (bond_at l place % 3) ≡ place
place_of-bond_at l place lawful within =
    let some : 0 < volume l = omega (arith, within) in
    let direction : place / volume l < 3 = div_below place (volume l) 3 some within in
    let column : place % volume l < volume l = mod_below place (volume l) some in
    let site : bond_at l place / 3 ≡ from_compact l (place % volume l) = omega arith in
    let which : bond_at l place % 3 ≡ place / volume l = omega arith in
    let back = compact-from_compact l (place % volume l) lawful column in
    let parts = div-add-mod' place (volume l) in
    rw (site, which, back) parts

bond_at-below : (l place : ℕ) → IsLawfulSize l → place < bond_count l → bond_at l place < bond_count l
bond_at-below l place lawful within =
    let some : 0 < volume l = omega (arith, within) in
    let direction : place / volume l < 3 = div_below place (volume l) 3 some within in
    let site = from_compact-below l (place % volume l) lawful in
    omega arith

pub couplings-with_bonds : (couplings : CouplingsView) (bonds : ℕ → Bonds) → AreCouplings couplings → HasBonds couplings bonds
    → couplings ≡ couplings_with couplings.size bonds
unfolding couplings_with
couplings-with_bonds couplings bonds are has =
    let l = couplings.size in
    let word = λ (place : ℕ). word_of (λ b. bonds b (bond_at l place)) 64 in
    ap (words_on l) (table-of_items word (bond_count l) 0 couplings.words are.sized (λ place below.
    let bit = λ (b : ℕ) (h : b < 64).
    ap (λ k. is_set (slice_index couplings.words k) b) (sym (place_of-bond_at l place are.lawful below))
    ∙ has b (bond_at l place) h (bond_at-below l place are.lawful below) in
    word-of_bits (λ b. bonds b (bond_at l place)) 64 (get_or couplings.words place 0)
    (All-get_or (λ w. w < 2 ^ 64) couplings.words place 0 (omega (arith, are.sized, below)) are.in_range) bit))

-- bonds that agree on the lattice are the same couplings
pub couplings_with-same : (l : ℕ) (f g : ℕ → Bonds) → IsLawfulSize l → ((b n : ℕ) → b < 64 → n < bond_count l → f b n ≡ g b n)
    → couplings_with l f ≡ couplings_with l g
unfolding couplings_with
couplings_with-same l f g lawful same =
    ap (words_on l) (table-same (λ place. word_of (λ b. f b (bond_at l place)) 64) (λ place. word_of (λ b. g b (bond_at l place)) 64) (bond_count l)
    (λ place within. word_of-same (λ b. f b (bond_at l place)) (λ b. g b (bond_at l place)) 64
    (λ b small. same b (bond_at l place) small (bond_at-below l place lawful within))))
