-- A word of 64 bits from two of 32, and its two halves.
use Rattle.std.proofs.Common.{inl, inr, ◌≡◌, ℕ, ◌+◌, ◌-◌, ◌*◌, ◌/◌, ◌%◌, ◌^◌, ◌<◌, ◌==◌, List, [], ◌∷◌, get_or, refl, sym, ap, ◌∙◌, arith}
use Rattle.std.proofs.lemmas.Bool.{cases_lt}
use Rattle.std.proofs.lemmas.Nat.{shl_whole, div-add-mod'}
use Rattle.std.proofs.lemmas.Nat.Bits.{bit_at_cat_low, bit_at_cat_high}
use Rattle.std.specs.Int.{bit_at}
use Rattle.spin_model.specs.Words.{is_set}

pub is_set-joined : (low high b : ℕ) → low < 2 ^ 32 → high < 2 ^ 32 → b < 64 → is_set (high * 2 ^ 32 % 2 ^ 64 + low) b ≡ is_set (get_or (low ∷ high ∷ []) (b / 32) 0) (b % 32)
is_set-joined low high b low_fits high_fits below =
    let whole = shl_whole high 32 32 64 high_fits (omega arith) in
    ap (λ w. is_set (w + low) b) whole ∙ elim (cases_lt b 32) [
      | inl less ↦
          let word : b / 32 ≡ 0 = omega arith in
          let place : b % 32 ≡ b = omega arith in
          ap (λ n. n == 1) (bit_at_cat_low high 32 low b less) ∙ rw (word, place) refl
      | inr more ↦
          let word : b / 32 ≡ 1 = omega arith in
          let place : b % 32 ≡ b - 32 = omega arith in
          ap (λ n. n == 1) (bit_at_cat_high high 32 low b low_fits (omega arith)) ∙ rw (word, place) refl
    ]

-- one of two neighbours in a list
pub half-of_pair : (xs : List ℕ) (n b : ℕ) → b < 64 → get_or (get_or xs n 0 ∷ get_or xs (n + 1) 0 ∷ []) (b / 32) 0 ≡ get_or xs (n + b / 32) 0
half-of_pair xs n b below = elim (cases_lt b 32) [
  | inl less ↦
      let word : b / 32 ≡ 0 = omega arith in
      let place : n + 0 ≡ n = omega arith in
      rw (word, place) refl
  | inr more ↦
      let word : b / 32 ≡ 1 = omega arith in
      rw word refl
]

-- the low half of a word has its first 32 samples
pub is_set-low : (w b : ℕ) → b < 32 → is_set (w % 2 ^ 32) b ≡ is_set w b
is_set-low w b less =
    let cut = bit_at_cat_low (w / 2 ^ 32) 32 (w % 2 ^ 32) b less in
    ap (λ n. n == 1) (sym cut ∙ ap (λ v. bit_at v b) (div-add-mod' w (2 ^ 32)))

-- and the high half the others
pub is_set-high : (w b : ℕ) → is_set (w / 2 ^ 32) b ≡ is_set w (32 + b)
is_set-high w b =
    let cut = bit_at_cat_high (w / 2 ^ 32) 32 (w % 2 ^ 32) (32 + b) (omega arith) (omega arith) in
    let place : 32 + b - 32 ≡ b = omega arith in
    ap (λ n. n == 1) (sym (cut ∙ ap (bit_at (w / 2 ^ 32)) place) ∙ ap (λ v. bit_at v (32 + b)) (div-add-mod' w (2 ^ 32)))

-- what holds of each half's samples holds of all 64
pub by_halves : (P : ℕ → Type 0) → ((b : ℕ) → b < 32 → P b) → ((b : ℕ) → b < 32 → P (32 + b)) → (b : ℕ) → b < 64 → P b
by_halves P low high b below = elim (cases_lt b 32) [
  | inl less ↦ low b less
  | inr more ↦
      let place : 32 + (b - 32) ≡ b = omega arith in
      rw (← place) (high (b - 32) (omega arith))
]
