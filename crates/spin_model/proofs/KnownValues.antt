-- Values that were worked out apart from this repository, so that a wrong rule in the definitions does not check.
use Rattle.std.proofs.Common.{◌≡◌, ℕ, ◌-◌, ◌^◌, List, [], ◌∷◌, true, false, replicate, refl}
use Rattle.std.specs.Prelude.{map, slice_index}
use Rattle.sha2.specs.Sha256.{first_words, schedule, rounds, compress, hash_after, digest_bytes, sha256}
use Rattle.spin_model.specs.Steps.{table}
use Rattle.spin_model.specs.Stream.{advanced, draw}
use Rattle.spin_model.specs.Seeding.{block_message, digest_words, seeded}
use Rattle.spin_model.specs.Lattice.{site_at, colour, forward, backward, compact, from_compact}
use Rattle.spin_model.specs.Couplings.{random}
use Rattle.spin_model.specs.SiteRule.{heat_bath, is_flipped}

-- the words 0, 1, .., 60
abbrev counting_words : List ℕ
counting_words = table (λ n. n) 61

-- 37 + 6 xor 0, 38 + 7 xor 1, 39 + 8 xor 2; draw 24 is the first whose sum has a new word, draw 0's 43: 43 + 30 xor 24
pub draws_of_counting_words : map (draw counting_words) (0 ∷ 1 ∷ 2 ∷ 23 ∷ 24 ∷ []) ≡ 43 ∷ 44 ∷ 45 ∷ 78 ∷ 81 ∷ []
unfolding table advanced
draws_of_counting_words = refl

-- the carry out of a word is dropped: 2 ^ 32 - 2, xor 2 ^ 32 - 1
pub first_draw_of_full_words : draw (replicate 61 4294967295) 0 ≡ 1
unfolding advanced
first_draw_of_full_words = refl

-- block 7 of seed 1, kind 1, a 2, b 3, c 5
pub last_block_message : block_message 1 1 2 3 5 7
    ≡ 0 ∷ 0 ∷ 0 ∷ 0 ∷ 0 ∷ 0 ∷ 0 ∷ 1 ∷ 0 ∷ 0 ∷ 0 ∷ 1 ∷ 0 ∷ 0 ∷ 0 ∷ 2 ∷ 0 ∷ 0 ∷ 0 ∷ 3 ∷ 0 ∷ 0 ∷ 0 ∷ 5 ∷ 0 ∷ 0 ∷ 0 ∷ 7 ∷ []
unfolding block_message
last_block_message = refl

-- its words, by Python's hashlib
pub last_block_words : digest_words (sha256 (block_message 1 1 2 3 5 7))
    ≡ 1535598519 ∷ 401932854 ∷ 1718571984 ∷ 4169811077 ∷ 3783325389 ∷ 3267069999 ∷ 516287719 ∷ 3420151590 ∷ []
unfolding table block_message first_words schedule rounds compress hash_after digest_bytes sha256
last_block_words = refl

-- at size 4
pub neighbours_at_size_4 : (forward 4 3 0 ≡ 0) × (backward 4 0 2 ≡ 48) × (forward 4 63 1 ≡ 51)
unfolding forward backward
neighbours_at_size_4 = (refl, refl, refl)

pub compact_order_at_size_4 : map (compact 4) (1 ∷ 17 ∷ 63 ∷ []) ≡ 32 ∷ 8 ∷ 63 ∷ []
unfolding compact
compact_order_at_size_4 = refl

-- words 0, 56 and 60 of that label: blocks 0 and 7, by hashlib
pub seeded_words : map (slice_index (seeded 1 1 2 3 5)) (0 ∷ 56 ∷ 60 ∷ 61 ∷ []) ≡ 3758691336 ∷ 1535598519 ∷ 3783325389 ∷ 0 ∷ []
unfolding table seeded block_message first_words schedule rounds compress hash_after digest_bytes sha256
seeded_words = refl

-- at size 6, by the formulas with pencil and paper: (5, 2, 3) is 125 and even, (4, 2, 3) is 124 and odd
pub sites_at_size_6 : (site_at 6 5 2 3 ≡ 125) × (forward 6 125 0 ≡ 120) × (backward 6 125 2 ≡ 89) × (backward 6 120 0 ≡ 125)
unfolding forward backward
sites_at_size_6 = (refl, refl, refl, refl)

pub compact_order_at_size_6 : (map (colour 6) (125 ∷ 124 ∷ []) ≡ 0 ∷ 1 ∷ []) × (map (compact 6) (125 ∷ 124 ∷ []) ≡ 62 ∷ 170 ∷ [])
    × (map (from_compact 6) (62 ∷ 170 ∷ []) ≡ 125 ∷ 124 ∷ [])
unfolding compact from_compact
compact_order_at_size_6 = (refl, refl, refl)

-- a draw equal to its threshold is not below it, threshold 0 is never and 2 ^ 32 is always
pub heat_bath_cases : map (heat_bath (0 ∷ 5 ∷ 2 ^ 32 ∷ []) 1) (4 ∷ 5 ∷ []) ≡ true ∷ false ∷ []
heat_bath_cases = refl

pub heat_bath_ends : (heat_bath (0 ∷ 5 ∷ 2 ^ 32 ∷ []) 0 0 ≡ false) × (heat_bath (0 ∷ 5 ∷ 2 ^ 32 ∷ []) 2 (2 ^ 32 - 1) ≡ true)
heat_bath_ends = (refl, refl)

-- at most three satisfied bonds always flip; four, five and six have the three thresholds
pub metropolis_cases : (map (λ k. is_flipped (0 ∷ 5 ∷ 2 ^ 32 ∷ []) k (2 ^ 32 - 1)) (0 ∷ 3 ∷ 4 ∷ 5 ∷ 6 ∷ []) ≡ true ∷ true ∷ false ∷ false ∷ true ∷ [])
    × (map (is_flipped (0 ∷ 5 ∷ 2 ^ 32 ∷ []) 5) (4 ∷ 5 ∷ []) ≡ true ∷ false ∷ [])
metropolis_cases = (refl, refl)

-- the top bits of the first twelve draws of seed 7, sample 5, by an independent program
pub random_couplings : map (random 7 5) (0 ∷ 1 ∷ 2 ∷ 3 ∷ 4 ∷ 5 ∷ 6 ∷ 7 ∷ 8 ∷ 9 ∷ 10 ∷ 11 ∷ [])
    ≡ true ∷ true ∷ true ∷ false ∷ false ∷ true ∷ true ∷ false ∷ false ∷ true ∷ false ∷ false ∷ []
unfolding table seeded block_message advanced random first_words schedule rounds compress hash_after digest_bytes sha256
random_couplings = refl
