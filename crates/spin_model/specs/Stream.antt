-- The shift register of Parisi and Rapuano (Phys. Lett. B 157, 301 (1985)): 61 words of 32 bits, then each word the
-- sum of the words 24 and 55 before it, and each random number a word xor the word 61 before it.
use Rattle.std.specs.Prelude.{ℕ, zero, suc, ◌+◌, List, [], ◌∷◌, ◌++◌, drop, bit_xor, slice_index}
use Rattle.spin_model.specs.Words.{word_sum}
use Rattle.spin_model.specs.Steps.{table}

-- a window of 61 words of the stream, one word further: the new word is 24 behind place 37 and 55 behind place 6
abbrev pub shifted : List ℕ → List ℕ
shifted window = drop 1 window ++ word_sum (slice_index window 37) (slice_index window 6) ∷ []

-- the words n to n + 60 of the stream that begins with the 61 words w: its state after n random numbers
unfoldable pub advanced : List ℕ → ℕ → List ℕ
advanced w zero = w
advanced w (suc n) = shifted (advanced w n)

-- word k of the stream, from 0
abbrev pub stream_word : List ℕ → ℕ → ℕ
stream_word w k = slice_index (advanced w k) 0

-- random number n of the stream, from 0
abbrev pub draw : List ℕ → ℕ → ℕ
draw w n = bit_xor (stream_word w (61 + n)) (stream_word w n)

-- the first n random numbers
abbrev pub draws : List ℕ → ℕ → List ℕ
draws w n = table (draw w) n
