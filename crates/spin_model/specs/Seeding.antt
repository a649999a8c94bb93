-- The words that a labelled generator begins with: digests by SHA-256 (FIPS 180-4) of the seed and the label.
use Rattle.std.specs.Prelude.{ℕ, ◌+◌, ◌*◌, List, ◌++◌, take, flat_map}
use Rattle.byteorder.specs.Endian.{big_bytes}
use Rattle.sha2.specs.Sha256.{sha256, word_at}
use Rattle.spin_model.specs.Steps.{table}

-- what is digested for block j: the seed in 8 bytes, then the label's four parts and j in 4 bytes each, all big-endian
unfoldable pub block_message : ℕ → ℕ → ℕ → ℕ → ℕ → ℕ → List ℕ
block_message seed kind a b c j =
    big_bytes 8 seed ++ big_bytes 4 kind ++ big_bytes 4 a ++ big_bytes 4 b ++ big_bytes 4 c ++ big_bytes 4 j

-- the eight big-endian words of a digest
abbrev pub digest_words : List ℕ → List ℕ
digest_words digest = table (λ n. word_at digest (4 * n)) 8

-- the first 61 words of the eight blocks, block 0 first
unfoldable pub seeded : ℕ → ℕ → ℕ → ℕ → ℕ → List ℕ
seeded seed kind a b c =
    take 61 (flat_map (λ j. digest_words (sha256 (block_message seed kind a b c j))) (table (λ j. j) 8))

-- The kinds of label, and what the parts a, b, c of each are.

-- the sweeps of one checkerboard colour in one plane z, of a temperature slot and replica
abbrev pub sweep_words : ℕ → ℕ → ℕ → ℕ → ℕ → List ℕ
sweep_words seed slot replica colour z = seeded seed 1 slot (2 * replica + colour) z

-- the exchanges of a temperature pair in one replica; a bank is 64 disorder samples
abbrev pub exchange_words : ℕ → ℕ → ℕ → ℕ → List ℕ
exchange_words seed pair replica bank = seeded seed 2 pair replica bank

-- the couplings of a disorder sample
abbrev pub coupling_words : ℕ → ℕ → List ℕ
coupling_words seed sample = seeded seed 3 sample 0 0

-- the random start of a temperature slot and replica
abbrev pub start_words : ℕ → ℕ → ℕ → ℕ → List ℕ
start_words seed slot replica bank = seeded seed 4 slot replica bank

-- the sweeps of one checkerboard colour in one plane z of the Potts glass
abbrev pub potts_sweep_words : ℕ → ℕ → ℕ → List ℕ
potts_sweep_words seed colour z = seeded seed 5 colour z 0

-- the random start of the Potts glass
abbrev pub potts_start_words : ℕ → List ℕ
potts_start_words seed = seeded seed 6 0 0 0
