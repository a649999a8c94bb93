-- What holds of the stream and of the lattice, as the literature states it.
use Rattle.std.specs.Prelude.{ℕ, ◌≡◌, ◌≢◌, ◌+◌, ◌-◌, ◌<◌, ◌≤◌, List, length, slice_index}
use Rattle.spin_model.specs.Words.{word_sum}
use Rattle.spin_model.specs.Stream.{advanced, stream_word, draw}
use Rattle.spin_model.specs.Lattice.{IsLawfulSize, volume, colour, forward, backward}

-- the stream begins with its 61 words, and then each word is the sum of those 24 and 55 before it
abbrev pub StreamIsRecurrence : Type 0
StreamIsRecurrence = (w : List ℕ) (k : ℕ) → length w ≡ 61
    → (k < 61 → stream_word w k ≡ slice_index w k)
    × (61 ≤ k → stream_word w k ≡ word_sum (stream_word w (k - 24)) (stream_word w (k - 55)))

-- the state after n numbers is the words n to n + 60
abbrev pub StateIsWindow : Type 0
StateIsWindow = (w : List ℕ) (n i : ℕ) → length w ≡ 61 → i < 61 → slice_index (advanced w n) i ≡ stream_word w (n + i)

-- n numbers and then m more are n + m numbers
abbrev pub AdvancingAddsUp : Type 0
AdvancingAddsUp = (w : List ℕ) (n m : ℕ) → advanced (advanced w n) m ≡ advanced w (n + m)

-- the numbers of an advanced stream are the later numbers of the stream
abbrev pub DrawsOfAdvanced : Type 0
DrawsOfAdvanced = (w : List ℕ) (n m : ℕ) → draw (advanced w n) m ≡ draw w (n + m)

-- no neighbour of a site has the site's colour
abbrev pub NeighboursHaveOtherColour : Type 0
NeighboursHaveOtherColour = (l i d : ℕ) → IsLawfulSize l → i < volume l → d < 3
    → (colour l (forward l i d) ≢ colour l i) × (colour l (backward l i d) ≢ colour l i)
