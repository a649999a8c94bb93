-- The words of couplings as they are kept: plane by plane of a colour and direction, and behind each plane a cache line
-- is free, so that planes of whole pages don't all begin in one set of the cache. Before and behind all planes words are
-- free too, so that where the list is a block of its own pages each plane begins at a cache line.
use Rattle.std.specs.Prelude.{ℕ, ◌+◌, ◌*◌, ◌/◌, List, slice_index}
use Rattle.spin_model.specs.Lattice.{bond_count, half_plane}
use Rattle.spin_model.specs.Steps.{table}
use Rattle.coupling_set.specs.CouplingWords.{CouplingsView, words_on}

-- the words of a cache line, 64 bytes, which are free behind each plane
abbrev pub free_words : ℕ
free_words = 8

-- the words that are free before all planes: with the 16 bytes that the heap keeps before a block they are a cache line
abbrev pub head_words : ℕ
head_words = 6

-- and behind all planes: 128 kilobytes, from which on the heap gives a block pages of its own
abbrev pub tail_words : ℕ
tail_words = 16384

-- where word n of the bonds is kept: the free words of the n div (L * (L / 2)) planes before it are passed over
abbrev pub kept_place : ℕ → ℕ → ℕ
kept_place l n = head_words + n + free_words * (n / half_plane l)

-- the number of the plane of direction d, colour c and coordinate z among all
abbrev pub plane_number : ℕ → ℕ → ℕ → ℕ → ℕ
plane_number l d c z = (2 * d + c) * l + z

-- the number of words that are kept: in 6 L planes, L for each of three directions and two colours, with all free words
abbrev pub kept_count : ℕ → ℕ
kept_count l = head_words + 6 * l * (half_plane l + free_words) + tail_words

-- the couplings whose words are kept in a list; what its free words are doesn't matter
abbrev pub kept_on : ℕ → List ℕ → CouplingsView
kept_on l kept = words_on l (table (λ n. slice_index kept (kept_place l n)) (bond_count l))
