-- Numbers of 64 samples at many places, in planes, and lines of them.
use Rattle.std.specs.Prelude.{ℕ, List, [], slice_index_or}
use Rattle.multispin_word.specs.Planes.{number}
use Rattle.local_rule.specs.SiteBits.{lane_words}
use Rattle.plane_sums.specs.declared.counts.Counts.{Counts}

-- the number of sample b at place k, whose bit w is in word k of plane w
abbrev pub count_at : List (List ℕ) → ℕ → ℕ → ℕ
count_at planes k b = number (lane_words planes k) b

-- and in line j
abbrev pub line_at : {W : ℕ} → List (Counts W) → ℕ → List (List ℕ)
line_at lines j = (slice_index_or lines j (record { planes = [] })).planes
