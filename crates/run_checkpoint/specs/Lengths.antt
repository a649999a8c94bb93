-- How many bytes the parts of a checkpoint take.
use Rattle.std.specs.Prelude.{ℕ, ◌+◌, ◌-◌, ◌*◌, length}
use Rattle.scalar_rule.specs.Plan.{Plan, slots_of}
use Rattle.spin_model.specs.Lattice.{half_plane}
use Rattle.run_checkpoint.specs.Kinds.{Standing, Level, Uneven}

-- the 61 words of a generator
abbrev pub generator_len : ℕ
generator_len = 244

-- a plane, a replica and a slot of the lattice of side l
unfoldable pub plane_len : ℕ → ℕ
plane_len l = generator_len + 8 * half_plane l

unfoldable pub replica_len : ℕ → ℕ
replica_len l = 64 + plane_len l * (2 * l)

unfoldable pub slot_len : ℕ → ℕ
slot_len l = 2 * replica_len l

abbrev pub pair_len : ℕ
pair_len = 488

-- n slots and their pairs
unfoldable pub contents_len : ℕ → ℕ → ℕ
contents_len l n = slot_len l * n + pair_len * (n - 1)

-- the whole checkpoint
unfoldable pub encoding_len : ℕ → ℕ → ℕ
encoding_len l n = 56 + contents_len l n + 32

-- the longest of them: at side 64 with 32 slots
abbrev pub longest_encoding : ℕ
longest_encoding = 136235888

-- the longest checkpoint, of four banks: four times that, with 12 bytes before and a digest of 32 behind
abbrev pub longest_checkpoint : ℕ
longest_checkpoint = 544943596

-- a position and a record
abbrev pub position_len : ℕ
position_len = 9

abbrev pub record_len : ℕ
record_len = 14

-- the checkpoint of slots at different epochs with so many records
unfoldable pub uneven_len : ℕ → ℕ → ℕ → ℕ
uneven_len l n count = 64 + position_len * n + contents_len l n + record_len * count + 32

-- that of a bank
abbrev pub standing_len : Plan → Standing → ℕ
standing_len plan (Level epoch) = encoding_len plan.size (slots_of plan)
standing_len plan (Uneven samples every positions pending) = uneven_len plan.size (slots_of plan) (length pending)
