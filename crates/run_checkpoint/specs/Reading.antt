-- What the bytes of a checkpoint say, part by part at its place.
use Rattle.std.specs.Prelude.{ℕ, ◌-◌, ◌*◌, List, map, take, drop}
use Rattle.byteorder.specs.Endian.{big_number}
pub use Rattle.glass_edges.specs.Numbers.{number_at}
pub use Rattle.glass_edges.specs.Sealed.{body_of, digest_of}
use Rattle.spin_model.specs.Lattice.{half_plane}
use Rattle.spin_model.specs.Steps.{table}
use Rattle.scalar_rule.specs.Plan.{Plan, slots_of}
use Rattle.scalar_rule.specs.declared.sample.PlainSlot.{PlainSlot}
use Rattle.plane_sweep.specs.Packed.{part_slot}
use Rattle.plane_sweep.specs.declared.replica.Plane.{Plane}
use Rattle.plane_sweep.specs.declared.replica.Replica.{Replica}
use Rattle.plane_sweep.specs.declared.replica.Duo.{Duo}
use Rattle.plane_sweep.specs.declared.stand.PairWheels.{PairWheels}
use Rattle.plane_sweep.specs.declared.stand.Stand.{Stand}
use Rattle.run_checkpoint.specs.Lengths.{plane_len, replica_len, slot_len}

-- so many bytes from a place on
abbrev pub piece : ℕ → ℕ → List ℕ → List ℕ
piece place len bytes = take len (drop place bytes)

-- n items of len bytes each, as `read` reads one
abbrev pub items_at : {A : Type 0} → (List ℕ → A) → ℕ → ℕ → List ℕ → List A
items_at read len n bytes = table (λ i. read (drop (len * i) bytes)) n

-- n words of w bytes each
abbrev pub words_at : ℕ → ℕ → List ℕ → List ℕ
words_at w n bytes = items_at (big_number w) w n bytes

unfoldable pub plane_in : ℕ → List ℕ → Plane
plane_in l bytes = record {
  words = words_at 8 (half_plane l) (piece 244 (8 * half_plane l) bytes);
  wheel = words_at 4 61 (piece 0 244 bytes);
}

unfoldable pub replica_in : ℕ → List ℕ → Replica
replica_in l bytes = record {
  planes = items_at (plane_in l) (plane_len l) (2 * l) (drop 64 bytes);
  labels = take 64 bytes;
}

unfoldable pub slot_in : ℕ → List ℕ → Duo
slot_in l bytes = record { first = replica_in l bytes; second = replica_in l (drop (replica_len l) bytes) }

unfoldable pub pair_in : List ℕ → PairWheels
pair_in bytes = record { first = words_at 4 61 (piece 0 244 bytes); second = words_at 4 61 (piece 244 244 bytes) }

-- n slots and the pairs behind them
unfoldable pub slots_in : ℕ → ℕ → List ℕ → List Duo
slots_in l n bytes = items_at (slot_in l) (slot_len l) n bytes

unfoldable pub pairs_in : ℕ → ℕ → List ℕ → List PairWheels
pairs_in l n bytes = items_at pair_in 488 (n - 1) (drop (slot_len l * n) bytes)

-- the slots of each sample
abbrev pub parts_in : ℕ → ℕ → List ℕ → ℕ → List PlainSlot
parts_in l n bytes b = map (part_slot l b) (slots_in l n bytes)

-- the packed state of the bytes behind the header
unfoldable pub stand_in : Plan → List ℕ → Stand
stand_in plan bytes = record {
  epoch = number_at 8 40 bytes;
  slots = slots_in plan.size (slots_of plan) (drop 56 bytes);
  pairs = pairs_in plan.size (slots_of plan) (drop 56 bytes);
}
