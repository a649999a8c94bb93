-- The packed state of 64 disorder samples whose slots may stand at different epochs.
use Rattle.std.specs.Prelude.{◌≡◌, ℕ, ◌^◌, ◌<◌, ◌≤◌, false, List, [], map, length, replicate, slice_index_or, All, FitsSigned}
use mir.Syntax.{w32}
use Rattle.scalar_rule.specs.Plan.{Plan, slots_of, pairs_of}
use Rattle.scalar_rule.specs.Epoch.{slot_at}
use Rattle.scalar_rule.specs.Ragged.{Position, UnevenState}
use Rattle.scalar_rule.specs.Positions.{position_in, AreInStep, pending_count}
use Rattle.scalar_rule.specs.declared.sample.Record.{Record}
use Rattle.plane_sweep.specs.Packed.{part_slot, part_pair, PermutesAt, FitsDuo, ArePairGenerators}
use Rattle.plane_sweep.specs.declared.stand.Stand.{Stand}
use Rattle.plane_sweep.specs.declared.uneven.Place.{Place}
use Rattle.plane_sweep.specs.declared.uneven.RaggedStand.{RaggedStand}

-- place t of a list; epoch 0, at rest, where there is none
abbrev pub place_at : List Place → ℕ → Place
place_at places t = slice_index_or places t (record { epoch = 0; arrived = false })

abbrev pub position_of : Place → Position
position_of place = record { epoch = place.epoch; waits = place.arrived }

abbrev pub positions_of : RaggedStand → List Position
positions_of stand = map position_of stand.places

-- the part of sample b in the state of a lattice of side l
abbrev pub uneven_part : ℕ → ℕ → RaggedStand → UnevenState
uneven_part l b stand = record {
  bit = b;
  positions = positions_of stand;
  slots = map (part_slot l b) stand.slots;
  pairs = map part_pair stand.pairs;
}

-- a record as it is stored: three numbers from -2^31 to 2^31 - 1, and two labels below 256
pub record FitsRecord (values : Record) : Type 0 where
  pub first_energy : FitsSigned w32 values.first_energy
  pub second_energy : FitsSigned w32 values.second_energy
  pub overlap : FitsSigned w32 values.overlap
  pub first_replica : values.first_replica < 256
  pub second_replica : values.second_replica < 256

-- it has the plan's slots and pairs, positions that are in step, labels that permute in each sample, and the records that
-- are kept ahead of the least completed epoch, of so many printed samples and of the last of each `every` epochs
pub record RaggedStandFits (plan : Plan) (samples every : ℕ) (stand : RaggedStand) : Type 0 where
  pub some_samples : 1 ≤ samples
  pub few_samples : samples ≤ 64
  pub some_every : 1 ≤ every
  pub places : length stand.places ≡ slots_of plan
  pub epochs : (t : ℕ) → t < slots_of plan → (position_in (positions_of stand) t).epoch < 2 ^ 64
  pub slots : length stand.slots ≡ slots_of plan
  pub each_slot : All (FitsDuo plan.size) stand.slots
  pub pairs : length stand.pairs ≡ pairs_of plan
  pub each_pair : All ArePairGenerators stand.pairs
  pub labels : (b : ℕ) → b < 64 → PermutesAt (slots_of plan) (λ t. slot_at (uneven_part plan.size b stand).slots t)
  pub in_step : AreInStep (slots_of plan) (positions_of stand)
  pub pending : length stand.pending ≡ pending_count samples every (positions_of stand)
  pub each_pending : All FitsRecord stand.pending

-- a state at one epoch, with every slot at rest there
abbrev pub level_stand : Stand → RaggedStand
level_stand stand = record {
  places = replicate (length stand.slots) (record { epoch = stand.epoch; arrived = false });
  slots = stand.slots;
  pairs = stand.pairs;
  pending = [];
}
