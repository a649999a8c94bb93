-- The memory in which kept states are written: what was written, how much more fits, and how much a state may take.
use Rattle.std.specs.Prelude.{◌≡◌, ◌≤◌, ℕ, List, [], All}
use Rattle.kept_states.specs.Levels.{level_len}
use Rattle.quenched_states.specs.KeptBytes.{kept_length}
use Rattle.scalar_rule.specs.Plan.{Plan, slots_of}

-- of the checkpoint of one state: its bytes, the most of them, and the slots
pub record LevelRoomView : Type 0 where
  pub bytes : List ℕ
  pub limit : ℕ
  pub slots : ℕ

-- of kept states: their bytes, and how many more fit; the most bytes of a state, and its slots
pub record SaveRoomView : Type 0 where
  pub bytes : List ℕ
  pub spare : ℕ
  pub level : ℕ
  pub slots : ℕ

-- all plans have so many slots
abbrev pub HaveSlots : ℕ → List Plan → Type 0
HaveSlots slots plans = All (λ (plan : Plan). slots_of plan ≡ slots) plans

-- the checkpoint of a state of these plans fits
pub record HoldsLevel (plans : List Plan) (limit slots : ℕ) : Type 0 where
  pub fits : level_len plans ≤ limit
  pub places : HaveSlots slots plans

-- an empty buffer in which so many states of these plans fit
pub record HoldsStates (plans : List Plan) (count : ℕ) (room : SaveRoomView) : Type 0 where
  pub empty : room.bytes ≡ []
  pub spare : kept_length count (level_len plans) ≤ room.spare
  pub level : HoldsLevel plans room.level room.slots
