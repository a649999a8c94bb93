-- What is left of a bank at its end.
use Rattle.std.specs.Arc.{arc_value}
use Rattle.std.specs.Prelude.{◌≡◌, ℕ, ◌<◌, ◌≤◌, false, List, [], ◌∷◌, length, replicate, slice_index_or, vec_capacity}
use Rattle.spin_model.specs.Limits.{last_epoch}
use Rattle.scalar_rule.specs.Plan.{slots_of}
use Rattle.scalar_rule.specs.Serial.{serial}
use Rattle.plane_sweep.specs.Packed.{part, StandFits}
use Rattle.plane_sweep.specs.Uneven.{level_stand}
use Rattle.plane_sweep.specs.declared.uneven.RaggedStand.{RaggedStand}
use Rattle.measured_sums.specs.RunningSums.{sums_below}
use Rattle.plane_sums.specs.Bins.{SumsView}
use Rattle.plane_sums.specs.Slots.{HaveSums}
use Rattle.run_checkpoint.specs.Encoding.{flattened}
use Rattle.measured_run.specs.Banks.{BankView, start_of}
use Rattle.measured_run.specs.Keeps.{HaveBins}
use Rattle.measured_run.specs.declared.driven.BankDone.TheInside as done
use Rattle.measured_run.specs.declared.room.EndRoom.{EndRoom}

-- there is room for all slots, and their places are those of slots at rest at the last epoch
pub record HasEndRoom (bank : BankView) (room : EndRoom) : Type 0 where
  pub duos : room.duos.items ≡ []
  pub duos_room : slots_of bank.plan ≤ vec_capacity room.duos
  pub sums : room.sums.items ≡ []
  pub sums_room : slots_of bank.plan ≤ vec_capacity room.sums
  pub places : room.places ≡ replicate (slots_of bank.plan) (record { epoch = bank.until; arrived = false })
  pub pending : room.pending ≡ []

-- every slot is at rest at the last epoch, in the state of the serial dynamics, which fits
pub record IsEnd (bank : BankView) (stand : RaggedStand) : Type 0 where
  pub level : stand ≡ level_stand (flattened stand)
  pub fits : StandFits bank.plan (flattened stand)
  pub epoch : (flattened stand).epoch ≡ bank.until
  pub states : (b : ℕ) → b < 64 → part bank.plan.size b (flattened stand) ≡ serial bank.plan (start_of bank.plan bank.base b) bank.until

-- there is such a state
pub record HasEnded (bank : BankView) : Type 0 where
  pub stand : RaggedStand
  pub end : IsEnd bank stand

-- and the sums of slot t are those of the run
pub record HoldsSums (bank : BankView) (t : ℕ) (sums : SumsView) : Type 0 where
  pub bins : HaveBins bank.base.epoch bank.until sums
  pub have : HaveSums bank.plan.size (λ b. sums_below bank.plan (start_of bank.plan bank.base b) bank.every t bank.until) sums

abbrev pub no_bins : SumsView
no_bins = record { first = 0; bins = [] }

-- those of all slots
pub record HoldsSlots (bank : BankView) (slots : List SumsView) : Type 0 where
  pub count : length slots ≡ slots_of bank.plan
  pub each : (t : ℕ) → t < slots_of bank.plan → HoldsSums bank t (slice_index_or slots t no_bins)

-- those of all banks
unfoldable pub HoldBanks : List BankView → List (List SumsView) → Type 0
HoldBanks [] [] = Unit {0}
HoldBanks (bank ∷ banks) (slots ∷ more) = HoldsSlots bank slots × HoldBanks banks more
HoldBanks _ _ = ⊥

-- ---- what types keep

abbrev pub done_view : done.Inside → BankView
done_view d = record { plan = arc_value d.plan; base = d.base.value; every = d.every; until = d.until }

pub record KeepsDone (d : done.Inside) : Type 0 where
  pub base : StandFits (arc_value d.plan) d.base.value
  pub from : d.base.value.epoch ≤ d.until
  pub until : d.until ≤ last_epoch
  pub end : IsEnd (done_view d) d.stand
