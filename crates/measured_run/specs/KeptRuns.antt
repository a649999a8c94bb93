-- What a run keeps, before and after it is driven.
use Rattle.std.specs.Prelude.{◌≡◌, ℕ, ◌+◌, ◌<◌, ◌≤◌, is_some, Option, IfSome, List, [], ◌∷◌, ◌++◌, length, All, flat_map, vec_capacity}
use Rattle.spin_model.specs.Limits.{last_epoch}
use Rattle.scalar_rule.specs.Plan.{Plan, slots_of}
use Rattle.scalar_rule.specs.Serial.{serial}
use Rattle.run_checkpoint.specs.BankEncoding.{banks_header, banks_len}
use Rattle.run_checkpoint.specs.Encoding.{encoding}
use Rattle.run_checkpoint.specs.Kinds.{sealed}
use Rattle.run_checkpoint.specs.Lengths.{encoding_len}
use Rattle.run_checkpoint.specs.Rooms.{RoomView}
use Rattle.measured_run.specs.Banks.{BankView, start_of, plans_in, bases_in}
use Rattle.measured_run.specs.Ends.{HoldBanks}
use Rattle.measured_run.specs.Runs.{RunView, AreStarts}
use Rattle.measured_run.specs.declared.course.Course.{Course}
use Rattle.measured_run.specs.declared.run.Done.TheInside as done
use Rattle.measured_run.specs.declared.run.Run.TheInside as run

-- a bank of a run goes the run's way
pub record IsOnCourse (course : Course) (bank : BankView) : Type 0 where
  pub from : bank.base.epoch ≡ course.from
  pub every : bank.every ≡ course.every
  pub until : bank.until ≡ course.until

-- an empty buffer, where there is one, has room for the checkpoint
abbrev pub HasSpare : List Plan → Option RoomView → Type 0
HasSpare plans saving = IfSome saving (λ room. (room.bytes ≡ []) × (banks_len plans ≤ room.spare))

pub record KeepBanks (course : Course) (banks : List BankView) : Type 0 where
  pub starts : AreStarts (plans_in banks) (bases_in banks) course.until
  pub each : All (IsOnCourse course) banks
  pub some_every : 1 ≤ course.every
  pub until : course.until ≤ last_epoch

abbrev pub run_view : run.Inside → RunView
run_view r = record { plans = plans_in r.banks.items; bases = bases_in r.banks.items; every = r.course.every; until = r.course.until; saves = is_some r.saving }

pub record KeepsRun (r : run.Inside) : Type 0 where
  pub banks : KeepBanks r.course r.banks.items
  pub ended : r.ended.items ≡ []
  pub ended_room : length r.banks.items ≤ vec_capacity r.ended
  pub sums : r.sums.items ≡ []
  pub sums_room : length r.banks.items ≤ vec_capacity r.sums
  pub rooms : 0 < length r.rooms.items
  pub saving : HasSpare (plans_in r.banks.items) r.saving

abbrev pub done_view : done.Inside → RunView
done_view d = record { plans = plans_in d.banks.items; bases = bases_in d.banks.items; every = d.course.every; until = d.course.until; saves = is_some d.saving }

pub record KeepsDone (d : done.Inside) : Type 0 where
  pub banks : KeepBanks d.course d.banks.items
  pub sums : HoldBanks d.banks.items d.sums.items
  pub saving : HasSpare (plans_in d.banks.items) d.saving

-- ---- the checkpoint of banks at their end

-- that of one bank
abbrev pub end_bytes : BankView → List ℕ
end_bytes bank = encoding bank.plan (λ b. serial bank.plan (start_of bank.plan bank.base b) bank.until)

unfoldable pub end_checkpoint : List BankView → List ℕ
end_checkpoint [] = []
end_checkpoint (bank ∷ []) = end_bytes bank
end_checkpoint (bank ∷ next ∷ banks) = sealed (banks_header (length (bank ∷ next ∷ banks)) ++ flat_map end_bytes (bank ∷ next ∷ banks))

-- how long the checkpoints of the banks are
unfoldable pub spare_for : List BankView → ℕ
spare_for [] = 0
spare_for (bank ∷ banks) = encoding_len bank.plan.size (slots_of bank.plan) + spare_for banks
