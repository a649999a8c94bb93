-- What holds of runs of several banks, each of which goes on from what the one before it left: they add up to one run.
use Rattle.std.specs.Prelude.{◌≡◌, ℕ, ◌≤◌, List, [], ◌∷◌, ◌++◌}
use Rattle.report_text.specs.Lines.{header_line, end_line}
use Rattle.run_checkpoint.specs.Laws.{AreSameBanks}
use Rattle.scalar_rule.specs.Plan.{Plan}
use Rattle.scalar_rule.specs.declared.sample.Sample.{Sample}
use Rattle.glass_main.specs.ManyBanks.{PlannedBanks, starts_at, banks_text, banks_at, banks_bytes}
use Rattle.glass_main.specs.ResumeLaws.{AreBankPlans, AreBeginnings, banks_rows, banks_spins}

-- what a run leaves for the next one: the states of each bank at the epoch to which it went
pub record LeavesBanks (plans : List Plan) (starts later : List (ℕ → Sample)) : Type 0 where
  pub onward : starts_at starts ≤ starts_at later
  pub same : AreSameBanks later (banks_at plans starts (starts_at later))

-- what runs left, each of which went on from what the one before it had left, none past epoch e
unfoldable pub BanksAreLeft : List Plan → ℕ → List (ℕ → Sample) → List (List (ℕ → Sample)) → Type 0
BanksAreLeft plans e starts [] = Unit {0}
BanksAreLeft plans e starts (next ∷ more) = LeavesBanks plans starts next × (starts_at next ≤ e) × BanksAreLeft plans e next more

-- what the last run goes on from
unfoldable pub last_banks : List (ℕ → Sample) → List (List (ℕ → Sample)) → List (ℕ → Sample)
last_banks starts [] = starts
last_banks starts (next ∷ more) = last_banks next more

-- the rows of these runs, one after the other, and of the last one, which goes to epoch e
unfoldable pub all_banks_rows : PlannedBanks → ℕ → List (ℕ → Sample) → List (List (ℕ → Sample)) → List ℕ
all_banks_rows planned e starts [] = banks_rows planned starts e
all_banks_rows planned e starts (next ∷ more) = banks_rows planned starts (starts_at next) ++ all_banks_rows planned e next more

-- the report of one run is: its header, the rows of all those runs, one after the other, and the end and the spins of the last;
-- and its checkpoint is that of the last
pub record BanksAddUp (planned : PlannedBanks) (until : ℕ) (starts : List (ℕ → Sample)) (left : List (List (ℕ → Sample))) : Type 0 where
  pub report : (plan : Plan) (more : List Plan) → planned.plans ≡ plan ∷ more → banks_text planned starts until
      ≡ header_line plan planned.orders.samples (starts_at starts) until
      ++ all_banks_rows planned until starts left
      ++ end_line until
      ++ banks_spins plan planned (last_banks starts left) until
  pub checkpoint : banks_bytes planned starts until ≡ banks_bytes planned (last_banks starts left) until

-- however often runs were saved, and at whichever epochs
abbrev pub RunsOfBanksAddUp : Type 0
RunsOfBanksAddUp = (planned : PlannedBanks) (until : ℕ) (starts : List (ℕ → Sample)) (left : List (List (ℕ → Sample))) → AreBankPlans planned.plans → AreBeginnings planned starts
    → BanksAreLeft planned.plans until starts left → BanksAddUp planned until starts left
