-- What holds of what is asked for, where nothing refuses it: what the laws on runs that go on from one another ask for.
use Rattle.std.specs.Prelude.{◌≡◌, ℕ, ◌≤◌, List, All, length, None}
use Rattle.run_checkpoint.specs.BankEncoding.{HaveOneShape}
use Rattle.run_plan.specs.Amounts.{amount_refusal}
use Rattle.run_plan.specs.RunFile.{AreLawfulOrders, AreOrdersOfBanks}
use Rattle.scalar_rule.specs.Plan.{IsLawfulPlan}
use Rattle.scalar_rule.specs.declared.sample.Sample.{Sample}
use Rattle.spin_model.specs.Limits.{last_epoch}
use Rattle.glass_main.specs.Beginnings.{Beginning, begins_at}
use Rattle.glass_main.specs.ManyBanks.{PlannedBanks, bank_count, starts_at, banks_amount_refusal}
use Rattle.glass_main.specs.Request.{Work, PlainWork, CheckWork, RunWork, BanksWork, AverageWork, DemoWork, LinesWork, PottsWork, AgeWork, MeasureWork, CrossWork}
use Rattle.glass_main.specs.ResumeLaws.{AreBankPlans, AreBeginnings}
use Rattle.glass_main.specs.StopLaws.{IsBeginning, reached_by}
use Rattle.glass_main.specs.declared.planned.Planned.{Planned}
use Rattle.glass_main.specs.declared.plans.Plans.{Plans}
use Rattle.glass_main.specs.declared.plans.Plans.TheVariants.{One, Banks}

-- ---- plans and orders

-- a lawful plan, and lawful orders of up to 64 samples
pub record IsLawfulPlanned (planned : Planned) : Type 0 where
  pub plan : IsLawfulPlan planned.plan
  pub orders : AreLawfulOrders planned.orders

-- lawful plans of 2 to 4 banks, as many as the samples are kept in, all of one size and with as many slots, and lawful orders of
-- up to 256 samples
pub record AreLawfulBanks (planned : PlannedBanks) : Type 0 where
  pub plans : AreBankPlans planned.plans
  pub count : length planned.plans ≡ bank_count planned.orders.samples
  pub orders : AreOrdersOfBanks planned.orders

abbrev pub AreLawfulPlans : Plans → Type 0
AreLawfulPlans (One planned) = IsLawfulPlanned planned
AreLawfulPlans (Banks planned) = AreLawfulBanks planned

-- the same of 1 to 4 banks
pub record AreLawfulBanked (planned : PlannedBanks) : Type 0 where
  pub plans : All IsLawfulPlan planned.plans
  pub shape : HaveOneShape planned.plans
  pub count : length planned.plans ≡ bank_count planned.orders.samples
  pub orders : AreOrdersOfBanks planned.orders

-- ---- runs

-- a run of lawful plan and orders begins with its opening states or with what the bytes of a checkpoint are, no slot of which is
-- past its last epoch, which is at most 1000000000; and it isn't refused for its amount
pub record IsLawfulRun (planned : Planned) (from : Beginning) (until : ℕ) : Type 0 where
  pub lawful : IsLawfulPlanned planned
  pub begins : IsBeginning planned from
  pub in_time : reached_by from ≤ until
  pub short : until ≤ last_epoch
  pub amount : amount_refusal planned.plan planned.orders (begins_at from) until ≡ None

-- the same of several banks, which begin at one epoch
pub record IsLawfulRunOfBanks (planned : PlannedBanks) (starts : List (ℕ → Sample)) (until : ℕ) : Type 0 where
  pub lawful : AreLawfulBanks planned
  pub begins : AreBeginnings planned starts
  pub in_time : starts_at starts ≤ until
  pub short : until ≤ last_epoch
  pub amount : banks_amount_refusal planned.plans planned.orders (starts_at starts) until ≡ None

-- and of a run that is measured, whose amount is no matter
pub record IsLawfulMeasuring (planned : PlannedBanks) (starts : List (ℕ → Sample)) (until : ℕ) : Type 0 where
  pub lawful : AreLawfulBanked planned
  pub begins : AreBeginnings planned starts
  pub in_time : starts_at starts ≤ until
  pub short : until ≤ last_epoch

-- ---- work

-- work over a run file has lawful plans and orders, and a run is a lawful one
abbrev pub IsLawfulWork : Work → Type 0
IsLawfulWork (PlainWork order) = Unit {0}
IsLawfulWork (CheckWork plans) = AreLawfulPlans plans
IsLawfulWork (RunWork planned from until stop_after) = IsLawfulRun planned from until
IsLawfulWork (BanksWork planned starts until) = IsLawfulRunOfBanks planned starts until
IsLawfulWork (AverageWork averages) = Unit {0}
IsLawfulWork (DemoWork n) = Unit {0}
IsLawfulWork (LinesWork saved) = IsLawfulPlanned saved.planned
IsLawfulWork (PottsWork order) = Unit {0}
IsLawfulWork (AgeWork planned wait times) = IsLawfulPlanned planned
IsLawfulWork (MeasureWork planned starts until) = IsLawfulMeasuring planned starts until
IsLawfulWork (CrossWork crossed) = AreLawfulBanked crossed.planned
