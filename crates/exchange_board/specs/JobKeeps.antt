-- What a slot in work keeps, before and after its sweeps.
use Rattle.std.specs.Prelude.{◌≡◌, ℕ, ◌+◌, ◌*◌, ◌<◌, ◌≤◌, true, None, IfSome, is_some, List}
use Rattle.std.specs.Arc.{arc_value}
use Rattle.scalar_rule.specs.Epoch.{has_partner, record_of}
use Rattle.scalar_rule.specs.Ragged.{ready, arrived}
use Rattle.scalar_rule.specs.Records.{is_recorded}
use Rattle.scalar_rule.specs.declared.sample.Record.{Record}
use Rattle.plane_sweep.specs.Packed.{part_slot, FitsDuo}
use Rattle.plane_sweep.specs.declared.replica.Duo.{Duo}
use Rattle.exchange_board.specs.declared.home.Home.{Home}
use Rattle.exchange_board.specs.declared.job.Job.TheInside as job
use Rattle.exchange_board.specs.declared.job.Swept.TheInside as swept
use Rattle.exchange_board.specs.declared.origin.Origin.{Origin}
use Rattle.exchange_board.specs.Content.{plan_of, slots_in, starts, started, record_at}
use Rattle.slot_steps.specs.Totals.{AreTotals}
use Rattle.exchange_board.specs.Views.{JobView}

-- what contracts see of it before its sweeps, and after them
abbrev pub job_view : job.Inside → JobView
job_view j = record { origin = arc_value j.home.value.share; slot = j.slot; epoch = j.epoch }

abbrev pub swept_view : swept.Inside → JobView
swept_view j = record { origin = arc_value j.home.value.share; slot = j.slot; epoch = j.epoch }

-- slot t's content at rest at an epoch, in all samples, and a window that records some epochs
pub record RestsAt (t epoch : ℕ) (h : Home) : Type 0 where
  pub known : t < slots_in (arc_value h.share)
  pub every : 1 ≤ (arc_value h.share).window.every
  pub later : started (arc_value h.share) t ≤ 4 * epoch + 1
  pub fits : FitsDuo (plan_of (arc_value h.share)).size h.duo
  pub right : (b : ℕ) → b < 64 → part_slot (plan_of (arc_value h.share)).size b h.duo
      ≡ ready (plan_of (arc_value h.share)) (starts (arc_value h.share) b) epoch t
  pub unsummed : h.totals ≡ None

-- the records of a slot with this content, where its epoch is recorded
abbrev pub AreRecords : Origin → ℕ → Duo → List Record → Type 0
AreRecords o epoch duo records = is_recorded o.window.every epoch ≡ true → (b : ℕ) → b < 64
    → record_at records b ≡ record_of (plan_of o) b (part_slot (plan_of o).size b duo)

-- slot t's content after the sweeps of an epoch, its sums where it has a partner, and its records
pub record IsSweptAt (t epoch : ℕ) (h : Home) : Type 0 where
  pub known : t < slots_in (arc_value h.share)
  pub every : 1 ≤ (arc_value h.share).window.every
  pub later : started (arc_value h.share) t ≤ 4 * epoch + 1
  pub fits : FitsDuo (plan_of (arc_value h.share)).size h.duo
  pub right : (b : ℕ) → b < 64 → part_slot (plan_of (arc_value h.share)).size b h.duo
      ≡ arrived (plan_of (arc_value h.share)) (starts (arc_value h.share) b) epoch t
  pub totals : IfSome h.totals (AreTotals (plan_of (arc_value h.share)) h.duo)
  pub summed : has_partner (slots_in (arc_value h.share)) t epoch ≡ true → is_some h.totals ≡ true
  pub records : AreRecords (arc_value h.share) epoch h.duo h.page

abbrev pub KeepsJob : job.Inside → Type 0
KeepsJob j = RestsAt j.slot j.epoch j.home.value

abbrev pub KeepsSwept : swept.Inside → Type 0
KeepsSwept j = IsSweptAt j.slot j.epoch j.home.value
