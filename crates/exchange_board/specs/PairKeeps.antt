-- What two partners in work keep, before their sweeps, and after these and the exchange.
use Rattle.std.specs.Prelude.{◌≡◌, ℕ, ◌+◌, ◌<◌, true, Some, None, length, slice_set}
use Rattle.std.specs.Arc.{arc_value}
use Rattle.spin_model.specs.Limits.{most_slots}
use Rattle.scalar_rule.specs.Epoch.{has_turn, has_partner, partner, pair_of}
use Rattle.scalar_rule.specs.Exchange.{cold_side, hot_side, drawn_pair}
use Rattle.scalar_rule.specs.Plan.{Plan}
use Rattle.scalar_rule.specs.Ragged.{generators}
use Rattle.plane_sweep.specs.Packed.{part_slot, part_pair, FitsDuo, ArePairGenerators}
use Rattle.plane_sweep.specs.declared.replica.Duo.{Duo}
use Rattle.plane_sweep.specs.declared.stand.PairWheels.{PairWheels}
use Rattle.exchange_board.specs.declared.home.Home.{Home}
use Rattle.exchange_board.specs.declared.pair.PairJob.TheInside as pair_job
use Rattle.exchange_board.specs.declared.pair.PairSwept.TheInside as pair_swept
use Rattle.slot_steps.specs.declared.totals.Totals.{Totals}
use Rattle.exchange_board.specs.Content.{plan_of, starts, taken_before}
use Rattle.exchange_board.specs.JobKeeps.{RestsAt, IsSweptAt}
use Rattle.exchange_board.specs.Machine.{taken}
use Rattle.exchange_board.specs.Views.{BoardView, JobView, place_at, ready_at, out_at, placed}

-- two slots of one board that are partners at their epoch, the colder one first
pub record ArePartners (low high : JobView) : Type 0 where
  pub same : high.origin ≡ low.origin
  pub next : high.slot ≡ low.slot + 1
  pub epoch : high.epoch ≡ low.epoch
  pub turn : has_turn low.slot low.epoch ≡ true

-- of a slot in work the partner, at rest at its epoch, is handed out too; the pair's view is that of its colder slot
pub record TakesPartner (b c : BoardView) (j p : JobView) : Type 0 where
  pub origin : p.origin ≡ b.origin
  pub has : has_partner (length b.places) j.slot j.epoch ≡ true
  pub slot : p.slot ≡ pair_of j.slot j.epoch
  pub epoch : p.epoch ≡ j.epoch
  pub ready : place_at b.places (partner j.slot j.epoch) ≡ ready_at j.epoch
  pub after : c ≡ placed b (slice_set b.places (partner j.slot j.epoch) (out_at j.epoch))
  pub left : taken b.places < taken_before b.origin + b.origin.window.takes

-- what contracts see of two partners: what they see of the colder one
abbrev pub pair_view : pair_job.Inside → JobView
pair_view j = record { origin = arc_value j.low.value.share; slot = j.slot; epoch = j.epoch }

-- partners at rest, and with the colder one their pair's generators as far on as their epoch asks
pub record KeepsPair (j : pair_job.Inside) : Type 0 where
  pub turn : has_turn j.slot j.epoch ≡ true
  pub few : j.slot + 1 < most_slots
  pub same : arc_value j.high.value.share ≡ arc_value j.low.value.share
  pub low_rests : RestsAt j.slot j.epoch j.low.value
  pub high_rests : RestsAt (j.slot + 1) j.epoch j.high.value
  pub generators_are : (i : ℕ) → part_pair j.low.value.wheels ≡ generators (plan_of (arc_value j.low.value.share)) (starts (arc_value j.low.value.share) i) j.slot j.epoch
  pub fits : ArePairGenerators j.low.value.wheels

abbrev pub swept_pair_view : pair_swept.Inside → JobView
swept_pair_view j = record { origin = arc_value j.low.value.share; slot = j.slot; epoch = j.epoch }

-- the exchange of a pair, from the contents and generators before it to those after it
pub record IsPairExchange (plan : Plan) (k : ℕ) (cold hot cold_after hot_after : Duo) (was now : PairWheels) : Type 0 where
  pub cold_is : (b : ℕ) → b < 64 → part_slot plan.size b cold_after ≡ cold_side plan b k (part_pair was) (part_slot plan.size b cold) (part_slot plan.size b hot)
  pub hot_is : (b : ℕ) → b < 64 → part_slot plan.size b hot_after ≡ hot_side plan b k (part_pair was) (part_slot plan.size b cold) (part_slot plan.size b hot)
  pub wheels_are : part_pair now ≡ drawn_pair (part_pair was)
  pub cold_fits : FitsDuo plan.size cold_after
  pub hot_fits : FitsDuo plan.size hot_after
  pub wheels_fit : ArePairGenerators now

-- a content before an exchange, from what it is after it: the page is as it was
abbrev pub before : Home → Duo → Totals → Home
before h duo totals = record h { duo = duo; totals = Some totals }

-- two partners that were swept to these contents, whose exchange gave the pair's; their records are from before it, and their
-- sums are spent
pub record KeepsSweptPair (j : pair_swept.Inside) : Type 0 where
  pub cold : Duo
  pub cold_totals : Totals
  pub hot : Duo
  pub hot_totals : Totals
  pub was : PairWheels
  pub turn : has_turn j.slot j.epoch ≡ true
  pub same : arc_value j.high.value.share ≡ arc_value j.low.value.share
  pub low_swept : IsSweptAt j.slot j.epoch (before j.low.value cold cold_totals)
  pub high_swept : IsSweptAt (j.slot + 1) j.epoch (before j.high.value hot hot_totals)
  pub generators_are : (i : ℕ) → part_pair was ≡ generators (plan_of (arc_value j.low.value.share)) (starts (arc_value j.low.value.share) i) j.slot j.epoch
  pub traded : IsPairExchange (plan_of (arc_value j.low.value.share)) j.slot cold hot j.low.value.duo j.high.value.duo was j.low.value.wheels
  pub low_spent : j.low.value.totals ≡ None
  pub high_spent : j.high.value.totals ≡ None
