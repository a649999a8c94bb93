-- The plans under which the two checkpoints of `cross` are read, and what is read, as the code keeps them.
use Rattle.std.specs.Prelude.{◌≡◌, ◌*◌, ◌≤◌, ℕ, List, [], ◌∷◌, length, map, Option, Some, None, Result, Ok, Err}
use Rattle.std.specs.Arc.{arc_value}
use Rattle.run_checkpoint.specs.BankEncoding.{BanksFit, HaveOneShape}
use Rattle.plane_sums.specs.declared.fields.FieldSums.{FieldSums}
use Rattle.plane_sweep.specs.declared.stand.Stand.{Stand}
use Rattle.scalar_rule.specs.Plan.{Plan, slots_of}
use Rattle.command_words.specs.CommandLine.{Command, Plain, Check, Run, Average, Demo, Lines, Potts, Age, Measure, Cross}
use Rattle.glass_main.specs.CrossRun.{CrossedStates, seeded}
use Rattle.glass_main.specs.ManyBanks.{PlannedBanks}
use Rattle.glass_main.specs.declared.crossed_plans.SeededPlans.{SeededPlans}
use Rattle.glass_main.specs.declared.crossed_states.Crossed.{Crossed}
use Rattle.glass_main.specs.declared.ending.Ending.{Ending}

-- ---- plans

-- those of the first state
abbrev pub first_of : SeededPlans → PlannedBanks
first_of p = record { plans = map arc_value p.first.items; orders = p.orders }

abbrev pub planned_read : Result SeededPlans Ending → Result PlannedBanks Ending
planned_read (Ok p) = Ok (first_of p)
planned_read (Err ending) = Err ending

-- 1 to 4 plans of one size and with as many slots, for all samples
pub record AreFew (planned : PlannedBanks) : Type 0 where
  pub some : 1 ≤ length planned.plans
  pub few : length planned.plans ≤ 4
  pub samples : planned.orders.samples ≤ 64 * length planned.plans
  pub shape : HaveOneShape planned.plans

-- and the same with another seed
pub record KeepsSeeded (seed : ℕ) (p : SeededPlans) : Type 0 where
  pub are : AreFew (first_of p)
  pub second : map arc_value p.second.items ≡ seeded seed (first_of p).plans

-- the seed that a command has for its second state is one that a run file may have
abbrev pub HasLawfulSeed : Option Command → Type 0
HasLawfulSeed None = Unit {0}
HasLawfulSeed (Some (Plain order)) = Unit {0}
HasLawfulSeed (Some (Check name)) = Unit {0}
HasLawfulSeed (Some (Run order)) = Unit {0}
HasLawfulSeed (Some (Average order)) = Unit {0}
HasLawfulSeed (Some (Demo n)) = Unit {0}
HasLawfulSeed (Some (Lines order)) = Unit {0}
HasLawfulSeed (Some (Potts order)) = Unit {0}
HasLawfulSeed (Some (Age order)) = Unit {0}
HasLawfulSeed (Some (Measure order)) = Unit {0}
HasLawfulSeed (Some (Cross order)) = order.seed ≤ 9223372036854775807

-- ---- states

-- packed states of the banks, at one epoch, which fit
pub record AreFitting (plans : List Plan) (stands : List Stand) : Type 0 where
  pub epoch : ℕ
  pub fit : BanksFit epoch plans stands

abbrev pub crossed_of : Crossed → CrossedStates
crossed_of c = record {
  planned = record { plans = map arc_value c.plans.items; orders = c.orders };
  seed = c.seed;
  first = c.first;
  second = c.second;
}

abbrev pub crossed_read : Result Crossed Ending → Result CrossedStates Ending
crossed_read (Ok c) = Ok (crossed_of c)
crossed_read (Err ending) = Err ending

-- both states fit, the second the plans with its seed
pub record KeepsCrossed (c : CrossedStates) : Type 0 where
  pub are : AreFew c.planned
  pub first : AreFitting c.planned.plans c.first
  pub second : AreFitting (seeded c.seed c.planned.plans) c.second

-- how many slots plans have
abbrev pub slots_in : List Plan → ℕ
slots_in [] = 0
slots_in (plan ∷ plans) = slots_of plan

-- there is room for the sums of each two copies of their slots
abbrev pub HasRoomFor : CrossedStates → List FieldSums → Type 0
HasRoomFor c sums = 6 * slots_in c.planned.plans ≤ length sums
