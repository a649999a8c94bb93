-- The checkpoint of a run that is measured is the run's.
use Rattle.std.proofs.Common.{arith, ◌≡◌, ◌≤◌, ℕ, List, [], ◌∷◌, length, Option, refl}
use Rattle.glass_edges.specs.Contents.{Files}
use Rattle.command_words.specs.CommandLine.{Measure}
use Rattle.command_words.specs.MeasureWords.{MeasureOrder, run_to_measure}
use Rattle.glass_engine.specs.BankLaws.{banks_with}
use Rattle.run_checkpoint.specs.BankEncoding.{banks_encoding}
use Rattle.scalar_rule.specs.Plan.{Plan}
use Rattle.scalar_rule.specs.declared.sample.Sample.{Sample}
use Rattle.glass_main.specs.Beginnings.{Level, run_checkpoint}
use Rattle.glass_main.specs.ManyBanks.{banks_at}
use Rattle.glass_main.specs.MeasureRun.{banks_of, level_encoding, measured_bytes}
use Rattle.glass_main.specs.Request.{request_of}
use Rattle.glass_main.specs.declared.planned.Planned.{Planned}
use Rattle.glass_main.specs.declared.plans.Plans.TheVariants.{One}
use Rattle.run_laws.specs.MeasureLaws.{SumsSaveAsRuns}
use Rattle.run_laws.specs.PackingLaws.{ArePackedAlone}

one-bank : (planned : Planned) (start : ℕ → Sample) (until : ℕ) → measured_bytes (banks_of (One planned)) (start ∷ []) until ≡ run_checkpoint planned (Level start) until
unfolding level_encoding banks_with
one-bank planned start until = refl

several : (plans : List Plan) (states : List (ℕ → Sample)) → 2 ≤ length plans → level_encoding plans states ≡ banks_encoding plans states
unfolding level_encoding
several [] states some = absurd (omega (arith, some))
several (plan ∷ []) states some = absurd (omega (arith, some))
several (plan ∷ next ∷ plans) states some = refl

same-sums : (one other : MeasureOrder) (files : Option Files) → ArePackedAlone (run_to_measure one) (run_to_measure other) → request_of (Measure one) files ≡ request_of (Measure other) files
same-sums one other files same = rw (same.run, same.until, same.from) refl

pub sums-save : SumsSaveAsRuns
sums-save = record {
  one = one-bank;
  banks = λ planned starts until some. several planned.plans (banks_at planned.plans starts until) some;
  asked = same-sums;
}
