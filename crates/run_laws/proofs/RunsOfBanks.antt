-- Runs of several banks that go on from one another are one run.
use Rattle.std.proofs.Common.{arith, ◌≡◌, ℕ, ◌<◌, List, [], ◌∷◌, ◌++◌, length, refl, ap, ap₂, ◌∙◌}
use Rattle.report_text.specs.Lines.{header_line, end_line}
use Rattle.scalar_rule.specs.Plan.{Plan}
use Rattle.scalar_rule.specs.declared.sample.Sample.{Sample}
use Rattle.glass_main.specs.ManyBanks.{PlannedBanks, starts_at, banks_bytes}
use Rattle.glass_main.specs.ResumeLaws.{banks_rows, banks_spins}
use Rattle.glass_main.proofs.BanksGoOn.{AreAt, begin-at, first-at, text-parts, go-on}
use Rattle.run_laws.specs.RunsOfBanks.{BanksAreLeft, last_banks, all_banks_rows, RunsOfBanksAddUp}

-- what the one run prints and saves
record AreOneRun (planned : PlannedBanks) (until : ℕ) (starts : List (ℕ → Sample)) (left : List (List (ℕ → Sample))) : Type 0 where
  rows : banks_rows planned starts until ≡ all_banks_rows planned until starts left
  spins : (plan : Plan) → banks_spins plan planned starts until ≡ banks_spins plan planned (last_banks starts left) until
  checkpoint : banks_bytes planned starts until ≡ banks_bytes planned (last_banks starts left) until

one-run : (planned : PlannedBanks) (until c : ℕ) (starts : List (ℕ → Sample)) (left : List (List (ℕ → Sample))) → 0 < length planned.plans → AreAt c planned.plans starts
    → BanksAreLeft planned.plans until starts left → AreOneRun planned until starts left
unfolding BanksAreLeft last_banks all_banks_rows
one-run planned until c starts [] some at are = record { rows = refl; spins = λ plan. refl; checkpoint = refl }
one-run planned until c starts (next ∷ left) some at are =
    let e = starts_at next in
    let first = first-at c planned.plans starts some at in
    let left_it = are.0 in
    let onward = left_it.onward in
    let both = go-on planned starts next c e until some at (omega (arith, onward, first)) are.1 left_it.same in
    let rest = one-run planned until e next left some both.at are.2 in
    record {
      rows = both.rows ∙ ap (λ v. banks_rows planned starts e ++ v) rest.rows;
      spins = λ plan. both.spins plan ∙ rest.spins plan;
      checkpoint = both.checkpoint ∙ rest.checkpoint;
    }

pub banks-add-up : RunsOfBanksAddUp
banks-add-up planned until starts left plans begin are =
    let o = planned.orders in
    let begun = begin-at planned starts begin in
    let one = one-run planned until begun.0 starts left (omega (arith, plans.several)) begun.1 are in
    record {
      report = λ plan more is. text-parts o until begun.0 plan more planned.plans starts is begun.1
          ∙ ap₂ (λ u v. header_line plan o.samples (starts_at starts) until ++ u ++ end_line until ++ v) one.rows (one.spins plan);
      checkpoint = one.checkpoint;
    }
