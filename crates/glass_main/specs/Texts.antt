-- What the commands print: lines of text, each ended by one line feed.
use Rattle.std.specs.Prelude.{ℕ, List, [], ◌∷◌, Bool, ◌++◌, codes, decimal}
use Rattle.std.specs.Fmt.{signed_decimal}
use Rattle.hex.specs.Hex.{encode_lower}
use Rattle.run_plan.specs.CanonicalPlan.{plan_digest, banks_digest}
use Rattle.run_plan.specs.DemoPlan.{demo_plan}
use Rattle.spin_model.specs.Couplings.{plus}
use Rattle.scalar_rule.specs.Opening.{opening}
use Rattle.scalar_rule.specs.PlainRun.{plain_configuration}
use Rattle.scalar_rule.specs.SpinDigits.{spin_digits}
use Rattle.scalar_rule.specs.Sums.{energy}
use Rattle.scalar_rule.specs.Plan.{Plan, slots_of}
use Rattle.scalar_rule.specs.declared.sample.Start.TheVariants.{Random}
use Rattle.report_text.specs.Lines.{kind_text}
use Rattle.glass_engine.specs.Summary.{summary}
use Rattle.overlap_lines.specs.LineText.{lines_text}
use Rattle.plane_sweep.specs.Packed.{part}
use Rattle.command_words.specs.CommandLine.{PlainOrder}
use Rattle.glass_main.specs.declared.plans.Plans.{Plans}
use Rattle.glass_main.specs.declared.plans.Plans.TheVariants.{One, Banks}
use Rattle.glass_main.specs.declared.saved_state.SavedState.{SavedState}

-- the spins that a plain run ends with
abbrev pub plain_spins : PlainOrder → List Bool
plain_spins order = (plain_configuration order.size order.sweeps order.seed order.thresholds).spins

-- the first line of `plain` names the run
unfoldable pub plain_header : PlainOrder → List ℕ
plain_header order =
    codes "plain 1 size=" ++ decimal order.size ++ codes " sweeps=" ++ decimal order.sweeps ++ codes " seed=" ++ decimal order.seed ++ codes "\n"

-- the energy
unfoldable pub energy_line : ℕ → List Bool → List ℕ
energy_line l spins = codes "energy," ++ signed_decimal (energy l (plus 0) spins) ++ codes "\n"

-- the spins in hexadecimal
unfoldable pub spin_line : ℕ → List Bool → List ℕ
spin_line l spins = codes "spin," ++ spin_digits l spins ++ codes "\n"

-- what `plain` prints
abbrev pub plain_text : PlainOrder → List ℕ
plain_text order = plain_header order ++ energy_line order.size (plain_spins order) ++ spin_line order.size (plain_spins order)

-- the sizes of a run, with the number of its samples
unfoldable pub plan_sizes : Plan → ℕ → List ℕ
plan_sizes plan samples =
    codes "plan 1 size=" ++ decimal plan.size ++ codes " slots=" ++ decimal (slots_of plan) ++ codes " samples=" ++ decimal samples

-- its dynamics
unfoldable pub plan_dynamics : Plan → List ℕ
plan_dynamics plan = codes " rule=" ++ kind_text plan.rules.kind ++ codes " sweeps=" ++ decimal plan.sweeps

-- a digest in hexadecimal
unfoldable pub digest_word : List ℕ → List ℕ
digest_word digest = codes " digest=" ++ encode_lower digest

-- a plan in one line
abbrev pub plan_line : Plan → ℕ → List ℕ → List ℕ
plan_line plan samples digest = plan_sizes plan samples ++ plan_dynamics plan ++ digest_word digest ++ codes "\n"

-- the plans of several banks, which differ in their couplings alone, in one line
unfoldable pub banks_line : List Plan → ℕ → List ℕ
banks_line [] samples = []
banks_line (plan ∷ plans) samples = plan_line plan samples (banks_digest (plan ∷ plans))

-- what `check` prints: with the SHA-256 of the canonical bytes of the plan, or the digest of the plans of all banks
abbrev pub check_text : Plans → List ℕ
check_text (One planned) = plan_line planned.plan planned.orders.samples (plan_digest planned.plan)
check_text (Banks planned) = banks_line planned.plans planned.orders.samples

-- what `demo` prints: of the plan that is made from the number the summary of 64 samples, each of them run for 16 epochs from random
-- spins by the serial dynamics
abbrev pub demo_text : ℕ → List ℕ
demo_text n = summary n (demo_plan n) (opening (demo_plan n) Random 0) 16

-- what `lines` prints: of the states of the first samples, at the epoch of the checkpoint, the link overlaps and the correlation lines
abbrev pub saved_text : SavedState → List ℕ
saved_text saved =
    lines_text saved.planned.plan saved.planned.orders.samples saved.base.epoch (λ b. part saved.planned.plan.size b saved.base)
