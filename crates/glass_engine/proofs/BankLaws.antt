-- The laws of runs over banks.
use Rattle.std.proofs.lemmas.List.Elements.{All-head, All-tail}
use Rattle.std.proofs.Common.{arith, ◌≡◌, ℕ, ◌-◌, ◌<◌, ◌≤◌, false, cond, nat_lt, List, [], ◌∷◌, ◌++◌, length, map, refl, ap, ap₂, ◌∙◌}
use Rattle.std.proofs.lemmas.Bool.{lt-ltb}
use Rattle.std.proofs.lemmas.Bool.Decides.{nat_tests}
use Rattle.run_checkpoint.specs.BankEncoding.{banks_header, banks_bytes, banks_encoding, BanksFit, BanksStand}
use Rattle.run_checkpoint.specs.Encoding.{encoding}
use Rattle.run_checkpoint.proofs.LevelClauses.{encoding-same}
use Rattle.run_plan.specs.declared.run_file.Orders.{Orders}
use Rattle.scalar_rule.specs.Plan.{Plan, slots_of}
use Rattle.scalar_rule.specs.Records.{measured_from}
use Rattle.scalar_rule.specs.Serial.{serial}
use Rattle.scalar_rule.specs.declared.sample.Sample.{Sample}
use Rattle.plane_sweep.specs.Packed.{part}
use Rattle.plane_sweep.specs.declared.stand.Stand.{Stand}
use Rattle.glass_engine.specs.Banks.{Bank, of_sample, banks_checkpoint}
use Rattle.glass_engine.specs.BankLaws.{banks_with, HaveSlots, StandForBanks, IsOfBank0}
use Rattle.glass_engine.specs.BankRuns.{bank_runs, bank_of, for_samples, runs_checkpoint}
use Rattle.glass_engine.specs.declared.run.SaveKind.{SaveKind}
use Rattle.glass_engine.proofs.BankStarts.{level-flattened}
use Rattle.run_checkpoint.specs.Kinds.{sealed}

-- ---- one sample of banks

pub of-first : {A B : Type 0} (none : A) (give : B → ℕ → A) (bank : B) (banks : List B) (b : ℕ) → b < 64 → of_sample none give (bank ∷ banks) b ≡ give bank b
unfolding of_sample
of-first none give bank banks b below = ap (λ t. cond t (give bank b) (of_sample none give banks (b - 64))) (lt-ltb b 64 below)

pub of-next : {A B : Type 0} (none : A) (give : B → ℕ → A) (bank : B) (banks : List B) (b : ℕ) → 64 ≤ b → of_sample none give (bank ∷ banks) b ≡ of_sample none give banks (b - 64)
unfolding of_sample
of-next none give bank banks b past =
    let is : nat_lt b 64 ≡ false = grind (arith, nat_tests) in
    ap (λ t. cond t (give bank b) (of_sample none give banks (b - 64))) is

pub below-64 : (bank : Bank) (banks : List Bank) (b : ℕ) → b < 64 → IsOfBank0 bank banks b
below-64 bank banks b below = record {
  records = λ f. of-first [] (λ (x : Bank) m. measured_from x.plan x.start m f) bank banks b below;
  slots = λ e. of-first [] (λ (x : Bank) m. (serial x.plan (x.start m) e).slots) bank banks b below;
}

-- ---- banks that agree

unfoldable Agree : List Bank → List Bank → Type 0
Agree [] [] = Unit {0}
Agree (x ∷ xs) (y ∷ ys) = (x.plan ≡ y.plan) × ((b : ℕ) → b < 64 → x.start b ≡ y.start b) × Agree xs ys
Agree _ _ = ⊥

bytes-agree : (xs ys : List Bank) (e : ℕ) → Agree xs ys
    → (map (λ (x : Bank). x.plan) xs ≡ map (λ (x : Bank). x.plan) ys)
    × (banks_bytes (map (λ (x : Bank). x.plan) xs) (map (λ (x : Bank) (b : ℕ). serial x.plan (x.start b) e) xs)
    ≡ banks_bytes (map (λ (x : Bank). x.plan) ys) (map (λ (x : Bank) (b : ℕ). serial x.plan (x.start b) e) ys))
unfolding banks_bytes Agree
bytes-agree [] [] e same = (refl, refl)
bytes-agree [] (y ∷ ys) e same = absurd same
bytes-agree (x ∷ xs) [] e same = absurd same
bytes-agree (x ∷ xs) (y ∷ ys) e same =
    let rest = bytes-agree xs ys e same.2 in
    let first : encoding x.plan (λ b. serial x.plan (x.start b) e) ≡ encoding y.plan (λ b. serial y.plan (y.start b) e) =
    ap (λ p. encoding p (λ b. serial p (x.start b) e)) same.0
    ∙ encoding-same y.plan (λ b. serial y.plan (x.start b) e) (λ b. serial y.plan (y.start b) e) (λ b below. ap (λ s. serial y.plan s e) (same.1 b below)) in
    (ap₂ (λ p ps. p ∷ ps) same.0 rest.0, ap₂ (λ bs more. bs ++ more) first rest.1)

checkpoint-agree : (xs ys : List Bank) (e : ℕ) → Agree xs ys → banks_checkpoint xs e ≡ banks_checkpoint ys e
unfolding banks_encoding
checkpoint-agree xs ys e same =
    let z = bytes-agree xs ys e same in
    ap₂ (λ (ps : List Plan) bytes. sealed (banks_header (length ps) ++ bytes)) z.0 z.1

-- ---- the runs as they are opened

runs-agree : (epoch : ℕ) (plans : List Plan) (stands : List Stand) (starts : List (ℕ → Sample)) (orders : Orders) (until : ℕ) (kind : SaveKind) → BanksFit epoch plans stands → HaveSlots plans
    → BanksStand plans starts stands → Agree (map bank_of (bank_runs plans stands orders until kind)) (banks_with plans starts)
unfolding bank_runs BanksFit BanksStand banks_with Agree
runs-agree epoch [] [] [] orders until kind fit slots stand = tt
runs-agree epoch [] [] (s ∷ ss) orders until kind fit slots stand = absurd stand
runs-agree epoch [] (x ∷ xs) starts orders until kind fit slots stand = absurd fit
runs-agree epoch (plan ∷ plans) [] starts orders until kind fit slots stand = absurd fit
runs-agree epoch (plan ∷ plans) (x ∷ xs) [] orders until kind fit slots stand = absurd stand
runs-agree epoch (plan ∷ plans) (x ∷ xs) (s ∷ ss) orders until kind fit slots stand =
    let P : Plan → Type 0 = λ p. 1 ≤ slots_of p in
    let some : 0 < length x.slots = omega (arith, fit.0.slots, All-head P plan plans slots) in (
      refl,
      λ b below. ap (part plan.size b) (level-flattened x some) ∙ stand.0 b below,
      runs-agree epoch plans xs ss (for_samples (orders.samples - 64) orders) until kind fit.2 (All-tail P plan plans slots) stand.1,
    )

pub checkpoint-serial : (plans : List Plan) (stands : List Stand) (starts : List (ℕ → Sample)) (orders : Orders) (until : ℕ) (kind : SaveKind)
    → 1 ≤ length plans → StandForBanks plans stands starts
    → runs_checkpoint (bank_runs plans stands orders until kind) ≡ banks_checkpoint (banks_with plans starts) until
unfolding bank_runs BanksFit runs_checkpoint
checkpoint-serial [] stands starts orders until kind some s = absurd (omega arith)
checkpoint-serial (plan ∷ plans) [] starts orders until kind some s = absurd s.fit
checkpoint-serial (plan ∷ plans) (x ∷ xs) starts orders until kind some s =
    checkpoint-agree (map bank_of (bank_runs (plan ∷ plans) (x ∷ xs) orders until kind)) (banks_with (plan ∷ plans) starts) until
    (runs-agree s.epoch (plan ∷ plans) (x ∷ xs) starts orders until kind s.fit s.slots s.stand)
