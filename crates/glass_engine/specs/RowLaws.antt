-- The rows between two epochs are those to an epoch between, and then those from it.
use Rattle.std.proofs.Common.{◌≡◌, ℕ, ◌+◌, ◌-◌, ◌≤◌, List, [], ◌++◌, flat_map, cond, ap, ◌∙◌, arith}
use Rattle.spin_model.specs.Steps.{table}
use Rattle.spin_model.proofs.Joined.{window-none, joined-add}
use Rattle.spin_model.proofs.Tables.{table-same}
use Rattle.scalar_rule.specs.Records.{is_recorded}
use Rattle.scalar_rule.specs.declared.sample.Record.{Record}
use Rattle.glass_engine.specs.Report.{epoch_rows, rows_in_order}

pub rows-empty : (m : ℕ → ℕ → List Record) (samples every e : ℕ) → rows_in_order m samples every e e ≡ []
rows-empty m samples every e = window-none (λ f. cond (is_recorded every f) (epoch_rows m samples f) []) e

pub rows-joined : (m : ℕ → ℕ → List Record) (samples every a b c : ℕ) → a ≤ b → b ≤ c
    → rows_in_order m samples every a c ≡ rows_in_order m samples every a b ++ rows_in_order m samples every b c
rows-joined m samples every a b c from to =
    let item : ℕ → List ℕ = λ f. cond (is_recorded every f) (epoch_rows m samples f) [] in
    let whole : c - a ≡ b - a + (c - b) = omega arith in
    ap (λ n. flat_map item (table (λ k. a + k) n)) whole
    ∙ joined-add item (λ k. a + k) (b - a) (c - b)
    ∙ ap (λ t. flat_map item (table (λ k. a + k) (b - a)) ++ flat_map item t) (table-same (λ k. a + (b - a + k)) (λ k. b + k) (c - b) (λ k within. omega arith))
