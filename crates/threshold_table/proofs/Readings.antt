-- The rule table that a text gives, by the rows that it gives.
use Rattle.std.proofs.Common.{◌≡◌, ℕ, List, Option, Some, None, Result, Ok, Err, sym, ap, ◌∙◌}
use Rattle.glass_edges.specs.Refusals.{unless, Gives}
use Rattle.threshold_table.specs.declared.bounds.Bounds.{Bounds}
use Rattle.threshold_table.specs.declared.rule_table.RuleKind.{RuleKind}
use Rattle.threshold_table.specs.declared.refused.TableRefused.{TableRefused}
use Rattle.threshold_table.specs.TableText.{table_of, table_refusal, rows_of}
use Rattle.threshold_table.specs.Tables.{RuleView, IsLawfulRules, rule_table, rule_width, rule_height}
use Rattle.threshold_table.proofs.Lawful.{found-lawful}

same-refusal : {A B E : Type 0} (found : Option E) (x : A) (y : B) (e : E) → unless found x ≡ Err e → unless found y ≡ Err e
same-refusal None x y e is = absurd cc
same-refusal (Some d) x y e is = cc

same-value : {A B E : Type 0} (found : Option E) (x z : A) (f : A → B) → unless found x ≡ Ok z → unless found (f x) ≡ Ok (f z)
same-value {A = A} None x z f is = let same : x ≡ z = cc in ap (λ (y : A). Ok (f y)) same
same-value (Some d) x z f is = absurd cc

-- a reader's refusal, whose part refuses with it
pub gives-err : {A B E : Type 0} (memory : E) (view : A → B) (r : Result A E) (e own : E) (read : Result B E) → r ≡ Err e → e ≡ own → (¬ (own ≡ memory) → read ≡ Err own) → Gives memory view r read
gives-err memory view r e own read is same told = rw (is, same) told

module _ (kind : RuleKind) (width : Bounds) (bytes : List ℕ) (same : width ≡ rule_width kind) where
  with-kind : (read : Result (List (List ℕ)) TableRefused) → table_of width rule_height bytes ≡ read → table_of (rule_width kind) rule_height bytes ≡ read
  with-kind read is = ap (λ (w : Bounds). table_of w rule_height bytes) (sym same) ∙ is

  pub rule-refused : (e : TableRefused) → table_of width rule_height bytes ≡ Err e → rule_table kind bytes ≡ Err e
  unfolding table_of rule_table
  rule-refused e is = same-refusal (table_refusal (rule_width kind) rule_height bytes) (rows_of bytes) _ e (with-kind (Err e) is)

  pub rule-found : (rows own : List (List ℕ)) (table : RuleView) → table_of width rule_height bytes ≡ Ok rows → own ≡ rows → table ≡ record { kind = kind; rows = own } → rule_table kind bytes ≡ Ok table
  unfolding table_of rule_table
  rule-found rows own table is kept made = rw (made, kept) (same-value (table_refusal (rule_width kind) rule_height bytes) (rows_of bytes) rows (λ (found : List (List ℕ)). record { kind = kind; rows = found }) (with-kind (Ok rows) is))

  pub rule-lawful : (rows : List (List ℕ)) → table_of width rule_height bytes ≡ Ok rows → IsLawfulRules (record { kind = kind; rows = rows })
  rule-lawful rows is =
      let found = found-lawful (rule_width kind) rule_height bytes rows (with-kind (Ok rows) is) in
      record { some = found.least; few = found.most; rows = found.rows }
