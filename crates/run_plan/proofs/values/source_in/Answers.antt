-- A text that is neither of the two words names a couplings file.
use Rattle.std.proofs.Common.{inl, inr, ◌≡◌, ℕ, List, false, refl}
use Rattle.std.specs.Prelude.{codes}
use Rattle.std.specs.Str.{bytes_eq}
use Rattle.std.proofs.lemmas.Bool.{cases_Bool}
use Rattle.std.proofs.lemmas.Slice.Eq.{bytes_eq-Decides}
use Rattle.toml.specs.View.{table_view}
use Rattle.run_plan.specs.RunFile.{is_either}
use Rattle.run_plan.proofs.Rows.{source-named}
use Rattle.run_plan.proofs.values.source_in.Goals as goal

other : (a b : List ℕ) → ¬ (a ≡ b) → bytes_eq a b ≡ false
other a b differ = elim (cases_Bool (bytes_eq a b)) [
  | inl same ↦ absurd (differ ((bytes_eq-Decides a b).0 same))
  | inr not ↦ not
]

neither : (text : List ℕ) → ¬ (text ≡ codes "plus") → ¬ (text ≡ codes "random") → is_either (codes "plus") (codes "random") text ≡ false
neither text plus random = rw (other text (codes "plus") plus, other text (codes "random") random) refl

pub file_name-requires : goal.file_name-requires
file_name-requires c =
    rw (c.text.ensures) (source-named (table_view c.args.table.now) c.requires (rw (← c.text.ensures) (neither c.text.result.now c.in_default.not-plus c.in_default.not-random)))
