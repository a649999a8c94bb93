-- The crate's answer is that of its own definition of a document, where the bytes are UTF-8.
use Rattle.std.proofs.Common.{◌≡◌, true, false, cond, List, ℕ, None, Some, Option, refl, sym, ap, ◌∙◌}
use Rattle.std.proofs.lemmas.Bool.{false≢true}
use Rattle.std.specs.Str.{IsUtf8, is_utf8}
use Rattle.std.proofs.lemmas.Str.{IsUtf8-from_is_utf8, is_utf8-from_IsUtf8}
use Rattle.toml.specs.Data.{Members}
use Rattle.toml.specs.Parse.{parse_document}
use Rattle.toml.specs.View.{table_view}
use Rattle.run_plan.specs.RunFile.{document}
use Rattle.run_plan.proofs.reading.document.Goals as goal

where-text : (bytes : List ℕ) (found : Option Members) → IsUtf8 bytes → parse_document bytes ≡ found → document bytes ≡ found
where-text bytes found text same = ap (λ b. cond b (parse_document bytes) None) (is_utf8-from_IsUtf8 bytes text) ∙ same

or-none : (bytes : List ℕ) → (IsUtf8 bytes → parse_document bytes ≡ None) → document bytes ≡ None
or-none bytes refuses = elim (is_utf8 bytes) as (λ b. is_utf8 bytes ≡ b → cond b (parse_document bytes) None ≡ None) [
  | true ↦ λ yes. refuses (IsUtf8-from_is_utf8 bytes yes)
  | false ↦ λ _. refl
] refl

pub returns-in-Ok-clause-found : goal.returns-in-Ok-clause-found
returns-in-Ok-clause-found c = where-text c.args.bytes.now (Some (table_view c.in-Ok.table)) c.in-Ok.ensures.ok.0 c.in-Ok.ensures.ok.1

pub returns-in-Err-2-clause-refused : goal.returns-in-Err-2-clause-refused
returns-in-Err-2-clause-refused c = λ _. (refl, or-none c.args.bytes.now (c.in-Err.ensures.refused (λ memory. false≢true (sym c.if-is_memory.false ∙ c.is_memory.ensures.1 memory))))
