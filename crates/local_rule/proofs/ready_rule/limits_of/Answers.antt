use Rattle.std.proofs.Common.{List, [], ◌∷◌, ℤ, pos, to_z, of_z, w64, slice_index, slice_index_or}
use Rattle.local_rule.specs.ReadyRules.{IsLimit}
use Rattle.local_rule.proofs.Limits.{seven-each, kept-limit}
use Rattle.local_rule.proofs.ready_rule.limits_of.Goals as goal

pub returns : goal.returns
returns c =
    let t = c.args.row.now.values in
    let z₀ = c.with_sign.result in
    let z₁ = c.with_sign-2.result in
    let z₂ = c.with_sign-3.result in
    let z₃ = c.with_sign-4.result in
    let z₄ = c.with_sign-5.result in
    let z₅ = c.with_sign-6.result in
    let z₆ = c.with_sign-7.result in
    let kept : ℤ → ℤ = λ z. to_z w64 (of_z w64 z) in
    let limits : List ℤ = kept z₀ ∷ kept z₁ ∷ kept z₂ ∷ kept z₃ ∷ kept z₄ ∷ kept z₅ ∷ kept z₆ ∷ [] in
    seven-each (λ case. IsLimit (slice_index t case) (slice_index_or limits case (pos 0)))
    (kept-limit (slice_index t 0) z₀ (record { sfits = c.with_sign.type_inv }) c.with_sign.ensures)
    (kept-limit (slice_index t 1) z₁ (record { sfits = c.with_sign-2.type_inv }) c.with_sign-2.ensures)
    (kept-limit (slice_index t 2) z₂ (record { sfits = c.with_sign-3.type_inv }) c.with_sign-3.ensures)
    (kept-limit (slice_index t 3) z₃ (record { sfits = c.with_sign-4.type_inv }) c.with_sign-4.ensures)
    (kept-limit (slice_index t 4) z₄ (record { sfits = c.with_sign-5.type_inv }) c.with_sign-5.ensures)
    (kept-limit (slice_index t 5) z₅ (record { sfits = c.with_sign-6.type_inv }) c.with_sign-6.ensures)
    (kept-limit (slice_index t 6) z₆ (record { sfits = c.with_sign-7.type_inv }) c.with_sign-7.ensures)
