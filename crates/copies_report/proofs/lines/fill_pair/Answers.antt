-- The columns up to half the side are the sums at the distances.
use Rattle.std.proofs.Common.{◌≡◌, ℕ, ◌+◌, ◌/◌, ◌%◌, ◌<◌, ◌≤◌, List, [], ◌∷◌, ◌++◌, ap, ap₂, ◌∙◌, append_assoc, arith}
use Rattle.std.specs.Prelude.{ℤ, codes}
use Rattle.measured_sums.specs.PlaneCorrelations.{axis_correlation, face_correlation}
use Rattle.quenched_states.specs.CrossText.{copies_line}
use Rattle.copies_report.specs.States.{copies_at}
use Rattle.copies_report.proofs.Printed.{column-shown}
use Rattle.copies_report.proofs.lines.fill_pair.Goals as goal

grouped : (line a b c : List ℕ) → ((line ++ a) ++ b) ++ c ≡ line ++ (a ++ b ++ c)
grouped line a b c = simp append_assoc

pub returns : goal.returns
returns c = λ field told.
    let at = c.args.place in
    let l = c.args.lattice in
    let b = at.sample % 64 in
    let pair = copies_at at.pair in
    let below : b < 64 = omega arith in
    let count = l / 2 + 1 in
    let few : count ≤ 33 = omega (arith, c.size.ensures.lawful.1) in
    let axis = column-shown (axis_correlation l (field b)) c.column_of.result count _ c.column_of.ensures.length
    (λ r near. c.column_of.ensures.value r (omega (arith, near, few)) ∙ told.axis r b (omega (arith, near)) below) few (omega (arith, c.size.ensures.value)) in
    let face = column-shown (face_correlation l (field b)) c.column_of-2.result count _ c.column_of-2.ensures.length
    (λ r near. c.column_of-2.ensures.value r (omega (arith, near, few)) ∙ told.face r b (omega (arith, near)) below) few (omega (arith, c.size.ensures.value)) in
    let totals = ap₂ (λ (q a : ℤ). q ∷ a ∷ []) (told.overlaps b below) (told.links b below) in
    let shown = λ (line : List ℕ) (kind : List ℕ) (values : List ℤ). line ++ copies_line kind at.sample at.slot pair values in
    c.fill_numbers-3.ensures.value
    ∙ ap₂ (λ (line : List ℕ) (values : List ℤ). shown line (codes "face") values)
    (c.fill_numbers-2.ensures.value
    ∙ ap₂ (λ (line : List ℕ) (values : List ℤ). shown line (codes "axis") values)
    (c.fill_numbers.ensures.value ∙ ap (λ (values : List ℤ). shown c.args.line.now (codes "pair") values) (c.totals_of.ensures ∙ totals))
    axis)
    face
    ∙ grouped c.args.line.now _ _ _
