-- The pieces one behind the other.
use Rattle.std.proofs.Common.{rules, ◌≡◌, ℕ, SFits, w32, List, ◌++◌, codes, ap, sym, subst, ◌∙◌, append_assoc}
use Rattle.std.specs.Prelude.{ℤ}
use Rattle.std.specs.Fmt.{signed_decimal}
use Rattle.std.proofs.lemmas.Int.{to_z-of_z}
use Rattle.glass_edges.proofs.Puts.{behind}
use Rattle.report_text.specs.Lines.{row_line}
use Rattle.report_text.proofs.lines.fill_row.Goals as goal

-- two pieces behind a text
behind-two : (first mid last text a b : List ℕ) → mid ≡ first ++ text → last ≡ mid ++ (a ++ b) → last ≡ first ++ (text ++ a ++ b)
behind-two first mid last text a b e f = behind first mid last text (a ++ b) e f ∙ ap (λ xs. first ++ xs) (sym (append_assoc text a b))

-- a comma and a number behind a text
value-behind : (first mid last text : List ℕ) (z n : ℤ) → mid ≡ first ++ text → last ≡ mid ++ (codes "," ++ signed_decimal z) → z ≡ n
    → last ≡ first ++ (text ++ codes "," ++ signed_decimal n)
value-behind first mid last text z n e f same =
    behind-two first mid last text (codes ",") (signed_decimal n) e (subst (λ (i : ℤ). last ≡ mid ++ (codes "," ++ signed_decimal i)) same f)

pub returns : goal.returns
unfolding row_line
returns c =
    let old = c.args.line.now in
    let values = c.args.values.now in
    let first : SFits w32 values.first_energy = search rules in
    let second : SFits w32 values.second_energy = search rules in
    let overlap : SFits w32 values.overlap = search rules in
    let text = c.add_place.ensures.value in
    let text = value-behind old c.add_place.new.line c.add_value.new.line _ _ _ text c.add_value.ensures.value (to_z-of_z w32 _ first) in
    let text = value-behind old c.add_value.new.line c.add_value-2.new.line _ _ _ text c.add_value-2.ensures.value (to_z-of_z w32 _ second) in
    let text = value-behind old c.add_value-2.new.line c.add_value-3.new.line _ _ _ text c.add_value-3.ensures.value (to_z-of_z w32 _ overlap) in
    let text = behind-two old c.add_value-3.new.line c.add_label.new.line _ _ _ text c.add_label.ensures.value in
    let text = behind-two old c.add_label.new.line c.add_label-2.new.line _ _ _ text c.add_label-2.ensures.value in
    behind old c.add_label-2.new.line c.add.new.self _ _ text c.add.ensures
