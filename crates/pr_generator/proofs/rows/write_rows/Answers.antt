use Rattle.std.proofs.Common.{◌≡◌, ℕ, ◌+◌, ◌*◌, ◌-◌, List, [], length, get_or, ap, refl, sym, ◌∙◌, arith}
use Rattle.std.proofs.lemmas.List.{take_all}
use Rattle.std.proofs.lemmas.List.Elements.{All-get_or}
use Rattle.std.proofs.lemmas.Slice.{take-put_mid}
use Rattle.pr_generator.specs.Rows.{joined}
use Rattle.pr_generator.proofs.RowTurns.{joined-more}
use Rattle.pr_generator.proofs.rows.write_rows.Goals as goal

pub each-init : goal.each-init
each-init c = refl

pub each-preserved : goal.each-preserved
each-preserved c =
    let xs = c.each.out in
    let q = c.each.q in
    let ys = c.copy_from_slice.new.self in
    let written : ys ≡ get_or c.args.rows.now q [] = c.copy_from_slice.ensures.after in
    let sized = All-get_or (λ (row : List ℕ). length row ≡ 8) c.args.rows.now q [] (omega (arith, c.requires.rows.sized)) c.requires.rows.eight in
    let eight : length ys ≡ 8 = ap length written ∙ sized in
    take-put_mid (8 * q) (8 * q + 8 - 8 * q) xs ys (8 * (q + 1)) (omega arith) (omega arith)
    ∙ rw (c.each.invariant, written) (sym (joined-more c.args.rows.now q (omega (arith, c.requires.rows.sized))))

pub returns : goal.returns
returns c =
    let last : c.each.q ≡ 8 = omega arith in
    let all = take_all 8 c.args.rows.now (omega (arith, c.requires.rows.sized)) in
    sym (take_all 64 c.each.out (omega arith)) ∙ (rw last at c.each.invariant) ∙ ap joined all
