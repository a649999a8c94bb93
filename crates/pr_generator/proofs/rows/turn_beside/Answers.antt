use Rattle.std.proofs.Common.{◌≡◌, ℕ, ◌-◌, ◌*◌, ◌++◌, List, length, take, drop, ap, sym, ◌∙◌, arith, length-drop, length-take-le}
use Rattle.std.proofs.lemmas.List.{append-nil, drop_all, take_at}
use Rattle.pr_generator.specs.Rows.{joined}
use Rattle.pr_generator.proofs.RowTurns.{length-joined}
use Rattle.pr_generator.proofs.rows.turn_beside.Goals as goal

-- the end of a list written over
end-written : (front rest new : List ℕ) → length front ≡ 64
    → take 64 (front ++ rest) ++ (new ++ drop (length (front ++ rest) - 64) (drop 64 (front ++ rest))) ≡ front ++ new
end-written front rest new sized =
    let long = length-drop 64 (front ++ rest) in
    ap (λ v. v ++ (new ++ drop (length (front ++ rest) - 64) (drop 64 (front ++ rest)))) (take_at front rest 64 sized)
    ∙ ap (λ v. front ++ (new ++ v)) (drop_all (length (front ++ rest) - 64) (drop 64 (front ++ rest)) (omega arith))
    ∙ ap (λ v. front ++ v) (append-nil new)

pub slice_bounds-write_rows-end-2 : goal.slice_bounds-write_rows-end-2
slice_bounds-write_rows-end-2 c = sym (length-take-le 64 c.args.words.now (omega arith))

pub write_rows-requires-clause-sized : goal.write_rows-requires-clause-sized
write_rows-requires-clause-sized c = length-take-le 64 c.args.words.now (omega arith)

pub returns-clause-words : goal.returns-clause-words
returns-clause-words c =
    let all = length-joined c.args.rows.now c.requires.rows.eight in
    let rows_8 = c.requires.rows.sized in
    let sized : length c.write_rows.new.out ≡ 64 = ap length c.write_rows.ensures ∙ all ∙ ap (λ n. 8 * n) rows_8 in
    let new = c.copy_from_slice.ensures.after ∙ c.turn-drawn.ensures.last in
    end-written c.write_rows.new.out (drop 64 c.args.words.now) c.copy_from_slice.new.self sized
    ∙ ap (λ v. v ++ c.copy_from_slice.new.self) c.write_rows.ensures
    ∙ ap (λ v. joined c.args.rows.now ++ v) new
