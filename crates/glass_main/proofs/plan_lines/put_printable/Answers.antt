use Rattle.std.proofs.Common.{◌++◌, ◌∷◌, [], map, take, drop, get_or, sym, ap, ◌∙◌, append_assoc}
use Rattle.glass_edges.proofs.Writing.{fronts-then, fronts-placed, fronts-failed}
use Rattle.glass_main.specs.Lines.{printable}
use Rattle.glass_main.proofs.PrintedBytes.{printed-more, printed-rest}
use Rattle.glass_main.proofs.plan_lines.put_printable.Goals as goal

pub bytes-preserved : goal.bytes-preserved
bytes-preserved g c =
    let k = c.bytes.b-index in
    let all = c.args.bytes.now in
    let more = append_assoc c.args.line.now (map printable (take k all)) (printable (get_or all k 0) ∷ [])
    ∙ ap (λ xs. c.args.line.now ++ xs) (sym (printed-more all k c.bytes-test.true)) in
    fronts-placed (printable (get_or all k 0) ∷ []) (fronts-then c.bytes.invariant c.in_ok-make_room.ensures.written) (rw (← c.printable.ensures) c.add.ensures) (sym more)

pub returns-in_err-make_room : goal.returns-in_err-make_room
returns-in_err-make_room g c =
    let k = c.bytes.b-index in
    let all = c.args.bytes.now in
    let joined = append_assoc c.args.line.now (map printable (take k all)) (map printable (drop k all))
    ∙ ap (λ xs. c.args.line.now ++ xs) (printed-rest all k) in
    fronts-failed (map printable (drop k all)) c.from_residual.ensures.0 (fronts-then c.bytes.invariant c.in_err-make_room.ensures.written) (sym joined)
