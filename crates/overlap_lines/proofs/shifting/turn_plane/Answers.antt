-- In x the rows are turned, each by its parity; in z nothing is.
use Rattle.std.proofs.Common.{◌≡◌, ◌+◌, ◌*◌, ◌/◌, ◌%◌, ◌<◌, ◌≤◌, get_or, ap, sym, ◌∙◌, arith}
use Rattle.std.proofs.lemmas.Nat.{div-add-mod'}
use Rattle.std.proofs.Math.Nat.{mod-eq_of_lt}
use Rattle.bit_totals.proofs.Places.{Within, bounds, row_at}
use Rattle.overlap_lines.specs.Counted.{place_on}
use Rattle.overlap_lines.proofs.StepPlaces.{place-in-x, place-in-z}
use Rattle.overlap_lines.proofs.shifting.turn_plane.Goals as goal

pub returns-in-0 : goal.returns-in-0
returns-in-0 c = λ j h.
    let l = c.args.size in
    let q = c.args.q in
    let r = c.args.shift.distance in
    let words = c.args.words.now in
    let within : Within l q j = record { lawful = c.requires.size; plane = c.requires.plane; place = h } in
    let b = bounds l q j within in
    let even = b.even in
    let row : row_at l j < 2 * (l / 2) = omega (arith, b.y) in
    let read = c.turn_rows.ensures (row_at l j) (j % (l / 2)) row b.k in
    let place = div-add-mod' j (l / 2) in
    rw place at read ∙ sym (ap (λ d. get_or words (place_on l q d r j) 0) c.in-0.is ∙ ap (λ p. get_or words p 0) (place-in-x l q r j))

pub returns-in_default : goal.returns-in_default
returns-in_default c = λ j h.
    let l = c.args.size in
    let q = c.args.q in
    let d = c.args.shift.direction in
    let r = c.args.shift.distance in
    let words = c.args.words.now in
    let above : 2 ≤ d = omega (arith, c.in_default) in
    let same : j + 0 ≡ j = omega arith in
    let sized = c.requires.sized in
    let read = c.turn-in_default.ensures j (omega arith) in
    read ∙ ap (λ p. get_or words p 0) (mod-eq_of_lt (omega arith) ∙ same ∙ sym (place-in-z l q d r j above))
