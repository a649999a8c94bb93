-- Each round puts a front of the text so far where the line is full, and adds what fits.
use Rattle.std.proofs.Common.{rules, arith, ◌≡◌, ℕ, ◌+◌, ◌-◌, ◌<◌, List, ◌++◌, length, take, drop, sym, ap, ◌∙◌, append_assoc, length-append, length-take-le}
use Rattle.std.proofs.Math.Seq.{take-add}
use Rattle.glass_edges.proofs.Puts.{text-rest}
use Rattle.glass_edges.proofs.Writing.{fronts-then, fronts-placed, fronts-failed}
use Rattle.glass_edges.proofs.line.Line.extend.Goals as goal

-- the text so far and the next piece
text-more : (first bytes : List ℕ) (at n : ℕ) → (first ++ take at bytes) ++ take (at + n - at) (drop at bytes) ≡ first ++ take (at + n) bytes
text-more first bytes at n =
    let e : at + n - at ≡ n = omega arith in
    append_assoc first (take at bytes) (take (at + n - at) (drop at bytes))
    ∙ ap (λ xs. first ++ xs) (rw e (sym (take-add at n bytes)))

pub pieces-preserved : goal.pieces-preserved
pieces-preserved g c = record {
  within = search (rules, arith);
  written = fronts-placed _ (fronts-then c.pieces.invariant.written c.in_ok-make_room.ensures.written) c.add.ensures
      (sym (text-more c.args.self.now c.args.bytes.now c.pieces.at c.min-count.result));
  stays = λ fits.
      let some : 0 < c.min-count.result = omega (arith, c.min-count.ensures, c.len.ensures.value, c.in_ok-make_room.ensures.room, c.pieces-test.true) in
      let before = c.pieces.invariant.stays (omega (arith, fits)) in
      let long : length c.pieces.self ≡ length c.args.self.now + c.pieces.at =
      ap length before.0 ∙ length-append c.args.self.now _ ∙ ap (λ n. length c.args.self.now + n) (length-take-le c.pieces.at c.args.bytes.now c.pieces.invariant.within) in
      let room = c.make_room.ensures.stays (omega (arith, long, fits, some)) in (
        c.add.ensures ∙ ap (λ xs. xs ++ take (c.pieces.at + c.min-count.result - c.pieces.at) (drop c.pieces.at c.args.bytes.now)) (room.1 ∙ before.0)
            ∙ text-more c.args.self.now c.args.bytes.now c.pieces.at c.min-count.result,
        room.2 ∙ before.1,
      );
}

pub returns-in_err-make_room-clause-written : goal.returns-in_err-make_room-clause-written
returns-in_err-make_room-clause-written g c =
    fronts-failed (drop c.pieces.at c.args.bytes.now) c.from_residual.ensures.0 (fronts-then c.pieces.invariant.written c.in_err-make_room.ensures.written)
    (sym (text-rest c.args.self.now c.args.bytes.now c.pieces.at))
