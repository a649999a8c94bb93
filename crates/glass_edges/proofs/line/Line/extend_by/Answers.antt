-- Each round puts a front of the text so far where the line is full, and adds the next byte.
use Rattle.std.proofs.Common.{arith, ◌≡◌, ℕ, ◌+◌, ◌<◌, List, [], ◌∷◌, ◌++◌, length, take, drop, get_or, refl, sym, ap, ◌∙◌, append_assoc}
use Rattle.std.proofs.lemmas.List.{take_more}
use Rattle.glass_edges.proofs.Puts.{text-rest}
use Rattle.glass_edges.proofs.Writing.{fronts-none, fronts-then, fronts-placed, fronts-failed}
use Rattle.glass_edges.proofs.line.Line.extend_by.Goals as goal

-- the text so far and the next byte
text-next : (first text : List ℕ) (k byte : ℕ) → k < length text → byte ≡ get_or text k 0 → (first ++ take k text) ++ (byte ∷ []) ≡ first ++ take (k + 1) text
text-next first text k byte below told =
    append_assoc first (take k text) (byte ∷ [])
    ∙ ap (λ (b : ℕ). first ++ (take k text ++ (b ∷ []))) told
    ∙ ap (λ (xs : List ℕ). first ++ xs) (sym (take_more text k 0 below))

pub bytes-init : goal.bytes-init
bytes-init g c = record {
  written = λ text tells. fronts-none refl;
  passed = refl;
}

pub bytes-preserved : goal.bytes-preserved
bytes-preserved g c = record {
  written = λ text tells.
      let within : c.bytes.k < c.args.count = omega (arith, c.bytes-test.true) in
      let below : c.bytes.k < length text = omega (arith, within, tells.sized) in
      fronts-placed _ (fronts-then (c.bytes.invariant.written text tells) c.in_ok-make_room.ensures.written) c.add.ensures
      (sym (text-next c.args.self.now text c.bytes.k c.byte_at.result below (tells.each c.bytes.k c.byte_at.result within c.byte_at.ensures)));
  passed = c.in_ok-make_room.ensures.written.cause.passed ∙ c.bytes.invariant.passed;
}

pub returns-in_err-make_room-clause-written : goal.returns-in_err-make_room-clause-written
returns-in_err-make_room-clause-written g c = λ text tells.
    fronts-failed (drop c.bytes.k text) c.from_residual.ensures.0 (fronts-then (c.bytes.invariant.written text tells) c.in_err-make_room.ensures.written)
    (sym (text-rest c.args.self.now text c.bytes.k))
