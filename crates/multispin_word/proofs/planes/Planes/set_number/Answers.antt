-- Each plane takes its bit of the value in the one sample and keeps the others.
use Rattle.std.proofs.Common.{◌≡◌, ◌^◌, ◌<◌, length-set, refl, sym, ◌∙◌, arith}
use Rattle.std.proofs.lemmas.Bool.{eq-eqb}
use Rattle.std.proofs.lemmas.List.{get_or-set_other}
use Rattle.std.proofs.Math.Nat.{mod-one, mod-eq_of_lt}
use Rattle.multispin_word.proofs.Bits.{same-bit}
use Rattle.multispin_word.proofs.Numbers.{first-none, first-more, set-more, low-more, whole}
use Rattle.multispin_word.proofs.planes.Planes.set_number.Goals as goal

pub planes-init : goal.planes-init
planes-init g c = record {
  long = refl;
  number = first-none _ _ ∙ sym (mod-one _);
  others = λ b h k. refl;
  rest = λ j h. refl;
}

pub planes-preserved : goal.planes-preserved
planes-preserved g c =
    let known = c.planes.invariant in
    let i = c.planes.w in
    let new = c.planes.self.words in
    let old = c.args.self.now.words in
    let x = c.with_bit.result in
    let itself = eq-eqb c.args.sample c.args.sample refl in
    let written = rw (itself, c.bit.ensures) at (c.with_bit.ensures c.args.sample (omega arith)) in
    let here = same-bit x c.args.sample c.args.value i written in
    record {
      long = length-set new i x ∙ known.long;
      number = set-more new i x c.args.sample _ _ _ (omega arith) known.number here (low-more c.args.value i);
      others = λ b h k.
          let kept = same-bit x b _ b (rw (k, known.rest i (omega arith)) at (c.with_bit.ensures b h)) in
          set-more new i x b _ _ _ (omega arith) (known.others b h k) kept (first-more old i b);
      rest = λ j h. get_or-set_other new i j x 0 (λ e. omega (arith, e, h)) ∙ known.rest j (omega arith);
    }

pub returns-clause-number : goal.returns-clause-number
returns-clause-number g c =
    let known = c.planes.invariant in
    let new = c.planes.self.words in
    let last : c.planes.w ≡ g.row.W = omega arith in
    let small : c.args.value < 2 ^ c.planes.w = rw last c.requires.value in
    sym (whole new c.planes.w c.args.sample (omega (arith, known.long))) ∙ known.number ∙ mod-eq_of_lt small
