-- The draws of a row are the next ones of each sample's stream.
use Rattle.std.proofs.Common.{inl, inr, ◌≡◌, ℕ, ◌+◌, ◌-◌, ◌*◌, ◌<◌, ◌≤◌, [], length, get_or, sym, ap, ◌∙◌, arith, rules}
use Rattle.std.proofs.lemmas.Bool.{cases_lt}
use Rattle.std.proofs.lemmas.Nat.{mul-le}
use Rattle.spin_model.specs.Lattice.{bond_count}
use Rattle.spin_model.specs.Stream.{advanced, draw}
use Rattle.spin_model.specs.Words.{is_set}
use Rattle.spin_model.proofs.Streams.{advanced-zero, advanced-advanced, draw-advanced}
use Rattle.coupling_set.specs.CouplingWords.{bonds_of}
use Rattle.coupling_set.specs.KeptWords.{kept_on}
use Rattle.coupling_set.proofs.drawing.draw_rows.Goals as goal

-- the bonds of a row lie within the lattice
row-within : (l r : ℕ) → r < l * l → 3 * l * r + 3 * l ≤ bond_count l
row-within l r within = let bound = mul-le (3 * l) (r + 1) (3 * l) (l * l) (omega arith) (omega arith) in omega arith

pub rows-init : goal.rows-init
rows-init c = let none : 3 * c.args.lattice.now * 0 ≡ 0 = omega arith in record {
  samples = c.requires.samples;
  moved = λ b h. rw none (sym (advanced-zero _));
  drawn = λ b n h less. absurd (omega arith);
}

pub write_row-requires-clause-bonds : goal.write_row-requires-clause-bonds
write_row-requires-clause-bonds c =
    let size = c.size-size.ensures.value in
    let long : length c.next_row.new.row ≡ 3 * c.args.lattice.now = search (rules, arith) in
    rw (size, long) (row-within c.args.lattice.now c.rows.r (rw size at c.rows-test.true))

pub rows-preserved : goal.rows-preserved
rows-preserved c =
    let l = c.args.lattice.now in
    let start = 3 * l * c.rows.r in
    let known = c.rows.invariant in
    let size = c.size-size.ensures.value in
    let count : length c.rows.draws ≡ 3 * l = search (rules, arith) in
    let long : length c.next_row.new.row ≡ 3 * l = search (rules, arith) in
    let next = rw count at c.next_row.ensures in
    let written = rw size at c.write_row.ensures in
    record {
      samples = next.samples;
      moved = λ b h. next.moved b h ∙ ap (λ w. advanced w (3 * l)) (known.moved b h)
          ∙ advanced-advanced (get_or c.args.wheels.now b []) start (3 * l) ∙ ap (advanced (get_or c.args.wheels.now b [])) (omega arith);
      drawn = λ b n h less. elim (cases_lt n start) [
        | inl before ↦ written.before b n before ∙ known.drawn b n h before
        | inr not ↦
            let k = n - start in
            let place : n ≡ start + k = omega arith in
            let w = get_or c.args.wheels.now b [] in
            ap (bonds_of (kept_on l c.write_row.new.words) b) place
            ∙ written.written b k (omega (arith, long)) ∙ next.bits b k h (omega arith)
            ∙ ap (λ v. is_set (draw v k) 31) (known.moved b h) ∙ ap (λ v. is_set v 31) (draw-advanced w start k)
            ∙ ap (λ m. is_set (draw w m) 31) (sym place)
      ];
    }

pub returns : goal.returns
returns c = λ b n small within.
    let l = c.args.lattice.now in
    let size = c.size-size.ensures.value in
    let rows : l * l ≤ c.rows.r = rw (← size) (omega arith) in
    let whole = mul-le (3 * l) (l * l) (3 * l) c.rows.r (omega arith) rows in
    c.rows.invariant.drawn b n small (omega (arith, whole))
