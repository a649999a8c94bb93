use Rattle.std.proofs.Common.{◌≡◌, ◌+◌, ◌/◌, ◌%◌, ◌<◌, ℕ, get_or, refl, ap, ◌∙◌, arith}
use Rattle.multispin_word.proofs.Bits.{same-bit}
use Rattle.spin_model.specs.Stream.{draw}
use Rattle.spin_model.specs.Words.{is_set}
use Rattle.spin_model.proofs.Tables.{get_or-table}
use Rattle.multispin_word.proofs.Halves.{half-of_pair}
use Rattle.potts_glass.proofs.start.random_site.Goals as goal

pub returns-clause-colours : goal.returns-clause-colours
returns-clause-colours c = λ b below.
    let w = c.args.wheel.now in
    let drawn : (n : ℕ) → n < 4 → get_or c.fill.new.out n 0 ≡ draw w n = λ n h. ap (λ xs. get_or xs n 0) c.fill.ensures.drawn ∙ get_or-table (draw w) 4 n 0 h in
    let low = same-bit _ _ (draw w (0 + b / 32)) (b % 32) (c.joined.ensures b below
    ∙ ap (λ x. is_set x (b % 32)) (half-of_pair c.fill.new.out 0 b below ∙ drawn (0 + b / 32) (omega arith))) in
    let high = same-bit _ _ (draw w (2 + b / 32)) (b % 32) (c.joined-2.ensures b below
    ∙ ap (λ x. is_set x (b % 32)) (half-of_pair c.fill.new.out 2 b below ∙ drawn (2 + b / 32) (omega arith))) in
    rw (low, high) refl
