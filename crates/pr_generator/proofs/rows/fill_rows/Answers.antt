use Rattle.std.proofs.Common.{◌≡◌, ℕ, ◌≤◌, List, ◌+◌, ◌*◌, ◌-◌, ◌/◌, ◌++◌, length, take, drop, ap, sym, ◌∙◌, arith, length-drop, length-take-le}
use Rattle.std.proofs.lemmas.List.{append-nil, drop_all}
use Rattle.spin_model.specs.Stream.{advanced, draws}
use Rattle.spin_model.proofs.Streams.{advanced-zero, advanced-advanced, draws-advanced}
use Rattle.spin_model.proofs.Tables.{table-zero}
use Rattle.pr_generator.specs.Rows.{state_of}
use Rattle.pr_generator.proofs.RowTurns.{draws-written}
use Rattle.pr_generator.proofs.rows.fill_rows.Goals as goal

-- the part that the rounds leave
abbrev part_from : ℕ → List ℕ → List ℕ
part_from n xs = take (length xs - n) (drop n xs)

length-part_from : (n : ℕ) (xs : List ℕ) → n ≤ length xs → n + length (part_from n xs) ≡ length xs
length-part_from n xs within =
    let left = length-drop n xs in
    let long = length-take-le (length xs - n) (drop n xs) (omega arith) in
    omega arith

pub rounds-init : goal.rounds-init
rounds-init c = record { rows = c.requires.rows; moved = sym (advanced-zero (state_of c.args.rows.now)); drawn = sym (table-zero _) }

pub rounds-preserved : goal.rounds-preserved
rounds-preserved c =
    let w = state_of c.args.rows.now in
    let n = 64 * c.rounds.i in
    let later : n + 64 ≡ 64 * (c.rounds.i + 1) = omega arith in
    record {
      rows = c.fill_round.ensures.rows;
      moved = c.fill_round.ensures.moved ∙ ap (λ v. advanced v 64) c.rounds.invariant.moved ∙ advanced-advanced w n 64 ∙ ap (advanced w) later;
      drawn =
          draws-written w n 64 (64 * (c.rounds.i + 1)) (n + 64 - n) c.rounds.out c.fill_round.new.out c.rounds.invariant.drawn
          (c.fill_round.ensures.drawn ∙ ap (λ v. draws v 64) c.rounds.invariant.moved) (omega arith) later;
    }

pub returns-clause-moved : goal.returns-clause-moved
returns-clause-moved c =
    let w = state_of c.args.rows.now in
    let n = 64 * (length c.args.out.now / 64) in
    let last : 64 * c.rounds.i ≡ n = omega arith in
    let rest = part_from n c.rounds.out in
    let all = length-part_from n c.rounds.out (omega arith) ∙ c.rounds.auto.out in
    c.fill_last.ensures.moved
    ∙ ap (λ v. advanced v (length rest)) (c.rounds.invariant.moved ∙ ap (advanced w) last)
    ∙ advanced-advanced w n (length rest)
    ∙ ap (advanced w) all

pub returns-clause-drawn : goal.returns-clause-drawn
returns-clause-drawn c =
    let w = state_of c.args.rows.now in
    let n = 64 * (length c.args.out.now / 64) in
    let last : 64 * c.rounds.i ≡ n = omega arith in
    let rest = part_from n c.rounds.out in
    let all = length-part_from n c.rounds.out (omega arith) ∙ c.rounds.auto.out in
    let before : take n c.rounds.out ≡ draws w n = rw last at c.rounds.invariant.drawn in
    let next : c.fill_last.new.out ≡ draws (advanced w n) (length rest) = c.fill_last.ensures.drawn ∙ ap (λ v. draws v (length rest)) (c.rounds.invariant.moved ∙ ap (advanced w) last) in
    let none = drop_all (length c.rounds.out - n) (drop n c.rounds.out) (omega (arith, length-drop n c.rounds.out)) in
    ap (λ v. take n c.rounds.out ++ (c.fill_last.new.out ++ v)) none
    ∙ ap (λ v. take n c.rounds.out ++ v) (append-nil c.fill_last.new.out)
    ∙ rw (before, next) (sym (draws-advanced w n (length rest)) ∙ ap (draws w) all)
