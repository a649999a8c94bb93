use Rattle.std.proofs.Common.{◌≡◌, ◌+◌, ◌++◌, length, ap, ◌∙◌, sym, arith}
use Rattle.spin_model.specs.Stream.{advanced, draws}
use Rattle.spin_model.proofs.Streams.{advanced-advanced, draws-advanced}
use Rattle.pr_generator.specs.Rows.{state_of}
use Rattle.pr_generator.proofs.rows.fill_words.Goals as goal

pub returns-clause-moved : goal.returns-clause-moved
returns-clause-moved c =
    let w = state_of c.args.rows.now in
    let n = length c.split_at_mut-blocks.result.0.now in
    let m = length c.split_at_mut-blocks.result.1.now in
    let all : n + m ≡ length c.args.out.now = omega (arith, c.split_at_mut-blocks.ensures.front_len, c.split_at_mut-blocks.ensures.back_len) in
    c.fill_rest.ensures.moved
    ∙ ap (λ v. advanced v m) c.fill_rows.ensures.moved
    ∙ advanced-advanced w n m
    ∙ ap (advanced w) all

pub returns-clause-drawn : goal.returns-clause-drawn
returns-clause-drawn c =
    let w = state_of c.args.rows.now in
    let n = length c.split_at_mut-blocks.result.0.now in
    let m = length c.split_at_mut-blocks.result.1.now in
    let all : n + m ≡ length c.args.out.now = omega (arith, c.split_at_mut-blocks.ensures.front_len, c.split_at_mut-blocks.ensures.back_len) in
    let blocks = c.fill_rows.ensures.drawn in
    let rest = c.fill_rest.ensures.drawn ∙ ap (λ v. draws v m) c.fill_rows.ensures.moved in
    ap (λ v. v ++ c.fill_rest.new.out) blocks
    ∙ ap (λ v. draws w n ++ v) rest
    ∙ sym (draws-advanced w n m)
    ∙ ap (draws w) all
