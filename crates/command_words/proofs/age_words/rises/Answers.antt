use Rattle.std.proofs.Common.{rules, arith, ◌≡◌, ◌+◌, ◌-◌, ◌<◌, ◌≤◌, false, nat_lt, length, slice_index, sym, ◌∙◌}
use Rattle.std.proofs.lemmas.Bool.{and_from, and_right, lt-ltb}
use Rattle.std.proofs.lemmas.Bool.Decides.{nat_tests}
use Rattle.command_words.proofs.AgeTimes.{rises-none, rises-more, rises-past}
use Rattle.command_words.proofs.age_words.rises.Goals as goal

pub times-init : goal.times-init
times-init c = rises-none c.args.times.now

pub times-preserved : goal.times-preserved
times-preserved c =
    let less : slice_index c.args.times.now c.times.k < slice_index c.args.times.now (c.times.k + 1) = search (rules, arith) in
    rises-more c.args.times.now c.times.k ∙ and_from _ _ c.times.invariant (lt-ltb _ _ less)

pub returns-then-times-k : goal.returns-then-times-k
returns-then-times-k c =
    let least : slice_index c.args.times.now (c.times.k + 1) ≤ slice_index c.args.times.now c.times.k = search (rules, arith) in
    let no : nat_lt (slice_index c.args.times.now c.times.k) (slice_index c.args.times.now (c.times.k + 1)) ≡ false = grind (arith, nat_tests) in
    let within : c.times.k + 1 ≤ length c.args.times.now - 1 = search (rules, arith) in
    sym (rises-past c.args.times.now (c.times.k + 1) (length c.args.times.now - 1) within
    (rises-more c.args.times.now c.times.k ∙ and_right _ _ no))
