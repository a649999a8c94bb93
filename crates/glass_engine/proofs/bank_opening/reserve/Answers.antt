use Rattle.std.specs.Arc.{arc_value}
use Rattle.std.proofs.Common.{rules, arith, ◌≡◌, ◌+◌, ◌*◌, ap, ap₂, sym, ◌∙◌, map}
use Rattle.std.proofs.lemmas.List.{length-map}
use Rattle.run_checkpoint.specs.BankEncoding.{bank_len}
use Rattle.scalar_rule.specs.Plan.{Plan, slots_of}
use Rattle.glass_engine.proofs.BankLoops.{first-len}
use Rattle.glass_engine.proofs.bank_opening.reserve.Goals as goal

pub returns-in_ok-room-in-Level-clause-room : goal.returns-in_ok-room-in-Level-clause-room
returns-in_ok-room-in-Level-clause-room c =
    let plans = c.args.plans.now in
    let len = first-len arc_value plans c.index-plans-0.result c.requires.some c.index-plans-0.is in
    let size = ap (λ (p : Plan). p.size) c.deref.ensures in
    let slots = ap (λ (p : Plan). slots_of p) c.deref-in-Level.ensures in
    let own = c.length-bank.ensures.value in
    let is : bank_len (map arc_value plans) ≡ c.length-bank.result = len ∙ sym (own ∙ search rules) in
    let z = ap₂ (λ k n. 44 + k * n) is (length-map plans arc_value) in
    record {
      long = omega (arith, z, c.in_ok-room-in-Level.ensures.spare);
      empty = c.in_ok-room-in-Level.ensures.empty;
    }
