use Rattle.std.specs.Arc.{arc_value}
use Rattle.std.proofs.Common.{◌≡◌, ℕ, ◌*◌, length, map, ap, ap₂, sym, ◌∙◌, arith}
use Rattle.std.proofs.lemmas.List.{length-map}
use Rattle.scalar_rule.specs.Plan.{Plan, slots_of}
use Rattle.run_checkpoint.specs.BankEncoding.{bank_len}
use Rattle.run_checkpoint.specs.Lengths.{encoding_len}
use Rattle.measured_run.proofs.Openings.{first-len}
use Rattle.measured_run.proofs.opening.reserve.Goals as goal

pub returns-clause-room : goal.returns-clause-room
returns-clause-room c =
    let plans = c.args.plans.now in
    let p = c.index-plans-0.result in
    let size = c.size.ensures.value ∙ c.lattice.ensures.value ∙ ap (λ (q : Plan). q.size) c.deref.ensures in
    let slots = c.slots.ensures.value ∙ ap (λ (q : Plan). slots_of q) c.deref-2.ensures in
    let own : c.length-bank.result ≡ bank_len (map arc_value plans) =
    c.length-bank.ensures.value ∙ ap₂ encoding_len size slots ∙ sym (first-len arc_value plans p c.requires.some c.index-plans-0.is) in
    let all : bank_len (map arc_value plans) * length (map arc_value plans) ≡ c.length-bank.result * length plans =
    ap₂ (λ (m n : ℕ). m * n) (sym own) (length-map plans arc_value) in
    (c.in_ok-room.ensures.empty, omega (arith, all, c.in_ok-room.ensures.spare))
