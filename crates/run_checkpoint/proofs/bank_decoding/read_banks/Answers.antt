-- No test answers that memory ran out, and the plans have one shape.
use Rattle.std.specs.Arc.{arc_value}
use Rattle.std.specs.Global.{Vec}
use Rattle.std.proofs.Common.{◌≡◌, Err, refl, ap, sym, map, drop, arith, ◌∙◌}
use Rattle.glass_edges.proofs.FirstRefusals.{gives-after-tests-refusal, is-found}
use Rattle.plane_sweep.specs.declared.stand.Stand.{Stand}
use Rattle.scalar_rule.specs.Plan.{Plan, slots_of}
use Rattle.run_checkpoint.specs.BankDecoding.{banks_decoded, banks_in}
use Rattle.run_checkpoint.specs.BankEncoding.{bank_len}
use Rattle.run_checkpoint.specs.Lengths.{encoding_len}
use Rattle.run_checkpoint.specs.declared.refused.CheckpointRefused.TheVariants as refused
use Rattle.run_checkpoint.proofs.BankClauses.{banks-tells}
use Rattle.run_checkpoint.proofs.BankSteps.{plan-len}
use Rattle.run_checkpoint.proofs.Tested.{not-memory}
use Rattle.run_checkpoint.proofs.bank_decoding.read_banks.Goals as goal

pub banks_refusal-requires-clause-len : goal.banks_refusal-requires-clause-len
banks_refusal-requires-clause-len c =
    c.bank_len-len.ensures.value ∙ ap (λ (p : Plan). encoding_len p.size (slots_of p)) c.deref.ensures
    ∙ sym (plan-len arc_value c.args.plans.now 0 c.index-plans-0.result c.requires.shape (omega (arith, c.requires.several)) c.index-plans-0.is)

pub stands_of-requires-clause-len : goal.stands_of-requires-clause-len
stands_of-requires-clause-len c =
    c.bank_len-len.ensures.value ∙ ap (λ (p : Plan). encoding_len p.size (slots_of p)) c.deref.ensures
    ∙ sym (plan-len arc_value c.args.plans.now 0 c.index-plans-0.result c.requires.shape (omega (arith, c.requires.several)) c.index-plans-0.is)

pub returns-in-Some : goal.returns-in-Some
unfolding banks_decoded
returns-in-Some c =
    gives-after-tests-refusal {A = Vec Stand} refused.NoMemory (λ (v : Vec Stand). v.items) (Err c.in-Some.refused) c.in-Some.refused _ _ refl
    (not-memory c.in-Some.refused _ (banks-tells (map arc_value c.args.plans.now) c.args.until c.args.bytes.now) c.in-Some.ensures.value)
    c.in-Some.ensures.value

pub returns : goal.returns
unfolding banks_decoded
returns c =
    let len : c.bank_len-len.result ≡ bank_len (map arc_value c.args.plans.now) =
    c.bank_len-len.ensures.value ∙ ap (λ (p : Plan). encoding_len p.size (slots_of p)) c.deref.ensures
    ∙ sym (plan-len arc_value c.args.plans.now 0 c.index-plans-0.result c.requires.shape (omega (arith, c.requires.several)) c.index-plans-0.is) in
    is-found _ _ _ c.in_default.ensures.value
    (sym (c.in_ok-stands_of.ensures ∙ ap (banks_in c.bank_len-len.result (map arc_value c.args.plans.now)) c.behind.ensures.value ∙ ap (λ n. banks_in n (map arc_value c.args.plans.now) (drop 12 c.args.bytes.now)) len))
