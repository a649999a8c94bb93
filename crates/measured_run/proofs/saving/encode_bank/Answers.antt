use Rattle.std.proofs.Common.{◌++◌, ap, sym, subst, ◌∙◌, arith}
use Rattle.scalar_rule.specs.Plan.{Plan, slots_of}
use Rattle.scalar_rule.specs.Serial.{serial}
use Rattle.plane_sweep.specs.Packed.{part}
use Rattle.run_checkpoint.specs.Encoding.{encoding, flattened, FitsKind}
use Rattle.run_checkpoint.specs.declared.kinds.Kind.TheVariants as kinds
use Rattle.run_checkpoint.specs.Lengths.{encoding_len}
use Rattle.run_checkpoint.proofs.LevelClauses.{encoding-same}
use Rattle.measured_run.specs.Banks.{start_of}
use Rattle.measured_run.proofs.saving.encode_bank.Goals as goal

pub encode-requires-clause-fits : goal.encode-requires-clause-fits
encode-requires-clause-fits c =
    subst (λ (p : Plan). FitsKind kinds.Level p c.stand.result.now) (sym c.plan.ensures) (c.stand.ensures.level, c.stand.ensures.fits)

pub encode-requires-clause-spare : goal.encode-requires-clause-spare
encode-requires-clause-spare c =
    let own = ap (λ (p : Plan). encoding_len p.size (slots_of p)) c.plan.ensures in
    omega (arith, own, c.requires)

pub returns-clause-bytes : goal.returns-clause-bytes
returns-clause-bytes c =
    let bank = c.args.bank.now in
    let plan = bank.plan in
    let stand = c.stand.result.now in
    c.encode.ensures.bytes
    ∙ ap (λ (p : Plan). c.args.room.now.bytes ++ encoding p (λ b. part p.size b (flattened stand))) c.plan.ensures
    ∙ ap (λ xs. c.args.room.now.bytes ++ xs)
    (encoding-same plan (λ b. part plan.size b (flattened stand)) (λ b. serial plan (start_of plan bank.base b) bank.until) c.stand.ensures.states)

pub returns-clause-spare : goal.returns-clause-spare
returns-clause-spare c =
    let own = ap (λ (p : Plan). encoding_len p.size (slots_of p)) c.plan.ensures in
    omega (arith, own, c.encode.ensures.spare)
