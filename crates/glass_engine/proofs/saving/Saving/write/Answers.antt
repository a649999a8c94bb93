use Rattle.std.proofs.Common.{arith, length, subst, ap, ◌∙◌}
use Rattle.std.proofs.lemmas.List.{length-append}
use Rattle.run_checkpoint.specs.Encoding.{FitsKind}
use Rattle.run_checkpoint.specs.declared.kinds.Kind.TheVariants as kinds
use Rattle.run_checkpoint.proofs.UnevenForm.{kind-length}
use Rattle.glass_engine.specs.KeptSaving.{bank_need, limit_of, HasRoom, EndsAs}
use Rattle.glass_engine.proofs.Savings.{uneven-room, flattened-fits}
use Rattle.glass_engine.proofs.saving.Saving.write.Goals as goal

pub encode-requires-clause-fits : goal.encode-requires-clause-fits
encode-requires-clause-fits c =
    (subst (λ s. EndsAs s c.args.stand.now) c.in-Level.is c.requires.level, flattened-fits c.args.plan.now c.args.samples c.args.every c.args.stand.now c.lattice.ensures.lawful c.requires.fits)

pub encode-requires-in-Ragged-clause-spare : goal.encode-requires-in-Ragged-clause-spare
encode-requires-in-Ragged-clause-spare c =
    let room = subst (HasRoom (bank_need c.args.plan.now c.args.samples)) c.in-Ragged.is c.requires.room in
    omega (arith, room.long, ap length room.empty, uneven-room c.args.plan.now c.args.samples c.args.every c.args.stand.now c.requires.fits)

pub returns-in-Level-clause-limit : goal.returns-in-Level-clause-limit
returns-in-Level-clause-limit c =
    let written = ap length c.encode.ensures.bytes ∙ length-append c.in-Level.room.bytes _ in
    let fits : FitsKind kinds.Level c.args.plan.now c.args.stand.now = (subst (λ s. EndsAs s c.args.stand.now) c.in-Level.is c.requires.level, flattened-fits c.args.plan.now c.args.samples c.args.every c.args.stand.now c.lattice.ensures.lawful c.requires.fits) in
    let was = ap limit_of c.in-Level.is in
    omega (arith, was, written, c.encode.ensures.spare, kind-length kinds.Level c.args.plan.now c.args.stand.now c.lattice.ensures.lawful fits)

pub returns-in-Ragged-clause-limit : goal.returns-in-Ragged-clause-limit
returns-in-Ragged-clause-limit c =
    let written = ap length c.encode-in-Ragged.ensures.bytes ∙ length-append c.in-Ragged.room.bytes _ in
    let was = ap limit_of c.in-Ragged.is in
    omega (arith, was, written, c.encode-in-Ragged.ensures.spare, kind-length (kinds.Uneven c.args.samples c.args.every) c.args.plan.now c.args.stand.now c.lattice.ensures.lawful c.requires.fits)
