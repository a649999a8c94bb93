use Rattle.std.proofs.Common.{sym, ap, ◌∙◌}
use Rattle.kept_states.proofs.Written.{rests, longer}
use Rattle.run_checkpoint.specs.Encoding.{flattened}
use Rattle.kept_states.proofs.level_room.put_bank.Goals as goal

pub encode-requires-clause-fits : goal.encode-requires-clause-fits
encode-requires-clause-fits c =
    rests c.args.plan.now c.args.stand _ c.rest_at.new.places c.args.bank.now.pending c.lattice.ensures.lawful c.requires.slots c.requires.fits c.rest_at.ensures c.requires.pending

pub returns-clause-len : goal.returns-clause-len
returns-clause-len c =
    let fits = rests c.args.plan.now c.args.stand _ c.rest_at.new.places c.args.bank.now.pending c.lattice.ensures.lawful c.requires.slots c.requires.fits c.rest_at.ensures c.requires.pending in
    longer c.args.plan.now _ c.args.bytes.now.bytes c.encode.new.room.bytes c.lattice.ensures.lawful fits.1 c.encode.ensures.bytes
