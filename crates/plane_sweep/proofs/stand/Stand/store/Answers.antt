use Rattle.plane_sweep.proofs.StoredStates.{own-part, other-part, stored-fits}
use Rattle.plane_sweep.proofs.stand.Stand.store.Goals as goal

pub returns-clause-own : goal.returns-clause-own
returns-clause-own c =
    own-part c.args.plan.now c.args.sample.now c.args.self.now _ c.requires.stand c.requires.sample
    (record { epoch = c.store_epoch.ensures.stored; slots = c.store_slots.ensures; pairs = c.store_pairs.ensures })

pub returns-clause-others : goal.returns-clause-others
returns-clause-others c = λ b below apart.
    other-part c.args.plan.now c.args.sample.now b c.args.self.now _ c.requires.stand c.requires.sample
    (record { epoch = c.store_epoch.ensures.stored; slots = c.store_slots.ensures; pairs = c.store_pairs.ensures }) below apart

pub returns-clause-fits : goal.returns-clause-fits
returns-clause-fits c =
    stored-fits c.args.plan.now c.args.sample.now c.args.self.now _ c.requires.stand c.requires.sample c.requires.labels c.store_epoch.ensures.bounded
    (record { epoch = c.store_epoch.ensures.stored; slots = c.store_slots.ensures; pairs = c.store_pairs.ensures })
