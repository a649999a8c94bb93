use Rattle.std.specs.Arc.{arc_value}
use Rattle.std.specs.Prelude.{vec_len}
use Rattle.std.proofs.Common.{◌≡◌, length, map, ap, sym, subst, ◌∙◌, arith, rules}
use Rattle.plane_sweep.specs.declared.stand.Stand.{Stand}
use Rattle.run_checkpoint.specs.BankEncoding.{BanksFit}
use Rattle.measured_run.proofs.BankLists.{fit-long}
use Rattle.measured_run.proofs.Openings.{first-epoch}
use Rattle.measured_run.proofs.opening.open.Goals as goal
use Rattle.measured_run.proofs.opening.open.Goals.{After-index}

pub index-requires : goal.index-requires
index-requires c =
    let own : vec_len c.args.bases ≡ length c.args.bases.items = search rules in
    let long = fit-long c.requires.starts.epoch (map arc_value c.args.plans.now) c.args.bases.items c.requires.starts.fit in
    omega (arith, own, long, c.requires.starts.some)

-- all banks are at the first one's epoch
begins : (c : After-index) → c.index.result.now.epoch ≡ c.requires.starts.epoch
begins c =
    ap (λ (s : Stand). s.epoch) c.index.ensures
    ∙ first-epoch c.requires.starts.epoch (map arc_value c.args.plans.now) c.args.bases.items c.index.result.now c.requires.starts.some c.requires.starts.fit

pub open_each-requires-clause-fit : goal.open_each-requires-clause-fit
open_each-requires-clause-fit c =
    let at = (goal.at.open_each-requires-clause-fit c).After-index in
    subst (λ e. BanksFit e (map arc_value c.args.plans.now) c.args.bases.items) (sym (begins at)) c.requires.starts.fit

pub open_each-requires-clause-window : goal.open_each-requires-clause-window
open_each-requires-clause-window c =
    let at = (goal.at.open_each-requires-clause-window c).After-index in
    omega (arith, begins at, c.requires.starts.in_time)
