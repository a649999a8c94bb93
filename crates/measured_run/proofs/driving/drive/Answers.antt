use Rattle.std.proofs.Common.{subst}
use Rattle.run_checkpoint.specs.BankEncoding.{AreBanks, BanksStand}
use Rattle.measured_run.specs.Runs.{RunView, states_at}
use Rattle.measured_run.proofs.BankLists.{are-banks}
use Rattle.measured_run.proofs.driving.drive.Goals as goal

pub returns-clause-fit : goal.returns-clause-fit
returns-clause-fit g c = λ starts stand.
    let r = c.run.inside in
    subst (λ (v : RunView). BanksStand v.plans starts v.bases → AreBanks v.until v.plans (states_at v.plans starts v.until)) c.run.view_is
    (are-banks r.banks.items starts r.course.until c.drive_each-banks.ensures.ended (λ k d h. (c.run.invariant.banks.each k d h).until)) stand
