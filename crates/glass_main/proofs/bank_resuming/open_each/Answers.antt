use Rattle.std.proofs.Common.{◌+◌, List, [], map, take, sym, subst}
use Rattle.std.specs.Arc.{arc_value}
use Rattle.plane_sweep.specs.Packed.{StandFits, StandsFor}
use Rattle.plane_sweep.specs.declared.stand.Stand.{Stand}
use Rattle.run_checkpoint.specs.BankEncoding.{BanksFit, BanksStand}
use Rattle.scalar_rule.specs.Opening.{opening}
use Rattle.scalar_rule.specs.Plan.{Plan}
use Rattle.glass_main.specs.ManyBanks.{openings_from}
use Rattle.glass_main.proofs.BankStands.{none-open, none-fit, opening-epoch, next-open, next-fit}
use Rattle.glass_main.proofs.bank_resuming.open_each.Goals as goal

pub banks-init : goal.banks-init
banks-init c =
    let none = sym c.in_ok-stands.ensures.items in
    record {
      opening = subst (λ xs. BanksStand [] (openings_from 0 [] c.args.start) xs) none (none-open c.args.start);
      fit = subst (λ xs. BanksFit 0 [] xs) none none-fit;
    }

pub banks-preserved : goal.banks-preserved
banks-preserved c =
    let plans = c.args.plans.now in
    let start = c.args.start in
    let g = c.banks.bank in
    let x = c.index-plans-bank.result in
    let stand = c.in_ok-opening_bank.field-0 in
    let S : Plan → Type 0 = λ p. StandsFor p (opening p start g) stand in
    let F : Plan → Type 0 = λ p. StandFits p stand in
    let own = subst S c.deref.ensures c.in_ok-opening_bank.ensures.opening in
    let fits = subst F c.deref.ensures c.in_ok-opening_bank.ensures.fits in
    let pushed = sym {A = List Stand} c.in_ok-push.ensures.items in
    let O : List Stand → Type 0 = λ xs. BanksStand (take (g + 1) (map arc_value plans)) (openings_from 0 (take (g + 1) (map arc_value plans)) start) xs in
    let T : List Stand → Type 0 = λ xs. BanksFit 0 (take (g + 1) (map arc_value plans)) xs in
    record {
      opening = subst O pushed (next-open arc_value plans start g x c.banks-test.true c.index-plans-bank.is c.banks.stands.items stand c.banks.invariant.opening own);
      fit = subst T pushed (next-fit arc_value plans start g x c.banks-test.true c.index-plans-bank.is 0 c.banks.stands.items stand c.banks.invariant.fit fits (opening-epoch (arc_value x) start g stand own));
    }
