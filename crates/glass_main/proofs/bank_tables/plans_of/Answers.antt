use Rattle.std.proofs.Common.{◌≡◌, ◌+◌, List, map, [], ◌∷◌, ◌++◌, sym, ap, ◌∙◌, subst}
use Rattle.std.specs.Arc.{arc_value}
use Rattle.std.proofs.lemmas.List.{map-append}
use Rattle.scalar_rule.specs.Plan.{Plan}
use Rattle.glass_main.specs.BankTables.{file_with_seed}
use Rattle.glass_main.specs.Request.{bonds_in}
use Rattle.glass_main.proofs.BankPlans.{AreFirst, first-none, first-more}
use Rattle.glass_main.proofs.bank_tables.plans_of.Goals as goal

-- the plan that was pushed is the last of the plans
with-pushed : {X : Type 0} (f : X → Plan) (xs more : List X) (x : X) → more ≡ xs ++ x ∷ [] → map f xs ++ f x ∷ [] ≡ map f more
with-pushed f xs more x is = sym (map-append f xs (x ∷ [])) ∙ ap (map f) (sym is)

pub banks-init : goal.banks-init
banks-init c =
    let file = c.args.file.now in
    let given = bonds_in file.couplings file.lattice file.seed c.args.stored.now in
    let own = file_with_seed c.args.seed file in
    let F : List Plan → Type 0 = λ ps. AreFirst own c.args.rules.now.rules c.args.swaps.now.swaps given 0 ps in
    subst F (ap (map arc_value) (sym c.in_ok-plans.ensures.items)) (first-none own c.args.rules.now.rules c.args.swaps.now.swaps given)

pub banks-preserved : goal.banks-preserved
banks-preserved c =
    let file = c.args.file.now in
    let given = bonds_in file.couplings file.lattice file.seed c.args.stored.now in
    let own = file_with_seed c.args.seed file in
    let F : List Plan → Type 0 = λ ps. AreFirst own c.args.rules.now.rules c.args.swaps.now.swaps given (c.banks.bank + 1) ps in
    let x = c.in_ok-bank_plan.field-0 in
    let pushed : map arc_value c.banks.plans.items ++ arc_value x ∷ [] ≡ map arc_value c.push.new.self.items =
    with-pushed arc_value c.banks.plans.items c.push.new.self.items x c.in_ok-push.ensures.items in
    subst F pushed (first-more own c.args.rules.now.rules c.args.swaps.now.swaps given c.banks.bank (map arc_value c.banks.plans.items) (arc_value x) c.banks.invariant c.in_ok-bank_plan.ensures)
