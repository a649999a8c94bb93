-- One bank after the other is opened.
use Rattle.std.proofs.Common.{◌≡◌, ℕ, ◌+◌, ◌<◌, ◌≤◌, List, [], ◌∷◌, ◌++◌, length, length-append, map, take, get_or, refl, ap, sym, subst, ◌∙◌, arith}
use Rattle.std.proofs.lemmas.List.{get_or-map, length-map, map-append, take_all, take_more}
use Rattle.scalar_rule.specs.Plan.{Plan, slots_of}
use Rattle.plane_sweep.specs.Packed.{StandFits}
use Rattle.plane_sweep.specs.declared.stand.Stand.{Stand}
use Rattle.run_checkpoint.specs.BankEncoding.{BanksFit, bank_len}
use Rattle.run_checkpoint.specs.Lengths.{encoding_len}
use Rattle.measured_run.specs.Banks.{BankView, plans_in, bases_in}
use Rattle.measured_run.proofs.BankLists.{fit-before, fit-at, fit-long}

pub nothing-left : {X : Type 0} (xs : List X) → length xs ≡ 0 → xs ≡ []
nothing-left [] none = refl
nothing-left (x ∷ xs) none = absurd (omega (arith, none))

pub next-within : {X : Type 0} (f : X → Plan) (plans : List X) (epoch : ℕ) (bases before rest : List Stand) (base : Stand) → BanksFit epoch (map f plans) bases
    → before ++ base ∷ rest ≡ bases → length before < length plans
next-within f plans epoch bases before rest base fit cut =
    let found = fit-before epoch (map f plans) before rest base (subst (BanksFit epoch (map f plans)) (sym cut) fit) in
    omega (arith, found, length-map plans f)

-- the plan of the next bank, and that its state fits it
pub next-fits : {X : Type 0} (f : X → Plan) (plans : List X) (epoch : ℕ) (bases before rest : List Stand) (base : Stand) (p : X) → BanksFit epoch (map f plans) bases
    → before ++ base ∷ rest ≡ bases → p ≡ get_or plans (length before) p → (length before < length plans) × StandFits (f p) base × (base.epoch ≡ epoch)
next-fits f plans epoch bases before rest base p fit cut is =
    let found = fit-at epoch (map f plans) before rest base (f p) (subst (BanksFit epoch (map f plans)) (sym cut) fit) in
    let within : length before < length plans = omega (arith, found.0, length-map plans f) in
    let own : get_or (map f plans) (length before) (f p) ≡ f p = get_or-map f plans (length before) p (f p) within ∙ ap f (sym is) in
    (within, subst (λ q. StandFits q base) own found.1, found.2)

-- the plans of those that are open
pub plans-next : {X : Type 0} (f : X → Plan) (plans : List X) (banks new : List BankView) (bank : BankView) (p : X) → length banks < length plans
    → p ≡ get_or plans (length banks) p → bank.plan ≡ f p → new ≡ banks ++ bank ∷ [] → plans_in banks ≡ take (length banks) (map f plans)
    → plans_in new ≡ take (length new) (map f plans)
plans-next f plans banks new bank p within is own pushed so_far =
    let g = λ (b : BankView). b.plan in
    let long : length new ≡ length banks + 1 = ap length pushed ∙ length-append banks (bank ∷ []) in
    let item : get_or (map f plans) (length banks) (f p) ≡ bank.plan = get_or-map f plans (length banks) p (f p) within ∙ ap f (sym is) ∙ sym own in
    ap plans_in pushed ∙ map-append g banks (bank ∷ []) ∙ ap (λ ps. ps ++ bank.plan ∷ []) so_far
    ∙ ap (λ (q : Plan). take (length banks) (map f plans) ++ q ∷ []) (sym item)
    ∙ sym (take_more (map f plans) (length banks) (f p) (omega (arith, within, length-map plans f))) ∙ ap (λ n. take n (map f plans)) (sym long)

pub plans-all : {X : Type 0} (f : X → Plan) (plans : List X) (epoch : ℕ) (bases : List Stand) (banks : List BankView) → BanksFit epoch (map f plans) bases
    → bases_in banks ≡ bases → plans_in banks ≡ take (length banks) (map f plans) → plans_in banks ≡ map f plans
plans-all f plans epoch bases banks fit are so_far =
    let long = fit-long epoch (map f plans) bases fit in
    let count = sym (length-map banks (λ (b : BankView). b.base)) ∙ ap length are in
    so_far ∙ take_all (length banks) (map f plans) (omega (arith, long, count))

pub first-epoch : (epoch : ℕ) (plans : List Plan) (bases : List Stand) (d : Stand) → 1 ≤ length plans → BanksFit epoch plans bases → (get_or bases 0 d).epoch ≡ epoch
unfolding BanksFit
first-epoch epoch [] bases d some fit = absurd (omega (arith, some))
first-epoch epoch (plan ∷ plans) [] d some fit = absurd fit
first-epoch epoch (plan ∷ plans) (x ∷ xs) d some fit = fit.1

pub first-len : {X : Type 0} (f : X → Plan) (plans : List X) (p : X) → 1 ≤ length plans → p ≡ get_or plans 0 p → bank_len (map f plans) ≡ encoding_len (f p).size (slots_of (f p))
unfolding bank_len
first-len f [] p some is = absurd (omega (arith, some))
first-len f (x ∷ xs) p some is = ap (λ y. encoding_len (f y).size (slots_of (f y))) (sym is)
