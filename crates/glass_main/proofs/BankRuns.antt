-- A run of several banks as it is opened, and what it prints and saves.
use Rattle.std.proofs.Common.{arith, ◌≡◌, ◌≢◌, ℕ, ◌-◌, ◌*◌, ◌<◌, ◌≤◌, min, List, [], ◌∷◌, length, map, get_or, Option, Some, None, Result, Ok, Err, refl, sym, ap, ◌∙◌, subst}
use Rattle.std.specs.Prelude.{All}
use Rattle.std.proofs.lemmas.List.{length-map}
use Rattle.std.proofs.lemmas.List.Elements.{All-nil, All-cons, All-head, All-tail, All-weaker}
use Rattle.glass_edges.specs.Refusals.{unless}
use Rattle.exchange_board.specs.Views.{RaggedEndedView}
use Rattle.glass_engine.specs.BankLaws.{banks_with, HaveSlots, StandForBanks, BanksReportIsSerial, BanksCheckpointIsSerial}
use Rattle.glass_engine.specs.Banks.{Bank, banks_checkpoint}
use Rattle.glass_engine.specs.BankRuns.{bank_run, bank_runs, for_samples, plans_of, runs_of, runs_checkpoint, AreBankOrders}
use Rattle.glass_engine.specs.Laws.{stand_at}
use Rattle.glass_engine.specs.Runs.{RunView, DoneView, IsEnd}
use Rattle.glass_engine.specs.declared.run.SaveKind.{SaveKind}
use Rattle.glass_engine.specs.declared.run.SaveKind.TheVariants as saves
use Rattle.glass_engine.proofs.BankStarts.{fit-long, runs-long, runs-plans, runs-saves}
use Rattle.glass_engine.proofs.Savings.{several-bytes}
use Rattle.glass_engine.proofs.SavedRuns.{fits-at}
use Rattle.glass_engine.proofs.WholeRuns.{level-serial}
use Rattle.plane_sweep.specs.declared.stand.Stand.{Stand}
use Rattle.plane_sweep.specs.Packed.{part, StandFits, StandsFor}
use Rattle.plane_sweep.specs.Uneven.{RaggedStandFits}
use Rattle.run_checkpoint.specs.BankEncoding.{banks_encoding, HaveShape, AreBanks, BanksFit, BanksStand}
use Rattle.run_checkpoint.specs.Encoding.{AreBankStates}
use Rattle.run_plan.specs.Amounts.{amount_refusal}
use Rattle.run_plan.specs.RunFile.{AreOrdersOfBanks}
use Rattle.run_plan.specs.declared.refused.PlanRefused.{PlanRefused}
use Rattle.run_plan.specs.declared.run_file.Orders.{Orders}
use Rattle.scalar_rule.specs.Plan.{Plan, slots_of}
use Rattle.scalar_rule.specs.Serial.{serial}
use Rattle.scalar_rule.specs.declared.sample.Sample.{Sample}
use Rattle.glass_main.specs.Opened.{saves_as, AreOpened, AreReady, AreRunsOf}
use Rattle.glass_main.proofs.OpenedRuns.{saves-named}
use Rattle.glass_main.specs.Endings.{IsOfAmount}
use Rattle.glass_main.proofs.Amounts.{amount-told}
use Rattle.glass_main.specs.ManyBanks.{PlannedBanks, bank_count, banks_amount_refusal, banks_at, stands_at, starts_at}
use Rattle.glass_main.specs.Request.{BanksWork, told_as, banks_work}
use Rattle.glass_main.specs.Resumes.{AreResumable}
use Rattle.glass_main.specs.declared.finishing.Opened.{Opened}
use Rattle.glass_main.specs.declared.refusal.Refusal.TheVariants as refused

-- ---- the first bank

pub first-amount : {X : Type 0} (f : X → Plan) (xs : List X) (x : X) (orders : Orders) (from until : ℕ) → 0 < length xs → x ≡ get_or xs 0 x
    → banks_amount_refusal (map f xs) orders from until ≡ amount_refusal (f x) orders from until
unfolding banks_amount_refusal
first-amount f [] x orders from until some is = absurd (omega arith)
first-amount f (y ∷ ys) x orders from until some is = ap (λ z. amount_refusal (f z) orders from until) (sym is)

pub first-shape : {X : Type 0} (f : X → Plan) (xs : List X) (x : X) (l n : ℕ) → 0 < length xs → x ≡ get_or xs 0 x → HaveShape l n (map f xs) → slots_of (f x) ≡ n
unfolding HaveShape
first-shape f [] x l n some is shape = absurd (omega arith)
first-shape f (y ∷ ys) x l n some is shape = ap (λ z. slots_of (f z)) is ∙ shape.1

pub first-stand : (stands : List Stand) (x : Stand) → 0 < length stands → x ≡ get_or stands 0 x → x.epoch ≡ stands_at stands
unfolding stands_at
first-stand [] x some is = absurd (omega arith)
first-stand (y ∷ ys) x some is = ap (λ (s : Stand). s.epoch) is

pub epoch-at : (epoch : ℕ) (plans : List Plan) (stands : List Stand) → 0 < length plans → BanksFit epoch plans stands → stands_at stands ≡ epoch
unfolding BanksFit stands_at
epoch-at epoch [] stands some fit = absurd (omega arith)
epoch-at epoch (p ∷ ps) [] some fit = absurd fit
epoch-at epoch (p ∷ ps) (x ∷ xs) some fit = fit.1

-- states begin at the epoch of the packed ones
pub stand-epoch : (plans : List Plan) (starts : List (ℕ → Sample)) (stands : List Stand) → BanksStand plans starts stands → starts_at starts ≡ stands_at stands
unfolding BanksStand stands_at starts_at part
stand-epoch [] [] [] all = refl
stand-epoch [] [] (x ∷ xs) all = absurd all
stand-epoch [] (s ∷ ss) [] all = absurd all
stand-epoch [] (s ∷ ss) (x ∷ xs) all = absurd all
stand-epoch (p ∷ ps) [] [] all = absurd all
stand-epoch (p ∷ ps) [] (x ∷ xs) all = absurd all
stand-epoch (p ∷ ps) (s ∷ ss) [] all = absurd all
stand-epoch (p ∷ ps) (s ∷ ss) (x ∷ xs) all = sym (ap (λ (a : Sample). a.epoch) (all.0 0 (omega arith)))

pub have-slots : (l n : ℕ) (plans : List Plan) → 1 ≤ n → HaveShape l n plans → HaveSlots plans
unfolding HaveShape
have-slots l n [] some shape = All-nil (λ (p : Plan). 1 ≤ slots_of p)
have-slots l n (p ∷ ps) some shape = All-cons (λ (q : Plan). 1 ≤ slots_of q) p ps (omega (arith, shape.1)) (have-slots l n ps some shape.2)

-- the epoch of the first packed state is that of all
pub first-at : (plans : List Plan) (until : ℕ) (stands : List Stand) (x : Stand) (r : AreResumable plans until stands) → 0 < length plans → x ≡ get_or stands 0 x
    → (x.epoch ≡ stands_at stands) × (x.epoch ≡ r.epoch)
first-at plans until stands x r some is =
    let long = fit-long r.epoch plans stands r.fit in
    let first = first-stand stands x (omega arith) is in
    (first, first ∙ epoch-at r.epoch plans stands some r.fit)

-- ---- its amount

pub amount-none : (found : Option PlanRefused) (tested : Result (Unit {0}) PlanRefused) → tested ≡ Ok tt → tested ≡ unless found tt → found ≡ None
amount-none None tested is told = refl
amount-none (Some e) tested is told = absurd cc

pub banks-told : (plans : List Plan) (orders : Orders) (from until : ℕ) (tested : Result (Unit {0}) PlanRefused) (e : PlanRefused) → tested ≡ Err e
    → tested ≡ unless (banks_amount_refusal plans orders from until) tt → IsOfAmount (refused.Plan e)
unfolding banks_amount_refusal
banks-told [] orders from until tested e is told = absurd cc
banks-told (plan ∷ plans) orders from until tested e is told = amount-told plan orders from until tested e is told

-- ---- its orders

pub bank-orders : (banks : ℕ) (orders : Orders) → banks ≡ bank_count orders.samples → 64 < orders.samples → AreOrdersOfBanks orders → AreBankOrders banks orders
bank-orders banks orders count several are =
    let few = are.few_samples in
    record {
      some_banks = omega arith;
      few_banks = omega arith;
      some_samples = omega arith;
      few_samples = omega arith;
      some_every = are.some_every;
      every = are.every;
    }

-- ---- it is accepted

pub banks-accepted : (planned : PlannedBanks) (until : ℕ) (starts : List (ℕ → Sample)) → banks_amount_refusal planned.plans planned.orders (starts_at starts) until ≡ None
    → banks_work planned until starts ≡ Ok (BanksWork planned starts until)
unfolding banks_work
banks-accepted planned until starts none = ap (λ found. told_as refused.Plan (unless found (BanksWork planned starts until))) none

-- ---- its runs

pub opened-ready : (planned : PlannedBanks) (stands : List Stand) (until : ℕ) (name : Option (List ℕ)) (opened : Opened) → AreResumable planned.plans until stands
    → AreOpened planned stands until name opened → AreReady name opened
opened-ready planned stands until name opened r o =
    let kind = saves_as None name in
    let R : RunView → Type 0 = λ run. run.saves ≢ saves.Never in
    record {
      plans = o.shares ∙ sym (runs-plans r.epoch planned.plans stands planned.orders until kind r.fit) ∙ ap plans_of (sym o.runs);
      saved = λ named. subst (All R) (sym o.runs)
          (All-weaker (λ (run : RunView). run.saves ≡ kind) R (λ run is never. saves-named None name named (sym is ∙ never)) (bank_runs planned.plans stands planned.orders until kind)
          (runs-saves planned.plans stands planned.orders until kind));
    }

-- ---- what they save

with-plans : (plans : List Plan) (starts : List (ℕ → Sample)) (stands : List Stand) → BanksStand plans starts stands → map (λ (x : Bank). x.plan) (banks_with plans starts) ≡ plans
unfolding BanksStand banks_with
with-plans [] starts stands all = refl
with-plans (p ∷ ps) [] stands all = absurd all
with-plans (p ∷ ps) (s ∷ ss) [] all = absurd all
with-plans (p ∷ ps) (s ∷ ss) (x ∷ xs) all = ap (λ l. p ∷ l) (with-plans ps ss xs all.1)

saved-states : (plans : List Plan) (starts : List (ℕ → Sample)) (stands : List Stand) (e : ℕ) → BanksStand plans starts stands
    → banks_checkpoint (banks_with plans starts) e ≡ banks_encoding plans (banks_at plans starts e)
saved-states plans starts stands e all = ap (λ ps. banks_encoding ps (banks_at plans starts e)) (with-plans plans starts stands all)

-- the first of a list, and the rest
unfoldable first-or : {X : Type 0} → X → List X → X
first-or none [] = none
first-or none (x ∷ xs) = x

unfoldable rest-of : {X : Type 0} → List X → List X
rest-of [] = []
rest-of (x ∷ xs) = xs

-- a bank that was driven from a packed state ends with the states of the serial dynamics, which fit and are at its last epoch
bank-ends : (plan : Plan) (stand : Stand) (start : ℕ → Sample) (orders : Orders) (until : ℕ) (kind : SaveKind) (d : RaggedEndedView) → StandFits plan stand → StandsFor plan start stand
    → IsEnd (bank_run plan stand orders until kind) d → AreBankStates plan (λ b. serial plan (start b) until) × ((serial plan (start 0) until).epoch ≡ until)
unfolding part
bank-ends plan stand start orders until kind d fits stands end =
    let run = bank_run plan stand orders until kind in
    let whole = level-serial run stand d refl refl fits end in
    let F : Plan → Type 0 = λ p. RaggedStandFits p d.origin.window.samples d.origin.window.every d.stand in
    let last : d.origin.window.until ≡ until = end.origin.until_is in
    let short : until ≤ 1000000000 = let z = end.lawful.until in omega arith in
    let stands_end : (b : ℕ) → b < 64 → part plan.size b (stand_at until d.stand) ≡ serial plan (start b) until =
    λ b small. whole.stand b small ∙ ap (λ s. serial plan s until) (stands b small) in (
      record {
        stand = stand_at until d.stand;
        fits = fits-at plan d.origin.window.samples d.origin.window.every until d.stand (subst F end.origin.plan_is end.stop.fits) (omega arith);
        stands = stands_end;
      },
      sym (ap (λ (s : Sample). s.epoch) (stands_end 0 (omega arith))),
    )

-- and so do all banks
all-end : (epoch : ℕ) (plans : List Plan) (stands : List Stand) (starts : List (ℕ → Sample)) (orders : Orders) (until : ℕ) (kind : SaveKind) (dones : List DoneView) → BanksFit epoch plans stands
    → BanksStand plans starts stands → runs_of dones ≡ bank_runs plans stands orders until kind → All (λ (d : DoneView). IsEnd d.run d.ended) dones
    → AreBanks until plans (banks_at plans starts until)
unfolding BanksFit BanksStand bank_runs AreBanks banks_with first-or rest-of
all-end epoch [] [] [] orders until kind dones fit stand are ends = tt
all-end epoch [] [] (s ∷ ss) orders until kind dones fit stand are ends = absurd stand
all-end epoch [] (x ∷ xs) starts orders until kind dones fit stand are ends = absurd fit
all-end epoch (p ∷ ps) [] starts orders until kind dones fit stand are ends = absurd fit
all-end epoch (p ∷ ps) (x ∷ xs) [] orders until kind dones fit stand are ends = absurd stand
all-end epoch (p ∷ ps) (x ∷ xs) (s ∷ ss) orders until kind [] fit stand are ends = absurd (omega (arith, ap length are))
all-end epoch (p ∷ ps) (x ∷ xs) (s ∷ ss) orders until kind (d ∷ ds) fit stand are ends =
    let one = for_samples (min orders.samples 64) orders in
    let E : DoneView → Type 0 = λ z. IsEnd z.run z.ended in
    let R : RunView → Type 0 = λ r. IsEnd r d.ended in
    let run : d.run ≡ bank_run p x one until kind = ap (first-or d.run) are in
    let states = bank-ends p x s one until kind d.ended fit.0 stand.0 (subst R run (All-head E d ds ends)) in
    (states.0, states.1, all-end epoch ps xs ss (for_samples (orders.samples - 64) orders) until kind ds fit.2 stand.1 (ap rest-of are) (All-tail E d ds ends))

-- what they print and save, from each start that the states are packed of
pub opened-runs : (report : BanksReportIsSerial) (saving : BanksCheckpointIsSerial) (planned : PlannedBanks) (stands : List Stand) (until : ℕ) (name : Option (List ℕ)) (opened : Opened) (starts : List (ℕ → Sample))
    → 2 ≤ length planned.plans → planned.orders.samples ≤ 64 * length planned.plans → HaveSlots planned.plans → AreResumable planned.plans until stands
    → AreOpened planned stands until name opened → BanksStand planned.plans starts stands → AreRunsOf name (BanksWork planned starts until) opened.run
opened-runs report saving planned stands until name opened starts several few slots r o stand = λ dones are ends.
    let kind = saves_as None name in
    let is = are ∙ o.runs in
    let s : StandForBanks planned.plans stands starts = record { epoch = r.epoch; fit = r.fit; slots = slots; stand = stand } in
    let long = ap length is ∙ runs-long r.epoch planned.plans stands planned.orders until kind r.fit in
    let count = length-map dones (λ (d : DoneView). d.run) in (
      all-end r.epoch planned.plans stands starts planned.orders until kind dones r.fit stand is ends,
      (
        report planned.plans stands starts planned.orders until kind dones few s is ends,
        λ named. sym (several-bytes dones (omega (arith, long, count))) ∙ ap runs_checkpoint is
            ∙ saving planned.plans stands starts planned.orders until kind (omega arith) s ∙ saved-states planned.plans starts stands until stand,
      ),
    )
