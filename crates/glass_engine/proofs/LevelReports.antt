-- From states at one epoch the report of a run to its end is that of the serial dynamics.
use Rattle.std.proofs.Common.{arith, ◌≡◌, inl, inr, ℕ, ◌-◌, ◌*◌, ◌<◌, ◌≤◌, Bool, min, cond, List, [], ◌∷◌, ◌++◌, length, refl, sym, ap, ap₂, ◌∙◌, subst, lit<}
use Rattle.std.specs.Prelude.{All, ◌&&◌, ◌==◌}
use Rattle.std.proofs.lemmas.Bool.{cases_lt, eq-eqb}
use Rattle.std.proofs.lemmas.List.Elements.{All-head, All-tail}
use Rattle.spin_model.specs.Limits.{every_take}
use Rattle.report_text.specs.Lines.{header_line, end_line}
use Rattle.spin_model.proofs.Tables.{table-same}
use Rattle.run_checkpoint.specs.BankEncoding.{BanksFit, BanksStand}
use Rattle.run_plan.specs.declared.run_file.Orders.{Orders}
use Rattle.scalar_rule.specs.Epoch.{epoch_records}
use Rattle.scalar_rule.specs.Laws.{level_start}
use Rattle.scalar_rule.specs.Plan.{Plan, slots_of}
use Rattle.scalar_rule.specs.Positions.{floor_of}
use Rattle.scalar_rule.specs.Ragged.{UnevenState, all_ready}
use Rattle.scalar_rule.specs.Records.{measured_from}
use Rattle.scalar_rule.specs.Serial.{serial}
use Rattle.scalar_rule.specs.declared.sample.Sample.{Sample}
use Rattle.scalar_rule.proofs.LevelRuns.{all_ready-serial, level-record}
use Rattle.scalar_rule.proofs.LevelStart.{and-true}
use Rattle.plane_sweep.specs.Packed.{part, StandFits, StandsFor}
use Rattle.plane_sweep.specs.Uneven.{positions_of, uneven_part, level_stand}
use Rattle.plane_sweep.specs.declared.stand.Stand.{Stand}
use Rattle.plane_sweep.specs.declared.uneven.RaggedStand.{RaggedStand}
use Rattle.plane_sweep.proofs.LevelStands.{level-part, level-floor}
use Rattle.plane_sweep.proofs.SampleParts.{part-fits}
use Rattle.exchange_board.specs.Answers.{stages_of}
use Rattle.exchange_board.specs.Machine.{AllEnded}
use Rattle.exchange_board.specs.Views.{RaggedEndedView}
use Rattle.glass_engine.specs.Banks.{Bank, of_sample, banks_measured, banks_slots, banks_report}
use Rattle.glass_engine.specs.BankLaws.{banks_with, StandForBanks}
use Rattle.glass_engine.specs.BankRuns.{bank_run, bank_runs, for_samples, runs_of, samples_in, own_measured, run_measured, run_slots, floor_before, floor_after, run_report}
use Rattle.glass_engine.specs.Report.{report, rows_in_order, uneven_measured, all_spins}
use Rattle.glass_engine.specs.Runs.{RunView, DoneView, starts, IsEnd}
use Rattle.glass_engine.specs.declared.run.SaveKind.{SaveKind}
use Rattle.glass_engine.proofs.BankLaws.{of-first, of-next, below-64}
use Rattle.glass_engine.proofs.Pieces.{rows-same}
use Rattle.glass_engine.proofs.Reporting.{spins-same}
use Rattle.glass_engine.proofs.WholeRuns.{unstopped-whole, whole-floor}

-- ---- a bank

-- a bank's run that started from states of its samples at one epoch, isn't asked to stop, and is at its end
record IsLevelEnd (c e : ℕ) (bank : Bank) (d : DoneView) : Type 0 where
  ended : IsEnd d.run d.ended
  plan : d.run.plan ≡ bank.plan
  takes : d.run.takes ≡ every_take
  until : d.run.until ≡ e
  stand : Stand
  base : d.run.base ≡ level_stand stand
  fits : StandFits bank.plan stand
  epoch : stand.epoch ≡ c
  stands : StandsFor bank.plan bank.start stand

module _ (c e : ℕ) (bank : Bank) (d : DoneView) (l : IsLevelEnd c e bank d) where
  abbrev p : Plan
  p = bank.plan

  abbrev opened : ℕ → Sample
  opened b = part p.size b l.stand

  states : starts d.run ≡ (λ b. level_start p (opened b))
  unfolding part
  states =
      let make : Plan → RaggedStand → ℕ → UnevenState = λ q r b. uneven_part q.size b r in
      ap₂ make l.plan l.base ∙ (λ i. λ b. level-part p b l.stand l.fits.slots i)

  some : 0 < length l.stand.slots
  some = omega (arith, l.fits.slots, subst (λ (q : Plan). 0 < slots_of q) (l.ended.origin.plan_is ∙ l.plan) l.ended.lawful.plan.rules.some)

  -- what is measured
  level-measured : (m f : ℕ) → m < 64 → c ≤ f → own_measured d.run m f ≡ measured_from p bank.start m f
  unfolding part
  level-measured m f small since =
      let n = d.run.orders.samples in
      let v = d.run.orders.every in
      ap₂ (λ (q : Plan) (s : ℕ → UnevenState). uneven_measured q s d.run.base.pending n v m f) l.plan states
      ∙ ap (λ (r : RaggedStand). uneven_measured p (λ b. level_start p (opened b)) r.pending n v m f) l.base
      ∙ table-same _ _ (slots_of p) (λ t ht. level-record p opened n v m f t refl refl (omega (arith, l.epoch, since)) ht)
      ∙ ap (λ x. epoch_records p (serial p x f)) (l.stands m small)

  -- the slots at the end
  level-slots : (m : ℕ) → m < 64 → c ≤ e → (all_ready d.run.plan (starts d.run m) e).slots ≡ (serial p (bank.start m) e).slots
  unfolding part
  level-slots m small upto =
      ap₂ (λ (q : Plan) (s : ℕ → UnevenState). (all_ready q (s m) e).slots) l.plan states
      ∙ ap (λ (x : Sample). x.slots) (all_ready-serial p (opened m) e (part-fits p m l.stand small l.fits) (omega (arith, l.epoch, upto)))
      ∙ ap (λ x. (serial p x e).slots) (l.stands m small)

  level-from : floor_before d ≡ c
  level-from = ap (λ (r : RaggedStand). floor_of (positions_of r)) l.base ∙ (level-floor l.stand some).0 ∙ l.epoch

  level-begun : (bank.start 0).epoch ≡ c
  unfolding part
  level-begun = sym (ap (λ (x : Sample). x.epoch) (l.stands 0 (lit< tt))) ∙ l.epoch

  level-to : floor_after d ≡ e
  level-to =
      let U : ℕ → Type 0 = λ k. AllEnded k (stages_of d.ended.stand) in
      let all = subst U (sym l.ended.origin.until_is) (unstopped-whole d.run d.ended l.takes l.ended).places in
      whole-floor d.ended.origin d.ended l.ended.stop l.ended.lawful.plan.rules.some all ∙ l.ended.origin.until_is ∙ l.until

  level-upto : c ≤ e
  level-upto =
      let since : floor_before d ≤ floor_after d = subst (λ (r : RaggedStand). floor_of (positions_of r) ≤ floor_after d) l.ended.origin.base_is l.ended.stop.from in
      omega (arith, since, level-from, level-to)

-- ---- all banks

unfoldable Level : ℕ → ℕ → List Bank → List DoneView → Type 0
Level c e [] [] = Unit {0}
Level c e (bank ∷ banks) (d ∷ ds) = IsLevelEnd c e bank d × Level c e banks ds
Level _ _ _ _ = ⊥

-- what is the same of each bank is the same of each sample
of-level : {A : Type 0} (none : A) (give : DoneView → ℕ → A) (other : Bank → ℕ → A) (c e : ℕ) (banks : List Bank) (ds : List DoneView) → Level c e banks ds
    → ((bank : Bank) (d : DoneView) (m : ℕ) → IsLevelEnd c e bank d → m < 64 → give d m ≡ other bank m) → (b : ℕ) → of_sample none give ds b ≡ of_sample none other banks b
unfolding of_sample Level
of-level none give other c e [] [] all same b = refl
of-level none give other c e [] (d ∷ ds) all same b = absurd all
of-level none give other c e (bank ∷ banks) [] all same b = absurd all
of-level none give other c e (bank ∷ banks) (d ∷ ds) all same b = elim (cases_lt b 64) [
  | inl below ↦ of-first none give d ds b below ∙ same bank d b all.0 below ∙ sym (of-first none other bank banks b below)
  | inr past ↦ of-next none give d ds b past ∙ of-level none give other c e banks ds all.1 same (b - 64) ∙ sym (of-next none other bank banks b past)
]

-- their report is that of the serial dynamics
level-report : (c e : ℕ) (bank : Bank) (banks : List Bank) (d : DoneView) (ds : List DoneView) (orders : Orders) → Level c e (bank ∷ banks) (d ∷ ds)
    → samples_in (runs_of (d ∷ ds)) ≡ orders.samples → d.run.orders.every ≡ orders.every → d.run.orders.spins ≡ orders.spins
    → run_report (d ∷ ds) ≡ banks_report (bank ∷ banks) orders e
unfolding run_report banks_report Level
level-report c e bank banks d ds orders all count every spins =
    let l = all.0 in
    let n = orders.samples in
    let v = orders.every in
    let m = run_measured (d ∷ ds) in
    let from : floor_before d ≡ (bank.start 0).epoch = level-from c e bank d l ∙ sym (level-begun c e bank d l) in
    let text : Plan → ℕ → ℕ → ℕ → ℕ → Bool → List ℕ = λ p k w a z s.
    header_line p k a z ++ rows_in_order m k w a z ++ end_line z ++ cond s (all_spins p k (run_slots z (d ∷ ds))) [] in
    let parts : List ℕ → List ℕ → List ℕ = λ rows xs. header_line bank.plan n (bank.start 0).epoch e ++ rows ++ end_line e ++ cond orders.spins xs [] in
    let printed : (d.run.orders.spins && (floor_after d == d.run.until)) ≡ orders.spins =
    ap₂ (λ s b. s && b) spins (eq-eqb (floor_after d) d.run.until (level-to c e bank d l ∙ sym l.until)) ∙ and-true orders.spins in
    let rows = rows-same m (banks_measured (bank ∷ banks)) n v (bank.start 0).epoch e
    (λ b f since on h. of-level [] (λ (x : DoneView) k. own_measured x.run k f) (λ (x : Bank) k. measured_from x.plan x.start k f) c e (bank ∷ banks) (d ∷ ds) all
    (λ x y k lx small. level-measured c e x y lx k f small (omega (arith, since, level-begun c e bank d l))) b) in
    let slots = spins-same bank.plan n (run_slots e (d ∷ ds)) (banks_slots (bank ∷ banks) e)
    (λ b h. of-level [] (λ (x : DoneView) k. (all_ready x.run.plan (starts x.run k) e).slots) (λ (x : Bank) k. (serial x.plan (x.start k) e).slots) c e (bank ∷ banks) (d ∷ ds) all
    (λ x y k lx small. level-slots c e x y lx k small (level-upto c e x y lx)) b) in
    ap₂ (λ p k. text p k d.run.orders.every (floor_before d) (floor_after d) (d.run.orders.spins && (floor_after d == d.run.until))) l.plan count
    ∙ ap₂ (λ w a. text bank.plan n w a (floor_after d) (d.run.orders.spins && (floor_after d == d.run.until))) every from
    ∙ ap₂ (λ z s. text bank.plan n v (bank.start 0).epoch z s) (level-to c e bank d l) printed
    ∙ ap₂ parts rows slots

-- ---- one bank

-- its report by the serial dynamics
pub one-serial : (bank : Bank) (orders : Orders) (e : ℕ) → orders.samples ≤ 64 → banks_report (bank ∷ []) orders e ≡ report bank.plan bank.start orders e
unfolding banks_report report
one-serial bank orders e few =
    let n = orders.samples in
    let c = (bank.start 0).epoch in
    ap₂ (λ rows xs. header_line bank.plan n c e ++ rows ++ end_line e ++ cond orders.spins xs [])
    (rows-same (banks_measured (bank ∷ [])) (measured_from bank.plan bank.start) n orders.every c e (λ b f since on h. (below-64 bank [] b (omega arith)).records f))
    (spins-same bank.plan n (banks_slots (bank ∷ []) e) _ (λ b h. (below-64 bank [] b (omega arith)).slots e))

pub one-level : (run : RunView) (stand : Stand) (opened : ℕ → Sample) (d : RaggedEndedView) → run.takes ≡ every_take → run.base ≡ level_stand stand → StandFits run.plan stand
    → StandsFor run.plan opened stand → IsEnd run d → run_report (record { run = run; ended = d } ∷ []) ≡ report run.plan opened run.orders run.until
unfolding Level samples_in
one-level run stand opened d takes base fits stands e =
    let bank : Bank = record { plan = run.plan; start = opened } in
    let done : DoneView = record { run = run; ended = d } in
    let few : run.orders.samples ≤ 64 = let z = e.stop.fits.few_samples in let y = e.origin.samples_is in omega arith in
    let l : IsLevelEnd stand.epoch run.until bank done =
    record { ended = e; plan = refl; takes = takes; until = refl; stand = stand; base = base; fits = fits; epoch = refl; stands = stands } in
    level-report stand.epoch run.until bank [] done [] run.orders (l, tt) (omega arith) refl refl ∙ one-serial bank run.orders run.until few

-- ---- the banks of a run

samples-all : (epoch : ℕ) (plans : List Plan) (stands : List Stand) (orders : Orders) (until n : ℕ) (kind : SaveKind) → BanksFit epoch plans stands → n ≤ 64 * length plans
    → samples_in (bank_runs plans stands (for_samples n orders) until kind) ≡ n
unfolding bank_runs BanksFit samples_in
samples-all epoch [] [] orders until n kind fit few = omega arith
samples-all epoch [] (x ∷ xs) orders until n kind fit few = absurd fit
samples-all epoch (plan ∷ plans) [] orders until n kind fit few = absurd fit
samples-all epoch (plan ∷ plans) (x ∷ xs) orders until n kind fit few =
    let rest = samples-all epoch plans xs orders until (n - 64) kind fit.2 (omega arith) in omega arith

-- the first of a list, and the rest
unfoldable first-or : {X : Type 0} → X → List X → X
first-or none [] = none
first-or none (x ∷ xs) = x

unfoldable rest-of : {X : Type 0} → List X → List X
rest-of [] = []
rest-of (x ∷ xs) = xs

runs-level : (epoch : ℕ) (plans : List Plan) (stands : List Stand) (starts : List (ℕ → Sample)) (orders : Orders) (until : ℕ) (kind : SaveKind) (ds : List DoneView) → BanksFit epoch plans stands
    → BanksStand plans starts stands → runs_of ds ≡ bank_runs plans stands orders until kind → All (λ (d : DoneView). IsEnd d.run d.ended) ds → Level epoch until (banks_with plans starts) ds
unfolding bank_runs BanksFit BanksStand banks_with Level first-or rest-of
runs-level epoch [] [] [] orders until kind [] fit stand are ends = tt
runs-level epoch [] [] [] orders until kind (d ∷ ds) fit stand are ends = absurd (omega (arith, ap length are))
runs-level epoch [] [] (s ∷ ss) orders until kind ds fit stand are ends = absurd stand
runs-level epoch [] (x ∷ xs) starts orders until kind ds fit stand are ends = absurd fit
runs-level epoch (p ∷ ps) [] starts orders until kind ds fit stand are ends = absurd fit
runs-level epoch (p ∷ ps) (x ∷ xs) [] orders until kind ds fit stand are ends = absurd stand
runs-level epoch (p ∷ ps) (x ∷ xs) (s ∷ ss) orders until kind [] fit stand are ends = absurd (omega (arith, ap length are))
runs-level epoch (p ∷ ps) (x ∷ xs) (s ∷ ss) orders until kind (d ∷ ds) fit stand are ends =
    let E : DoneView → Type 0 = λ z. IsEnd z.run z.ended in
    let run : d.run ≡ bank_run p x (for_samples (min orders.samples 64) orders) until kind = ap (first-or d.run) are in (
      record {
        ended = All-head E d ds ends;
        plan = ap (λ (r : RunView). r.plan) run;
        takes = ap (λ (r : RunView). r.takes) run;
        until = ap (λ (r : RunView). r.until) run;
        stand = x;
        base = ap (λ (r : RunView). r.base) run;
        fits = fit.0;
        epoch = fit.1;
        stands = stand.0;
      },
      runs-level epoch ps xs ss (for_samples (orders.samples - 64) orders) until kind ds fit.2 stand.1 (ap rest-of are) (All-tail E d ds ends),
    )

pub banks-level : (plans : List Plan) (stands : List Stand) (starts : List (ℕ → Sample)) (orders : Orders) (until : ℕ) (kind : SaveKind) (ds : List DoneView)
    → orders.samples ≤ 64 * length plans → StandForBanks plans stands starts → runs_of ds ≡ bank_runs plans stands orders until kind → All (λ (d : DoneView). IsEnd d.run d.ended) ds
    → run_report ds ≡ banks_report (banks_with plans starts) orders until
unfolding bank_runs BanksFit BanksStand banks_with run_report banks_report first-or
banks-level [] stands starts orders until kind [] few s are ends = refl
banks-level [] stands starts orders until kind (d ∷ ds) few s are ends = absurd (omega (arith, ap length are))
banks-level (p ∷ ps) [] starts orders until kind ds few s are ends = absurd s.fit
banks-level (p ∷ ps) (x ∷ xs) [] orders until kind ds few s are ends = absurd s.stand
banks-level (p ∷ ps) (x ∷ xs) (z ∷ zs) orders until kind [] few s are ends = absurd (omega (arith, ap length are))
banks-level (p ∷ ps) (x ∷ xs) (z ∷ zs) orders until kind (d ∷ ds) few s are ends =
    let run : d.run ≡ bank_run p x (for_samples (min orders.samples 64) orders) until kind = ap (first-or d.run) are in
    level-report s.epoch until (record { plan = p; start = z }) (banks_with ps zs) d ds orders
    (runs-level s.epoch (p ∷ ps) (x ∷ xs) (z ∷ zs) orders until kind (d ∷ ds) s.fit s.stand are ends)
    (ap samples_in are ∙ samples-all s.epoch (p ∷ ps) (x ∷ xs) orders until orders.samples kind s.fit few)
    (ap (λ (r : RunView). r.orders.every) run) (ap (λ (r : RunView). r.orders.spins) run)
