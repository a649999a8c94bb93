-- What a run starts from whose states are at one epoch, of one bank or of several: its plans are lawful, and the bytes of its
-- checkpoint are the encoding of what they are read as.
use Rattle.std.proofs.Common.{arith, inr, ◌≡◌, ℕ, ◌<◌, ◌≤◌, List, [], ◌∷◌, length, map, get_or, Global, Option, Some, None, Result, Ok, Err, refl, sym, ap, ◌∙◌, subst}
use Rattle.std.specs.Prelude.{All}
use Rattle.std.proofs.lemmas.List.Elements.{All-nil, All-cons, All-head}
use Rattle.std.specs.declared.vec.Vec.{Vec}
use Rattle.glass_edges.specs.Refusals.{unless, GivesAfterTests}
use Rattle.glass_edges.proofs.FirstRefusals.{unless-ok}
use Rattle.glass_edges.proofs.NumberBytes.{IsBytes}
use Rattle.plane_sweep.specs.Packed.{part}
use Rattle.plane_sweep.specs.declared.stand.Stand.{Stand}
use Rattle.run_checkpoint.specs.BankDecoding.{banks_refusal, banks_decoded}
use Rattle.run_checkpoint.specs.BankEncoding.{banks_parts, AreBanks, BanksFit, BanksStand, HaveShape, HaveOneShape}
use Rattle.run_checkpoint.specs.Decoding.{level_refusal, decoded, IsEncoded}
use Rattle.run_checkpoint.specs.Reading.{stand_in}
use Rattle.run_checkpoint.specs.declared.refused.CheckpointRefused.{CheckpointRefused}
use Rattle.run_checkpoint.specs.declared.refused.CheckpointRefused.TheVariants as checkpoint
use Rattle.run_checkpoint.proofs.LevelClauses.{none-is}
use Rattle.run_plan.specs.RunFile.{AreLawfulOrders, AreOrdersOfBanks}
use Rattle.run_plan.specs.declared.run_file.Orders.{Orders}
use Rattle.scalar_rule.specs.Plan.{Plan, slots_of, IsLawfulPlan}
use Rattle.scalar_rule.specs.declared.sample.Sample.{Sample}
use Rattle.glass_main.specs.Endings.{IsOfCheckpoint, IsOfLevel}
use Rattle.glass_main.specs.KeptMeasure.{level_banks_decoded}
use Rattle.glass_main.specs.LawfulRequests.{IsLawfulPlanned, AreLawfulBanks, AreLawfulPlans, AreLawfulBanked}
use Rattle.glass_main.specs.ManyBanks.{PlannedBanks, banks_resumed_by}
use Rattle.glass_main.specs.MeasureRun.{banks_of, level_banks_refusal, level_banks_in, level_resumed_by, level_encoding, IsLevelEncoding}
use Rattle.glass_main.specs.Resumes.{Resumes, Unresumed, AreResumable}
use Rattle.glass_main.specs.Statuses.{IfRefused}
use Rattle.glass_main.specs.declared.planned.Planned.{Planned}
use Rattle.glass_main.specs.declared.plans.Plans.{Plans}
use Rattle.glass_main.specs.declared.plans.Plans.TheVariants.{One, Banks}
use Rattle.glass_main.specs.declared.ending.Ending.{Ending}
use Rattle.glass_main.specs.declared.ending.Ending.TheVariants.{Done, Refused, Unread, Unwritten, Unsaved, NoMemory}
use Rattle.glass_main.specs.declared.refusal.Refusal.{Refusal}
use Rattle.glass_main.specs.declared.refusal.Refusal.TheVariants.{Checkpoint}
use Rattle.glass_main.proofs.BankStands.{parts-stand}
use Rattle.glass_main.proofs.ReadRuns.{accepted-banks}
use Rattle.glass_main.proofs.Resumed.{refused-by}
use Rattle.glass_main.proofs.SavedStates.{level-cause}

-- ---- plans as a list

pub one-shape : (plan : Plan) → HaveOneShape (plan ∷ [])
unfolding HaveShape
one-shape plan = record { size = plan.size; slots = slots_of plan; shape = (refl, refl, tt) }

-- the orders of one bank are those of up to four
pub of-one-bank : (orders : Orders) → AreLawfulOrders orders → AreOrdersOfBanks orders
of-one-bank orders o =
    let few = o.few_samples in
    record { some_samples = o.some_samples; few_samples = omega arith; epochs = o.epochs; some_every = o.some_every; every = o.every }

one-lawful : (planned : Planned) → IsLawfulPlanned planned → AreLawfulBanked (banks_of (One planned))
one-lawful planned lawful =
    let some = lawful.orders.some_samples in
    let few = lawful.orders.few_samples in
    record {
      plans = All-cons IsLawfulPlan planned.plan [] lawful.plan (All-nil IsLawfulPlan);
      shape = one-shape planned.plan;
      count = omega arith;
      orders = of-one-bank planned.orders lawful.orders;
    }

banks-lawful : (planned : PlannedBanks) → AreLawfulBanks planned → AreLawfulBanked planned
banks-lawful planned lawful = record { plans = lawful.plans.lawful; shape = lawful.plans.shape; count = lawful.count; orders = lawful.orders }

pub banked-lawful : (plans : Plans) → AreLawfulPlans plans → AreLawfulBanked (banks_of plans)
banked-lawful (One planned) lawful = one-lawful planned lawful
banked-lawful (Banks planned) lawful = banks-lawful planned lawful

pub some-plans : (planned : PlannedBanks) → AreLawfulBanked planned → 0 < length planned.plans
some-plans planned lawful = let count = lawful.count in let some = lawful.orders.some_samples in omega arith

-- ---- what is accepted

one-accepted : (plan : Plan) (orders : Orders) (until : ℕ) (bytes : List ℕ) (starts : List (ℕ → Sample)) → IsLawfulPlan plan → IsBytes bytes
    → level_resumed_by (record { plans = plan ∷ []; orders = orders }) until bytes ≡ Ok starts → IsLevelEncoding (plan ∷ []) until bytes starts
unfolding level_resumed_by level_banks_refusal level_banks_in level_encoding banks_parts AreBanks part
one-accepted plan orders until bytes starts lawful are is =
    let stand = stand_in plan bytes in
    let h = unless-ok (level_refusal plan until bytes) (banks_parts (plan ∷ []) (stand ∷ [])) starts is in
    let e = none-is plan until bytes lawful are h.0 in
    let own : IsLevelEncoding (plan ∷ []) until bytes (banks_parts (plan ∷ []) (stand ∷ [])) =
    record {
      epoch = stand.epoch;
      states_are = (record { stand = stand; fits = e.fits; stands = λ b small. refl }, refl, tt);
      in_time = e.in_time;
      bytes_are = e.bytes_are;
    } in
    subst (IsLevelEncoding (plan ∷ []) until bytes) h.1 own

several-accepted : (plan next : Plan) (plans : List Plan) (orders : Orders) (until : ℕ) (bytes : List ℕ) (starts : List (ℕ → Sample))
    → AreLawfulBanked (record { plans = plan ∷ next ∷ plans; orders = orders }) → IsBytes bytes
    → level_resumed_by (record { plans = plan ∷ next ∷ plans; orders = orders }) until bytes ≡ Ok starts → IsLevelEncoding (plan ∷ next ∷ plans) until bytes starts
unfolding level_resumed_by level_banks_refusal level_banks_in level_encoding banks_resumed_by
several-accepted plan next plans orders until bytes starts lawful are is =
    let planned : PlannedBanks = record { plans = plan ∷ next ∷ plans; orders = orders } in
    let count = lawful.count in
    let few = lawful.orders.few_samples in
    let e = accepted-banks planned until bytes starts (record { several = omega arith; few = omega arith; lawful = lawful.plans; shape = lawful.shape }) are is in
    record { epoch = e.epoch; states_are = e.states_are; in_time = e.in_time; bytes_are = e.bytes_are }

by-plans : (plans : List Plan) (orders : Orders) (until : ℕ) (bytes : List ℕ) (starts : List (ℕ → Sample)) → AreLawfulBanked (record { plans = plans; orders = orders }) → IsBytes bytes
    → level_resumed_by (record { plans = plans; orders = orders }) until bytes ≡ Ok starts → IsLevelEncoding plans until bytes starts
by-plans [] orders until bytes starts lawful are is = absurd (let z = some-plans (record { plans = []; orders = orders }) lawful in omega arith)
by-plans (plan ∷ []) orders until bytes starts lawful are is = one-accepted plan orders until bytes starts (All-head IsLawfulPlan plan [] lawful.plans) are is
by-plans (plan ∷ next ∷ plans) orders until bytes starts lawful are is = several-accepted plan next plans orders until bytes starts lawful are is

-- the bytes that are accepted are the encoding of what they are read as
pub accepted-level : (planned : PlannedBanks) (until : ℕ) (bytes : List ℕ) (starts : List (ℕ → Sample)) → AreLawfulBanked planned → IsBytes bytes
    → level_resumed_by planned until bytes ≡ Ok starts → IsLevelEncoding planned.plans until bytes starts
accepted-level planned until bytes starts lawful are is = by-plans planned.plans planned.orders until bytes starts lawful are is

-- ---- the reader

pub level-resume : (planned : PlannedBanks) (until : ℕ) (bytes : List ℕ) (stands : List Stand) → AreResumable planned.plans until stands
    → level_banks_decoded planned.plans until bytes ≡ Ok stands → Resumes (BanksStand planned.plans) (level_resumed_by planned until bytes) (Ok stands)
unfolding level_banks_decoded level_resumed_by
level-resume planned until bytes stands r is = resumed (level_banks_refusal planned.plans until bytes) (level_banks_in planned.plans bytes) is
  where
    resumed : (refusal : Option CheckpointRefused) (read : List Stand) → unless refusal read ≡ Ok stands
        → (from : List (ℕ → Sample)) × (unless refusal (banks_parts planned.plans read) ≡ Ok from) × BanksStand planned.plans from stands
    resumed None read h =
        let same : read ≡ stands = same-ok read stands h in
        (banks_parts planned.plans stands, ap (λ xs. Ok (banks_parts planned.plans xs)) same, parts-stand r.epoch planned.plans stands r.fit)
      where
        same-ok : (a b : List Stand) → ◌≡◌ {A = Result (List Stand) CheckpointRefused} (Ok a) (Ok b) → a ≡ b
        same-ok a b e = cc
    resumed (Some e) read h = absurd cc

-- what refuses one bank or several refuses a checkpoint
level-refuses : (plans : List Plan) (until : ℕ) (bytes : List ℕ) (e : CheckpointRefused) → ¬ (e ≡ checkpoint.NoMemory) → level_banks_refusal plans until bytes ≡ Some e → IsOfCheckpoint e
unfolding level_banks_refusal
level-refuses [] until bytes e not due = record { refusal = not; cause = inr ([], until, bytes, due) }
level-refuses (plan ∷ []) until bytes e not due = level-cause plan until bytes e not due
level-refuses (plan ∷ next ∷ plans) until bytes e not due = record { refusal = not; cause = inr (plan ∷ next ∷ plans, until, bytes, due) }

pub level-refused : (planned : PlannedBanks) (until : ℕ) (bytes : List ℕ) (e : CheckpointRefused) → (¬ (e ≡ checkpoint.NoMemory) → level_banks_decoded planned.plans until bytes ≡ Err e)
    → ¬ (e ≡ checkpoint.NoMemory) → IsOfCheckpoint e × (level_resumed_by planned until bytes ≡ Err e)
unfolding level_banks_decoded level_resumed_by
level-refused planned until bytes e exact not =
    let stands = level_banks_in planned.plans bytes in
    let both = refused-by (level_banks_refusal planned.plans until bytes) stands (banks_parts planned.plans stands) e (exact not) in
    (level-refuses planned.plans until bytes e not both.0, both.1)

-- so it is told as one of states at one epoch
told-level : (planned : PlannedBanks) (until : ℕ) (bytes : List ℕ) (e : CheckpointRefused) → level_resumed_by planned until bytes ≡ Err e → IsOfLevel (Checkpoint e)
unfolding level_resumed_by
told-level planned until bytes e is =
    let parts = banks_parts planned.plans (level_banks_in planned.plans bytes) in
    (planned.plans, until, bytes, (refused-by (level_banks_refusal planned.plans until bytes) parts parts e is).0)

pub unresumed-level : (planned : PlannedBanks) (until : ℕ) (bytes : List ℕ) (ending : Ending) → Unresumed (level_resumed_by planned until bytes) ending → IfRefused ending IsOfLevel
unresumed-level planned until bytes Done is = absurd is
unresumed-level planned until bytes (Refused told) (e, told_is, file, due) = subst IsOfLevel (sym told_is) (told-level planned until bytes e due)
unresumed-level planned until bytes (Unread role) is = absurd is
unresumed-level planned until bytes Unwritten is = absurd is
unresumed-level planned until bytes Unsaved is = absurd is
unresumed-level planned until bytes NoMemory is = tt

-- ---- one bank, as the only one of a list

pub only-one : {X Y : Type 0} (f : X → Y) (xs : List X) (x : X) → length xs ≡ 1 → x ≡ get_or xs 0 x → f x ∷ [] ≡ map f xs
only-one f [] x one is = absurd (omega (arith, one))
only-one f (y ∷ []) x one is = ap (λ z. f z ∷ []) is
only-one f (y ∷ z ∷ zs) x one is = absurd (omega (arith, one))

listed : (refusal : Option CheckpointRefused) (x : Stand) (e : CheckpointRefused) → GivesAfterTests {A = Stand} {B = Stand} checkpoint.NoMemory (λ s. s) (Err e) (unless refusal x)
    → GivesAfterTests {A = Vec Stand Global} {B = List Stand} checkpoint.NoMemory (λ (v : Vec Stand Global). v.items) (Err e) (unless refusal (x ∷ []))
listed None x e given = ((λ memory. (x ∷ [], refl)), λ not. absurd (let z = given.1 not in cc))
listed (Some due) x e given = ((λ memory. absurd (let z = (given.0 memory).1 in cc)), λ not. let z = given.1 not in let same : due ≡ e = cc in ap Err same)

-- it is refused as that of one plan
pub one-refused : (plan : Plan) (until : ℕ) (bytes : List ℕ) (e : CheckpointRefused) → GivesAfterTests {A = Stand} {B = Stand} checkpoint.NoMemory (λ s. s) (Err e) (decoded plan until bytes)
    → GivesAfterTests {A = Vec Stand Global} {B = List Stand} checkpoint.NoMemory (λ (v : Vec Stand Global). v.items) (Err e) (level_banks_decoded (plan ∷ []) until bytes)
unfolding decoded level_banks_decoded level_banks_refusal level_banks_in
one-refused plan until bytes e given = listed (level_refusal plan until bytes) (stand_in plan bytes) e given

read-one : (refusal : Option CheckpointRefused) (x y : Stand) → unless refusal x ≡ Ok y → unless refusal (x ∷ []) ≡ Ok (y ∷ [])
read-one None x y is = let same : x ≡ y = same-stand x y is in ap (λ s. Ok (s ∷ [])) same
  where
    same-stand : (a b : Stand) → ◌≡◌ {A = Result Stand CheckpointRefused} (Ok a) (Ok b) → a ≡ b
    same-stand a b e = cc
read-one (Some due) x y is = absurd cc

-- and read as its state
pub one-read : (plan : Plan) (until : ℕ) (bytes : List ℕ) (stand : Stand) → decoded plan until bytes ≡ Ok stand → level_banks_decoded (plan ∷ []) until bytes ≡ Ok (stand ∷ [])
unfolding decoded level_banks_decoded level_banks_refusal level_banks_in
one-read plan until bytes stand is = read-one (level_refusal plan until bytes) (stand_in plan bytes) stand is

pub one-resumable : (plan : Plan) (until : ℕ) (bytes : List ℕ) (stand : Stand) → IsEncoded plan until bytes stand → AreResumable (plan ∷ []) until (stand ∷ [])
unfolding BanksFit
one-resumable plan until bytes stand e = record { epoch = stand.epoch; fit = (e.fits, refl, tt); in_time = e.in_time }

-- several banks
pub several-read : (plans : List Plan) (until : ℕ) (bytes : List ℕ) → ¬ (length plans ≡ 1) → banks_decoded plans until bytes ≡ level_banks_decoded plans until bytes
unfolding level_banks_decoded level_banks_refusal level_banks_in banks_decoded
several-read [] until bytes not = refl
several-read (plan ∷ []) until bytes not = absurd (not refl)
several-read (plan ∷ next ∷ plans) until bytes not = refl
