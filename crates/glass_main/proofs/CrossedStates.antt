-- Two saved states: the plans with another seed, what the checkpoints are read as, and what is printed of them.
use Rattle.std.proofs.Common.{inr, ◌≡◌, ℕ, suc, ◌+◌, ◌*◌, ◌≤◌, ◌<◌, List, [], ◌∷◌, map, length, get_or, Option, Some, None, option_map, IfSome, Result, Ok, Err, refl, sym, ap, ap₂, subst, ◌∙◌, arith}
use Rattle.std.specs.Prelude.{All, drop}
use Rattle.std.proofs.lemmas.List.{length-map}
use Rattle.std.proofs.lemmas.List.Elements.{All-nil, All-cons, All-head, All-tail}
use Rattle.glass_edges.specs.Contents.{Files}
use Rattle.glass_edges.specs.Refusals.{unless, GivesAfterTests}
use Rattle.glass_edges.proofs.FirstRefusals.{unless-ok}
use Rattle.glass_edges.proofs.NumberBytes.{IsBytes}
use Rattle.scalar_rule.specs.Plan.{Plan, slots_of, IsLawfulPlan}
use Rattle.plane_sweep.specs.Packed.{StandFits}
use Rattle.plane_sweep.specs.declared.stand.Stand.{Stand}
use Rattle.copies_report.specs.States.{HasSlots, AreStates, states_fields}
use Rattle.run_checkpoint.specs.BankDecoding.{banks_refusal, banks_in, banks_decoded}
use Rattle.run_checkpoint.specs.BankEncoding.{bank_len, BanksFit, HaveShape, HaveOneShape}
use Rattle.run_checkpoint.specs.Decoding.{decoded, IsEncoded}
use Rattle.run_checkpoint.specs.declared.refused.CheckpointRefused.{CheckpointRefused}
use Rattle.run_checkpoint.specs.declared.refused.CheckpointRefused.TheVariants as checkpoint
use Rattle.run_checkpoint.proofs.BankClauses.{none-encoded}
use Rattle.report_text.specs.Lines.{kind_text}
use Rattle.quenched_states.specs.CrossText.{CrossHeading, cross_text}
use Rattle.glass_main.specs.CrossRun.{with_seed, seeded, alone, states_decoded, AreStatesOf, CrossedStates, crossed_heading, crossed_by}
use Rattle.glass_main.specs.ManyBanks.{stands_at}
use Rattle.glass_main.specs.CrossedPlans.{AreFitting, slots_in}
use Rattle.glass_main.specs.Endings.{IsOfCheckpoint}
use Rattle.glass_main.specs.Gathers.{Gathers, Fetches}
use Rattle.glass_main.specs.Outside.{Store}
use Rattle.glass_main.specs.Request.{and_then, told_as, bytes_at, first_at, second_at}
use Rattle.glass_main.specs.Statuses.{IsRefusedBy}
use Rattle.glass_main.specs.declared.refusal.Refusal.{Refusal}
use Rattle.glass_main.specs.declared.refusal.Refusal.TheVariants.{Checkpoint, SecondCheckpoint}
use Rattle.glass_main.specs.declared.ending.Ending.TheVariants.{Refused}
use Rattle.glass_main.specs.declared.role.Role.TheVariants as roles
use Rattle.glass_main.proofs.SavedStates.{decoded-cause, read-encoded}

-- ---- plans with another seed

lawful-with : (seed : ℕ) (plan : Plan) → seed ≤ 9223372036854775807 → IsLawfulPlan plan → IsLawfulPlan (with_seed seed plan)
lawful-with seed plan small l = record {
  size = l.size;
  rules = l.rules;
  swaps = l.swaps;
  pairs = l.pairs;
  couplings = l.couplings;
  lattice = l.lattice;
  some_sweeps = l.some_sweeps;
  few_sweeps = l.few_sweeps;
  seed = small;
}

pub seeded-lawful : (seed : ℕ) (plans : List Plan) → seed ≤ 9223372036854775807 → All IsLawfulPlan plans → All IsLawfulPlan (seeded seed plans)
seeded-lawful seed [] small lawful = All-nil IsLawfulPlan
seeded-lawful seed (plan ∷ plans) small lawful =
    All-cons IsLawfulPlan (with_seed seed plan) (seeded seed plans) (lawful-with seed plan small (All-head IsLawfulPlan plan plans lawful))
    (seeded-lawful seed plans small (All-tail IsLawfulPlan plan plans lawful))

pub seeded-shape : (seed l n : ℕ) (plans : List Plan) → HaveShape l n plans → HaveShape l n (seeded seed plans)
unfolding HaveShape
seeded-shape seed l n [] shape = tt
seeded-shape seed l n (plan ∷ plans) shape = (shape.0, shape.1, seeded-shape seed l n plans shape.2)

pub seeded-length : (seed : ℕ) (plans : List Plan) → length (seeded seed plans) ≡ length plans
seeded-length seed [] = refl
seeded-length seed (plan ∷ plans) = ap (λ n. suc n) (seeded-length seed plans)

-- ---- what is read

same-stands : (a b : List Stand) → ◌≡◌ {A = Result (List Stand) CheckpointRefused} (Ok a) (Ok b) → a ≡ b
same-stands a b e = cc

alone-ok : (read : Result Stand CheckpointRefused) (states : List Stand) → alone read ≡ Ok states → (stand : Stand) × (read ≡ Ok stand) × (stand ∷ [] ≡ states)
alone-ok (Ok stand) states is = (stand, refl, same-stands (stand ∷ []) states is)
alone-ok (Err e) states is = absurd cc

-- states that are read are those whose checkpoint the bytes are
pub states-encoded : (plans : List Plan) (bytes : List ℕ) (states : List Stand) → 1 ≤ length plans → All IsLawfulPlan plans → IsBytes bytes → states_decoded plans bytes ≡ Ok states
    → AreStatesOf plans bytes states
unfolding states_decoded AreStatesOf banks_decoded
states-encoded [] bytes states some lawful are is = absurd (omega (arith, some))
states-encoded (plan ∷ []) bytes states some lawful are is =
    let read = alone-ok (decoded plan 1000000000 bytes) states is in
    subst (AreStatesOf (plan ∷ []) bytes) read.2 (read-encoded plan bytes read.0 (All-head IsLawfulPlan plan [] lawful) are read.1)
states-encoded (plan ∷ next ∷ plans) bytes states some lawful are is =
    let all : List Plan = plan ∷ next ∷ plans in
    let found = unless-ok (banks_refusal all 1000000000 bytes) (banks_in (bank_len all) all (drop 12 bytes)) states is in
    subst (AreStatesOf all bytes) found.1 (none-encoded all 1000000000 bytes (omega arith) lawful are found.0)

-- ---- what is refused

alone-refused : (read : Result Stand CheckpointRefused) (e : CheckpointRefused) → alone read ≡ Err e → read ≡ Err e
alone-refused (Ok stand) e is = absurd cc
alone-refused (Err due) e is = let same : due ≡ e = cc in ap Err same

due-of : (refusal : Option CheckpointRefused) (x : List Stand) (e : CheckpointRefused) → unless refusal x ≡ Err e → refusal ≡ Some e
due-of None x e is = absurd cc
due-of (Some due) x e is = let same : due ≡ e = cc in ap Some same

pub states-cause : (plans : List Plan) (bytes : List ℕ) (e : CheckpointRefused) → ¬ (e ≡ checkpoint.NoMemory) → states_decoded plans bytes ≡ Err e → IsOfCheckpoint e
unfolding states_decoded banks_decoded
states-cause [] bytes e refusal is =
    record { refusal = refusal; cause = inr ([], 1000000000, bytes, due-of (banks_refusal [] 1000000000 bytes) (banks_in (bank_len []) [] (drop 12 bytes)) e is) }
states-cause (plan ∷ []) bytes e refusal is = (decoded-cause plan bytes e refusal (alone-refused (decoded plan 1000000000 bytes) e is)).0
states-cause (plan ∷ next ∷ plans) bytes e refusal is =
    let all : List Plan = plan ∷ next ∷ plans in
    record { refusal = refusal; cause = inr (all, 1000000000, bytes, due-of (banks_refusal all 1000000000 bytes) (banks_in (bank_len all) all (drop 12 bytes)) e is) }

first-step : (plans : List Plan) (name bytes : List ℕ) (e : CheckpointRefused) (held : Option Files) → IfSome (option_map (bytes_at roles.Checkpoint name) held) (λ a. a ≡ Ok bytes)
    → states_decoded plans bytes ≡ Err e → IfSome (option_map (first_at plans name) held) (λ a. IsRefusedBy a (Checkpoint e))
unfolding first_at
first-step plans name bytes e None found read = tt
first-step plans name bytes e (Some files) found read =
    let whole : first_at plans name files ≡ Err (Checkpoint e) =
    ap (λ (a : Result (List ℕ) Refusal). and_then a (λ bs. told_as Checkpoint (states_decoded plans bs))) found ∙ ap (told_as Checkpoint) read in
    subst (λ (a : Result (List Stand) Refusal). IsRefusedBy a (Checkpoint e)) (sym whole) refl

second-step : (plans : List Plan) (name bytes : List ℕ) (e : CheckpointRefused) (held : Option Files) → IfSome (option_map (bytes_at roles.SecondCheckpoint name) held) (λ a. a ≡ Ok bytes)
    → states_decoded plans bytes ≡ Err e → IfSome (option_map (second_at plans name) held) (λ a. IsRefusedBy a (SecondCheckpoint e))
unfolding second_at
second-step plans name bytes e None found read = tt
second-step plans name bytes e (Some files) found read =
    let whole : second_at plans name files ≡ Err (SecondCheckpoint e) =
    ap (λ (a : Result (List ℕ) Refusal). and_then a (λ bs. told_as SecondCheckpoint (states_decoded plans bs))) found ∙ ap (told_as SecondCheckpoint) read in
    subst (λ (a : Result (List Stand) Refusal). IsRefusedBy a (SecondCheckpoint e)) (sym whole) refl

-- the step that reads such a checkpoint stops
pub first-refused : (plans : List Plan) (name bytes : List ℕ) (e : CheckpointRefused) (held holds : Store)
    → IfSome (option_map (bytes_at roles.Checkpoint name) held.holds) (λ a. a ≡ Ok bytes) → IsOfCheckpoint e → states_decoded plans bytes ≡ Err e
    → holds.faults ≡ held.faults → holds.holds ≡ held.holds → holds.lengths ≡ held.lengths → held.faults ≤ holds.faults
    → Gathers {A = List Stand} (option_map (first_at plans name) held.holds) (Fetches roles.Checkpoint) (Err (Refused (Checkpoint e))) held holds
first-refused plans name bytes e held holds found file due passed same lengths later = record {
  found = tt;
  passed = tt;
  stopped = (((refl, file), first-step plans name bytes e held.holds found due), passed, tt);
  same = same;
  lengths = lengths;
  later = later;
}

pub second-refused : (plans : List Plan) (name bytes : List ℕ) (e : CheckpointRefused) (held holds : Store)
    → IfSome (option_map (bytes_at roles.SecondCheckpoint name) held.holds) (λ a. a ≡ Ok bytes) → IsOfCheckpoint e → states_decoded plans bytes ≡ Err e
    → holds.faults ≡ held.faults → holds.holds ≡ held.holds → holds.lengths ≡ held.lengths → held.faults ≤ holds.faults
    → Gathers {A = List Stand} (option_map (second_at plans name) held.holds) (Fetches roles.SecondCheckpoint) (Err (Refused (SecondCheckpoint e))) held holds
second-refused plans name bytes e held holds found file due passed same lengths later = record {
  found = tt;
  passed = tt;
  stopped = (((refl, file), second-step plans name bytes e held.holds found due), passed, tt);
  same = same;
  lengths = lengths;
  later = later;
}

-- ---- what is printed

pub fitting-slots : (l n epoch : ℕ) (plans : List Plan) (stands : List Stand) → HaveShape l n plans → BanksFit epoch plans stands
    → All (HasSlots l n) stands × (length stands ≡ length plans)
unfolding HaveShape BanksFit
fitting-slots l n epoch [] [] shape fit = (All-nil (HasSlots l n), refl)
fitting-slots l n epoch [] (stand ∷ stands) shape fit = absurd fit
fitting-slots l n epoch (plan ∷ plans) [] shape fit = absurd fit
fitting-slots l n epoch (plan ∷ plans) (stand ∷ stands) shape fit =
    let rest = fitting-slots l n epoch plans stands shape.2 fit.2 in
    let slots = subst (λ (size : ℕ). HasSlots size n stand) shape.0 (record { count = fit.0.slots ∙ shape.1; fit = fit.0.each_slot }) in
    (All-cons (HasSlots l n) stand stands slots rest.0, ap (λ k. suc k) rest.1)

-- ---- the reader

pub only-plan : {X : Type 0} (f : X → Plan) (xs : List X) (d : X) → length xs ≡ 1 → map f xs ≡ f (get_or xs 0 d) ∷ []
only-plan f [] d one = absurd (omega (arith, one))
only-plan f (x ∷ []) d one = refl
only-plan f (x ∷ y ∷ xs) d one = absurd (omega (arith, one))

pub one-decoded : (plan : Plan) (bytes : List ℕ) → states_decoded (plan ∷ []) bytes ≡ alone (decoded plan 1000000000 bytes)
unfolding states_decoded
one-decoded plan bytes = refl

pub many-decoded : (plans : List Plan) (bytes : List ℕ) → (length plans ≡ 1 → ⊥) → states_decoded plans bytes ≡ banks_decoded plans 1000000000 bytes
unfolding states_decoded
many-decoded [] bytes not = refl
many-decoded (plan ∷ []) bytes not = absurd (not refl)
many-decoded (plan ∷ next ∷ plans) bytes not = refl

-- what the reader of one state refuses, or has no memory for
pub alone-gives : (e : CheckpointRefused) (read : Result Stand CheckpointRefused) → GivesAfterTests checkpoint.NoMemory (λ (s : Stand). s) (Err e) read
    → GivesAfterTests checkpoint.NoMemory (λ (s : List Stand). s) (Err e) (alone read)
alone-gives e read given = (λ is. let r = given.0 is in (r.0 ∷ [], ap alone r.1), λ not. ap alone (given.1 not))

-- an answer that reading gives in other words
pub gives-same : (result : Result (List Stand) CheckpointRefused) (e own : CheckpointRefused) (found read : Result (List Stand) CheckpointRefused) → result ≡ Err e → e ≡ own → found ≡ read
    → GivesAfterTests checkpoint.NoMemory (λ (s : List Stand). s) (Err own) read → GivesAfterTests checkpoint.NoMemory (λ (s : List Stand). s) result found
gives-same result e own found read is same told given = rw (is, same, told) given

-- and none for lack of memory
pub gives-none : (result : Result (List Stand) CheckpointRefused) (e : CheckpointRefused) (states : List Stand) (found : Result (List Stand) CheckpointRefused) → result ≡ Err e
    → e ≡ checkpoint.NoMemory → found ≡ Ok states → GivesAfterTests checkpoint.NoMemory (λ (s : List Stand). s) result found
gives-none result e states found is same told = rw is ((λ memory. (states, told)), λ not. absurd (not same))

pub not-one : {X : Type 0} (f : X → Plan) (xs : List X) → (length xs ≡ 1 → ⊥) → length (map f xs) ≡ 1 → ⊥
not-one f xs not one = not (sym (length-map xs f) ∙ one)

pub one-fits : (plan : Plan) (bytes : List ℕ) (stand : Stand) → IsEncoded plan 1000000000 bytes stand → AreFitting (plan ∷ []) (stand ∷ [])
unfolding BanksFit
one-fits plan bytes stand are = record { epoch = stand.epoch; fit = (are.fits, refl, tt) }

-- ---- the heading

pub first-slots : {X : Type 0} (f : X → Plan) (xs : List X) (d : X) → 1 ≤ length xs → slots_in (map f xs) ≡ slots_of (f (get_or xs 0 d))
first-slots f [] d some = absurd (omega (arith, some))
first-slots f (x ∷ xs) d some = refl

pub first-epoch : (stands : List Stand) (d : Stand) → 1 ≤ length stands → (get_or stands 0 d).epoch ≡ stands_at stands
unfolding stands_at
first-epoch [] d some = absurd (omega (arith, some))
first-epoch (stand ∷ stands) d some = refl

crossed-first : {X : Type 0} (f : X → Plan) (xs : List X) (d : X) (c : CrossedStates) → 1 ≤ length xs
    → crossed_by (map f xs) c ≡ cross_text (crossed_heading (f (get_or xs 0 d)) c) (states_fields (f (get_or xs 0 d)).size c.first c.second)
unfolding crossed_by
crossed-first f [] d c some = absurd (omega (arith, some))
crossed-first f (x ∷ xs) d c some = refl

-- the text by what is read of the first plan and of the first banks
pub crossed-shown : {X : Type 0} (f : X → Plan) (xs : List X) (d : X) (c : CrossedStates) (l slots seed one two : ℕ) (rule : List ℕ) (first second : List Stand) → 1 ≤ length xs
    → l ≡ (f (get_or xs 0 d)).size → slots ≡ slots_of (f (get_or xs 0 d)) → rule ≡ kind_text (f (get_or xs 0 d)).rules.kind → seed ≡ (f (get_or xs 0 d)).seed
    → one ≡ stands_at c.first → two ≡ stands_at c.second → first ≡ c.first → second ≡ c.second
    → cross_text (record { size = l; slots = slots; samples = c.planned.orders.samples; rule = rule; first_seed = seed; second_seed = c.seed; first_epoch = one; second_epoch = two })
    (states_fields l first second) ≡ crossed_by (map f xs) c
crossed-shown f xs d c l slots seed one two rule first second some a b r s e k m n = rw (a, b, r, s, e, k, m, n) (sym (crossed-first f xs d c some))

-- what is kept is what the text asks for
pub first-shape : {X : Type 0} (f : X → Plan) (xs : List X) (d : X) (l n : ℕ) → 1 ≤ length xs → HaveShape l n (map f xs)
    → ((f (get_or xs 0 d)).size ≡ l) × (slots_of (f (get_or xs 0 d)) ≡ n)
unfolding HaveShape
first-shape f [] d l n some shape = absurd (omega (arith, some))
first-shape f (x ∷ xs) d l n some shape = (shape.0, shape.1)

pub kept-states : (h : CrossHeading) (l n : ℕ) (plans : List Plan) (stands : List Stand) → h.size ≡ l → h.slots ≡ n → HaveShape l n plans → AreFitting plans stands
    → h.samples ≤ 64 * length plans → AreStates h stands
kept-states h l n plans stands size slots shape fit few =
    let found = fitting-slots l n fit.epoch plans stands shape fit.fit in
    record { samples = omega (arith, few, found.1); slots = rw (size, slots) found.0 }
