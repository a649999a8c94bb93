-- Checkpoints that are put one behind the other.
use Rattle.std.specs.Prelude.{flat_map}
use Rattle.std.proofs.Common.{◌≡◌, ℕ, zero, suc, ◌+◌, ◌*◌, ◌<◌, ◌≤◌, false, List, [], ◌∷◌, ◌++◌, length, map, drop, get_or, replicate, refl, sym, ap, ap₂, subst, ◌∙◌, arith, append_assoc, append-nil}
use Rattle.std.proofs.lemmas.List.{get_or-replicate, length-append, length-map}
use native.Mathlib.Nat.{mul-suc, mul-zero}
use Rattle.kept_states.specs.KeptReading.{stands_kept}
use Rattle.kept_states.specs.Levels.{level_encoding, stands_encoding, level_len, banks_spare, AreLevel}
use Rattle.plane_sweep.specs.Packed.{part, StandFits}
use Rattle.plane_sweep.specs.Uneven.{place_at, level_stand}
use Rattle.plane_sweep.specs.declared.stand.PairWheels.{PairWheels}
use Rattle.plane_sweep.specs.declared.stand.Stand.{Stand}
use Rattle.plane_sweep.specs.declared.replica.Duo.{Duo}
use Rattle.plane_sweep.specs.declared.uneven.Place.{Place}
use Rattle.plane_sweep.specs.declared.uneven.RaggedStand.{RaggedStand}
use Rattle.quenched_states.specs.KeptBytes.{kept_header, kept_body, kept_encoding}
use Rattle.run_checkpoint.specs.BankEncoding.{banks_header, banks_bytes, banks_encoding, banks_parts, bank_len, BanksFit, HaveShape, HaveOneShape}
use Rattle.run_checkpoint.specs.Encoding.{encoding, flattened, FitsKind}
use Rattle.run_checkpoint.specs.Kinds.{sealed}
use Rattle.run_checkpoint.specs.Lengths.{encoding_len}
use Rattle.run_checkpoint.specs.declared.kinds.Kind.TheVariants as kinds
use Rattle.run_checkpoint.proofs.BankSteps.{shape-len}
use Rattle.run_checkpoint.proofs.OneEncoding.{length-encoding}
use Rattle.scalar_rule.specs.Plan.{Plan, slots_of, IsLawfulPlan}
use Rattle.scalar_rule.specs.declared.sample.Record.{Record}
use Rattle.sha2.specs.Sha256.{sha256}

-- ---- one bank

abbrev rest_at : ℕ → Place
rest_at epoch = record { epoch = epoch; arrived = false }

first-place : (n epoch : ℕ) (places : List Place) → 0 < n → places ≡ replicate n (rest_at epoch) → (place_at places 0).epoch ≡ epoch
first-place n epoch places some are =
    ap (λ (ps : List Place). (place_at ps 0).epoch) are ∙ ap (λ (p : Place). p.epoch) (get_or-replicate n 0 (rest_at epoch) _ some)

-- slots at rest at the epoch of a state are that state
pub rests : (plan : Plan) (stand : Stand) (n : ℕ) (places : List Place) (pending : List Record) → IsLawfulPlan plan → slots_of plan ≡ n → StandFits plan stand
    → places ≡ replicate n (rest_at stand.epoch) → pending ≡ [] → FitsKind kinds.Level plan (record { places = places; slots = stand.slots; pairs = stand.pairs; pending = pending })
rests plan stand n places pending lawful slots fits rest none =
    let s : RaggedStand = record { places = places; slots = stand.slots; pairs = stand.pairs; pending = pending } in
    let some : 0 < n = omega (arith, lawful.rules.some, slots) in
    let flat : flattened s ≡ stand =
    ap (λ (e : ℕ). let x : Stand = record { epoch = e; slots = stand.slots; pairs = stand.pairs } in x) (first-place n stand.epoch places some rest) in
    let count : n ≡ length stand.slots = sym (fits.slots ∙ slots) in
    let made : s ≡ level_stand stand =
    ap₂ (λ (ps : List Place) (rs : List Record). let x : RaggedStand = record { places = ps; slots = stand.slots; pairs = stand.pairs; pending = rs } in x)
    (rest ∙ ap (λ k. replicate k (rest_at stand.epoch)) count) none in
    (made ∙ ap level_stand (sym flat), subst (StandFits plan) (sym flat) fits)

-- and the bytes are longer by its checkpoint
pub longer : (plan : Plan) (stand : Stand) (old new : List ℕ) → IsLawfulPlan plan → StandFits plan stand → new ≡ old ++ encoding plan (λ b. part plan.size b stand)
    → length new ≡ length old + encoding_len plan.size (slots_of plan)
longer plan stand old new lawful fits put =
    ap length put
    ∙ omega (arith, length-append old (encoding plan (λ b. part plan.size b stand)), length-encoding plan (λ b. part plan.size b stand) lawful (record { stand = stand; fits = fits; stands = λ b small. refl }))

-- ---- the next bank

pub next-fits : (plans more : List Plan) (plan : Plan) (stands rest : List Stand) (stand : Stand) → plans ≡ plan ∷ more → stands ≡ stand ∷ rest → AreLevel plans stands
    → StandFits plan stand × AreLevel more rest
unfolding BanksFit
next-fits plans more plan stands rest stand a b are =
    let own : BanksFit are.epoch (plan ∷ more) (stand ∷ rest) = subst (λ (ps : List Plan). BanksFit are.epoch ps (stand ∷ rest)) a (subst (λ (ss : List Stand). BanksFit are.epoch plans ss) b are.fit) in
    (own.0, record { epoch = are.epoch; fit = own.2 })

pub next-bytes : (plans more : List Plan) (plan : Plan) (stands rest : List Stand) (stand : Stand) (old new whole : List ℕ) → plans ≡ plan ∷ more → stands ≡ stand ∷ rest
    → new ≡ old ++ encoding plan (λ b. part plan.size b stand) → old ++ banks_bytes plans (banks_parts plans stands) ≡ whole → new ++ banks_bytes more (banks_parts more rest) ≡ whole
unfolding banks_bytes banks_parts
next-bytes plans more plan stands rest stand old new whole a b put so_far =
    let tail = banks_bytes more (banks_parts more rest) in
    ap (λ (xs : List ℕ). xs ++ tail) put ∙ append_assoc old (encoding plan (λ b. part plan.size b stand)) tail
    ∙ ap₂ (λ (ps : List Plan) (ss : List Stand). old ++ banks_bytes ps (banks_parts ps ss)) (sym a) (sym b) ∙ so_far

pub next-spare : (plans more : List Plan) (plan : Plan) → plans ≡ plan ∷ more → banks_spare plans ≡ encoding_len plan.size (slots_of plan) + banks_spare more
unfolding banks_spare
next-spare plans more plan a = ap banks_spare a

pub last-bytes : (plans : List Plan) (stands : List Stand) (old whole : List ℕ) → plans ≡ [] → old ++ banks_bytes plans (banks_parts plans stands) ≡ whole → old ≡ whole
unfolding banks_bytes
last-bytes plans stands old whole none so_far =
    sym (append-nil old) ∙ ap (λ (ps : List Plan). old ++ banks_bytes ps (banks_parts ps stands)) (sym none) ∙ so_far

pub last-spare : (plans : List Plan) → plans ≡ [] → banks_spare plans ≡ 0
unfolding banks_spare
last-spare plans none = ap banks_spare none

-- ---- all banks

pub one-spare : (plans : List Plan) → length plans ≡ 1 → banks_spare plans ≡ level_len plans
unfolding banks_spare level_len bank_len
one-spare [] one = absurd (omega (arith, one))
one-spare (plan ∷ []) one = omega arith
one-spare (plan ∷ next ∷ plans) one = absurd (omega (arith, one))

spare-shape : (l n : ℕ) (plans : List Plan) → HaveShape l n plans → banks_spare plans ≡ encoding_len l n * length plans
unfolding banks_spare HaveShape
spare-shape l n [] shape = sym (mul-zero (encoding_len l n))
spare-shape l n (plan ∷ plans) shape =
    let own : encoding_len plan.size (slots_of plan) ≡ encoding_len l n = ap₂ encoding_len shape.0 shape.1 in
    omega (arith, own, spare-shape l n plans shape.2, mul-suc (encoding_len l n) (length plans))

pub many-spare : (plans : List Plan) → 1 ≤ length plans → ¬ (length plans ≡ 1) → HaveOneShape plans → 44 + banks_spare plans ≡ level_len plans
unfolding level_len
many-spare [] some not shape = absurd (omega (arith, some))
many-spare (plan ∷ []) some not shape = absurd (not refl)
many-spare (plan ∷ next ∷ plans) some not shape =
    let all : List Plan = plan ∷ next ∷ plans in
    let own = shape-len shape.size shape.slots all shape.shape (omega (arith, some)) in
    ap (λ k. 44 + k) (spare-shape shape.size shape.slots all shape.shape ∙ ap (λ n. n * length all) (sym own))

pub one-encoding : (plans : List Plan) (stands : List Stand) (bytes : List ℕ) → length plans ≡ 1 → AreLevel plans stands → bytes ≡ [] ++ banks_bytes plans (banks_parts plans stands) → bytes ≡ stands_encoding plans stands
unfolding BanksFit banks_bytes banks_parts level_encoding
one-encoding [] stands bytes one are is = absurd (omega (arith, one))
one-encoding (plan ∷ []) [] bytes one are is = absurd are.fit
one-encoding (plan ∷ []) (stand ∷ []) bytes one are is = is ∙ append-nil (encoding plan (λ b. part plan.size b stand))
one-encoding (plan ∷ []) (stand ∷ other ∷ stands) bytes one are is = absurd are.fit.2
one-encoding (plan ∷ next ∷ plans) stands bytes one are is = absurd (omega (arith, one))

pub many-encoding : (plans : List Plan) (stands : List Stand) (bytes body : List ℕ) (count : ℕ) → 1 ≤ length plans → ¬ (length plans ≡ 1) → count ≡ length plans
    → body ≡ banks_header count ++ banks_bytes plans (banks_parts plans stands) → bytes ≡ sealed body → bytes ≡ stands_encoding plans stands
unfolding level_encoding banks_encoding
many-encoding [] stands bytes body count some not long put is = absurd (omega (arith, some))
many-encoding (plan ∷ []) stands bytes body count some not long put is = absurd (not refl)
many-encoding (plan ∷ next ∷ plans) stands bytes body count some not long put is =
    let all : List Plan = plan ∷ next ∷ plans in
    is ∙ ap sealed (put ∙ ap (λ n. banks_header n ++ banks_bytes all (banks_parts all stands)) long)

-- ---- the next state

pub next-state : (enc : List Stand → List ℕ) (states rest : List (List Stand)) (stands : List Stand) (old new piece whole : List ℕ) → states ≡ stands ∷ rest → piece ≡ enc stands → new ≡ old ++ piece
    → old ++ flat_map enc states ≡ whole → new ++ flat_map enc rest ≡ whole
next-state enc states rest stands old new piece whole a is put so_far =
    ap (λ (xs : List ℕ). xs ++ flat_map enc rest) (put ∙ ap (λ (xs : List ℕ). old ++ xs) is) ∙ append_assoc old (enc stands) (flat_map enc rest)
    ∙ ap (λ (ss : List (List Stand)). old ++ flat_map enc ss) (sym a) ∙ so_far

pub next-level : (plans : List Plan) (states rest : List (List Stand)) (stands : List Stand) → states ≡ stands ∷ rest → ((j : ℕ) → j < length states → AreLevel plans (get_or states j []))
    → (j : ℕ) → j < length rest → AreLevel plans (get_or rest j [])
next-level plans states rest stands a each j below =
    subst (λ (ss : List (List Stand)). AreLevel plans (get_or ss (suc j) [])) a (each (suc j) (omega (arith, below, ap (λ (ss : List (List Stand)). length ss) a)))

-- ---- all states

joined : (enc : List Stand → List ℕ) (states : List (List Stand)) → flat_map (λ (x : List ℕ). x) (map enc states) ≡ flat_map enc states
joined enc [] = refl
joined enc (s ∷ states) = ap (λ (xs : List ℕ). enc s ++ xs) (joined enc states)

pub all-kept : (plans : List Plan) (states : List (List Stand)) (head body bytes : List ℕ) → head ≡ kept_header (length states) → body ≡ head ++ flat_map (stands_encoding plans) states
    → bytes ≡ body ++ sha256 body → bytes ≡ stands_kept plans states
unfolding kept_encoding kept_body
all-kept plans states head body bytes front put is =
    let enc = stands_encoding plans in
    let own : body ≡ kept_header (length (map enc states)) ++ flat_map (λ (x : List ℕ). x) (map enc states) =
    put ∙ ap₂ (λ (a b : List ℕ). a ++ b) (front ∙ ap kept_header (sym (length-map states enc))) (sym (joined enc states)) in
    is ∙ ap (λ (b : List ℕ). b ++ sha256 b) own

-- as many banks as plans
pub same-count : (epoch : ℕ) (plans : List Plan) (stands : List Stand) → BanksFit epoch plans stands → length stands ≡ length plans
unfolding BanksFit
same-count epoch [] [] fit = refl
same-count epoch [] (stand ∷ stands) fit = absurd fit
same-count epoch (plan ∷ plans) [] fit = absurd fit
same-count epoch (plan ∷ plans) (stand ∷ stands) fit = ap (λ n. suc n) (same-count epoch plans stands fit.2)
