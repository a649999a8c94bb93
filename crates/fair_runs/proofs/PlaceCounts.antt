-- How many decisions of a run are about places of a set.
use Rattle.std.proofs.Common.{◌≡◌, ℕ, zero, suc, ◌+◌, ◌*◌, ◌<◌, ◌≤◌, Bool, true, false, cond, ◌&&◌, ◌==◌, List, [], ◌∷◌, ◌++◌, length, map, flat_map, refl, ap, sym, ◌∙◌, arith, add-one}
use Rattle.std.specs.List.{count_by}
use Rattle.std.proofs.Math.Nat.{mul-le-mul_left}
use Rattle.std.proofs.lemmas.Bool.{le-ltb, ne_eqb}
use Rattle.std.proofs.lemmas.List.Sums.{sum_by-cons, sum_by-append, length-filter}
use Rattle.spin_model.specs.Steps.{table, count_below}
use Rattle.spin_model.specs.Lattice.{volume, colour}
use Rattle.spin_model.proofs.Tables.{length-table}
use Rattle.spin_model.proofs.Joined.{joined-zero, joined-more}
use Rattle.scalar_rule.specs.Plan.{Plan, slots_of}
use Rattle.scalar_rule.specs.Epoch.{has_turn}
use Rattle.finite_chance.specs.Sums.{sum_to}
use Rattle.finite_chance.proofs.Sums.{draw-is-sum}
use Rattle.finite_chance.proofs.Chains.{passing}
use Rattle.run_decisions.specs.Decisions.{Decision, Update, Exchange, slot_of, places_of, sites_of, sweep_decisions, sweeps_decisions, exchanges, turns_of, epoch_sweeps, epoch_decisions, run_decisions, measured_decisions}
use Rattle.fair_runs.specs.Places.{first_place, count_about}
use Rattle.fair_runs.proofs.Equilibrium.{passing-counts}
use Rattle.fair_runs.proofs.Partly.{sum-constant}

abbrev one_at : (ℕ → Bool) → ℕ → ℕ
one_at chosen p = cond (chosen p) 1 0

-- ---- lists joined

about-append : (chosen : ℕ → Bool) (xs ys : List Decision) → count_about chosen (xs ++ ys) ≡ count_about chosen xs + count_about chosen ys
about-append chosen xs ys = sum_by-append (λ d. cond (chosen (first_place d)) 1 0) xs ys

about-joined : (chosen : ℕ → Bool) (item : ℕ → List Decision) (most : ℕ → ℕ) (n : ℕ) → ((k : ℕ) → count_about chosen (item k) ≤ most k) → count_about chosen (flat_map item (table (λ k. k) n)) ≤ sum_to n most
unfolding sum_to
about-joined chosen item most zero few = let none = ap (count_about chosen) (joined-zero item (λ k. k)) in omega arith
about-joined chosen item most (suc n) few =
    let before = about-joined chosen item most n few in
    let last = few n in
    let more = ap (λ m. count_about chosen (flat_map item (table (λ k. k) m))) (sym (add-one n)) ∙ ap (count_about chosen) (joined-more item (λ k. k) n)
    ∙ about-append chosen (flat_map item (table (λ k. k) n)) (item n) in
    omega arith

about-each : (chosen : ℕ → Bool) (item : ℕ → List Decision) (width n : ℕ) → ((k : ℕ) → count_about chosen (item k) ≤ width) → count_about chosen (flat_map item (table (λ k. k) n)) ≤ n * width
about-each chosen item width n few = let e = about-joined chosen item (λ k. width) n few in let same = sum-constant n width in omega arith

about-places : (chosen : ℕ → Bool) (item : ℕ → List Decision) (width n : ℕ) → ((p : ℕ) → count_about chosen (item p) ≤ width * one_at chosen p)
    → count_about chosen (flat_map item (table (λ p. p) n)) ≤ width * passing chosen n
unfolding passing
about-places chosen item width n few =
    let e = about-joined chosen item (λ p. width * one_at chosen p) n few in
    let same = (draw-is-sum n).scales width (one_at chosen) in
    omega arith

-- ---- sweeps

one-colour : (c : ℕ) → c < 2 → cond (c == 0) 1 0 + cond (c == 1) 1 0 ≡ 1
one-colour zero small = refl
one-colour (suc zero) small = refl
one-colour (suc (suc c)) small = absurd (omega arith)

two-colours : (l : ℕ) (sites : List ℕ) → count_by (λ i. colour l i == 0) sites + count_by (λ i. colour l i == 1) sites ≡ length sites
two-colours l [] = omega arith
two-colours l (i ∷ sites) =
    let before = two-colours l sites in
    let one = sum_by-cons (λ k. cond (colour l k == 0) 1 0) i sites in
    let other = sum_by-cons (λ k. cond (colour l k == 1) 1 0) i sites in
    let both = one-colour (colour l i) (omega arith) in
    omega arith

all-sites : (l : ℕ) → length (sites_of l 0) + length (sites_of l 1) ≡ volume l
all-sites l =
    let sites = table (λ i. i) (volume l) in
    let one = length-filter (λ i. colour l i == 0) sites in
    let other = length-filter (λ i. colour l i == 1) sites in
    let both = two-colours l sites in
    let long = length-table (λ i. i) (volume l) in
    omega arith

about-updates : (chosen : ℕ → Bool) (p j : ℕ) (sites : List ℕ) → count_about chosen (map (Update p j) sites) ≡ length sites * one_at chosen p
unfolding first_place
about-updates chosen p j [] = omega arith
about-updates chosen p j (i ∷ sites) =
    let before = about-updates chosen p j sites in
    let more = sum_by-cons (λ d. cond (chosen (first_place d)) 1 0) (Update p j i) (map (Update p j) sites) in
    omega arith

about-sweep : (chosen : ℕ → Bool) (plan : Plan) (p j : ℕ) → count_about chosen (sweep_decisions plan p j) ≤ volume plan.size * one_at chosen p
about-sweep chosen plan p j =
    let both = about-append chosen (map (Update p j) (sites_of plan.size 0)) (map (Update p j) (sites_of plan.size 1)) in
    let one = about-updates chosen p j (sites_of plan.size 0) in
    let other = about-updates chosen p j (sites_of plan.size 1) in
    let all = ap (λ k. k * one_at chosen p) (all-sites plan.size) in
    omega arith

about-sweeps : (chosen : ℕ → Bool) (plan : Plan) (first n p : ℕ) → count_about chosen (sweeps_decisions plan first n p) ≤ n * volume plan.size * one_at chosen p
about-sweeps chosen plan first n p =
    let e = about-each chosen (λ j. sweep_decisions plan p (first + j)) (volume plan.size * one_at chosen p) n (λ j. about-sweep chosen plan p (first + j)) in
    omega arith

about-epoch_sweeps : (chosen : ℕ → Bool) (plan : Plan) (k : ℕ) → count_about chosen (epoch_sweeps plan k) ≤ plan.sweeps * volume plan.size * passing chosen (places_of plan)
about-epoch_sweeps chosen plan k =
    about-places chosen (sweeps_decisions plan (k * plan.sweeps) plan.sweeps) (plan.sweeps * volume plan.size) (places_of plan) (λ p. about-sweeps chosen plan (k * plan.sweeps) plan.sweeps p)

-- ---- exchanges, and epochs: at most so many exchanges of a place in one epoch, one or none

exchange_of : Plan → ℕ → ℕ → ℕ → List Decision
exchange_of plan start k p = cond (exchanges plan (start + k) p) (Exchange p (turns_of plan start k p) ∷ []) []

about-exchange : (chosen : ℕ → Bool) (p turn : ℕ) (t : Bool) → count_about chosen (cond t (Exchange p turn ∷ []) []) ≤ cond t 1 0 * one_at chosen p
unfolding first_place
about-exchange chosen p turn true = let one = sum_by-cons (λ d. cond (chosen (first_place d)) 1 0) (Exchange p turn) [] in omega arith
about-exchange chosen p turn false = omega arith

about-epochs : (chosen : ℕ → Bool) (plan : Plan) (start most n : ℕ) → ((e p : ℕ) → cond (exchanges plan e p) 1 0 ≤ most)
    → count_about chosen (measured_decisions plan start n) ≤ passing chosen (places_of plan) * (n * (plan.sweeps * volume plan.size + most) + plan.sweeps * volume plan.size)
unfolding exchange_of
about-epochs chosen plan start most n few =
    let c = passing chosen (places_of plan) in
    let wide = plan.sweeps * volume plan.size in
    let epoch : (k : ℕ) → count_about chosen (epoch_decisions plan start k) ≤ wide * c + most * c = λ k.
    let swept = about-epoch_sweeps chosen plan k in
    let traded = about-places chosen (exchange_of plan start k) most (places_of plan) (λ p.
    let one = about-exchange chosen p (turns_of plan start k p) (exchanges plan (start + k) p) in
    let less = mul-le-mul_left (one_at chosen p) (few (start + k) p) in
    omega arith) in
    let both = about-append chosen (epoch_sweeps plan k) (flat_map (exchange_of plan start k) (table (λ p. p) (places_of plan))) in
    omega arith in
    let run = about-each chosen (epoch_decisions plan start) (wide * c + most * c) n epoch in
    let last = about-epoch_sweeps chosen plan n in
    let both = about-append chosen (run_decisions plan start n) (epoch_sweeps plan n) in
    omega arith

at-most_one : (t : Bool) → cond t 1 0 ≤ 1
at-most_one true = omega arith
at-most_one false = omega arith

pub places-count : (plan : Plan) (chosen : ℕ → Bool) (start n : ℕ)
    → count_about chosen (measured_decisions plan start n) ≤ count_below chosen (places_of plan) * (n * (plan.sweeps * volume plan.size + 1) + plan.sweeps * volume plan.size)
places-count plan chosen start n = rw (← passing-counts chosen (places_of plan)) (about-epochs chosen plan start 1 n (λ e p. at-most_one (exchanges plan e p)))

-- ---- one slot

never : (t : Bool) → (t && false) ≡ false
never true = refl
never false = refl

not-counted : (t : Bool) → t ≡ false → cond t 1 0 ≤ 0
not-counted true off = cc
not-counted false off = omega arith

one-of_two : (p : ℕ) → passing (λ k. k == p) 2 ≤ 1
unfolding passing sum_to
one-of_two zero = omega arith
one-of_two (suc zero) = omega arith
one-of_two (suc (suc p)) =
    let first = not-counted (0 == suc (suc p)) (ne_eqb 0 (suc (suc p)) (λ e. absurd (omega arith))) in
    let second = not-counted (1 == suc (suc p)) (ne_eqb 1 (suc (suc p)) (λ e. absurd (omega arith))) in
    omega arith

pub one-place_count : (plan : Plan) (start n p : ℕ) → slots_of plan ≡ 1 → count_about (λ k. k == p) (measured_decisions plan start n) ≤ (n + 1) * (plan.sweeps * volume plan.size)
one-place_count plan start n p one =
    let none : (e k : ℕ) → cond (exchanges plan e k) 1 0 ≤ 0 = λ e k.
    let last : slots_of plan ≤ slot_of plan k + 1 = omega arith in
    not-counted (exchanges plan e k) (ap (λ t. has_turn (slot_of plan k) e && t) (le-ltb (slot_of plan k + 1) (slots_of plan) last) ∙ never (has_turn (slot_of plan k) e)) in
    let all = about-epochs (λ k. k == p) plan start 0 n none in
    let two : passing (λ k. k == p) (places_of plan) ≡ passing (λ k. k == p) 2 = ap (λ s. passing (λ k. k == p) (2 * s)) one in
    let few = one-of_two p in
    let less = mul-le-mul_left (n * (plan.sweeps * volume plan.size + 0) + plan.sweeps * volume plan.size) (let e : passing (λ k. k == p) (places_of plan) ≤ 1 = omega arith in e) in
    omega arith
