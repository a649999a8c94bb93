-- What is measured; how many decisions there are; the labels of the generators.
use Rattle.std.proofs.Common.{inl, inr, ◌≡◌, ℕ, zero, suc, ◌+◌, ◌-◌, ◌*◌, ◌/◌, ◌%◌, ◌<◌, ◌≤◌, Bool, true, false, cond, ltb, ◌==◌, List, [], ◌∷◌, length, get_or, map, flat_map, refl, ap, sym, ◌∙◌, arith, add-one, length-append}
use Rattle.std.specs.List.{filter}
use Rattle.std.proofs.lemmas.Bool.{cases_lt, lt-ltb, le-ltb}
use Rattle.std.proofs.lemmas.Nat.{div-mul-add, mod-mul-add}
use Rattle.std.proofs.lemmas.List.{length-map}
use Rattle.std.proofs.lemmas.List.Elements.{filter-append}
use Rattle.coupling_set.specs.CouplingWords.{bonds_of}
use Rattle.spin_model.specs.Steps.{table}
use Rattle.spin_model.specs.Lattice.{volume, colour}
use Rattle.spin_model.specs.Seeding.{seeded, sweep_words}
use Rattle.spin_model.proofs.Tables.{table-more, get_or-table}
use Rattle.spin_model.proofs.Joined.{joined-zero, joined-more, length-joined}
use Rattle.scalar_rule.specs.Plan.{Plan, slots_of, pairs_of}
use Rattle.scalar_rule.specs.Sums.{energy, overlap}
use Rattle.scalar_rule.specs.Epoch.{slot_at, swept_slots, record_of, epoch_records}
use Rattle.scalar_rule.specs.Records.{record_at, no_record}
use Rattle.scalar_rule.specs.Opening.{opening, opening_slot, opening_pair, seeded_words}
use Rattle.scalar_rule.specs.declared.sample.Start.{Start}
use Rattle.scalar_rule.specs.declared.sample.PlainSlot.{PlainSlot}
use Rattle.scalar_rule.specs.declared.sample.PlainPair.{PlainPair}
use Rattle.scalar_rule.specs.declared.sample.Record.{Record}
use Rattle.scalar_rule.specs.declared.sample.Sample.{Sample}
use Rattle.run_decisions.specs.Decisions.{Decision, Update, Exchange, Generator, SweepGenerator, ExchangeGenerator, Label, IsGeneratorOf, label_of, replica_of, slot_of, places_of, copy_in, swept_state, spins_at, words_of, sites_of, sweep_decisions, sweeps_decisions, exchanges, turns_of, epoch_sweeps, epoch_decisions, run_decisions}
use Rattle.run_decisions.specs.Runs.{IsMeasuredIn}
use Rattle.run_decisions.proofs.Epochs.{slot-below}

-- ---- records

first-place : (plan : Plan) (s : Sample) (t : ℕ) → t < slots_of plan → spins_at (swept_state plan s) t ≡ (slot_at (swept_slots plan s) t).first.spins
first-place plan s t below =
    get_or-table _ (places_of plan) t [] (omega arith)
    ∙ ap (λ b. (cond b (slot_at (swept_slots plan s) (cond b t (t - slots_of plan))).first (slot_at (swept_slots plan s) (cond b t (t - slots_of plan))).second).spins) (lt-ltb t (slots_of plan) below)

second-place : (plan : Plan) (s : Sample) (t : ℕ) → t < slots_of plan → spins_at (swept_state plan s) (slots_of plan + t) ≡ (slot_at (swept_slots plan s) t).second.spins
second-place plan s t below =
    let p = slots_of plan + t in
    let back : p - slots_of plan ≡ t = omega arith in
    get_or-table _ (places_of plan) p [] (omega arith)
    ∙ ap (λ b. (cond b (slot_at (swept_slots plan s) (cond b p (p - slots_of plan))).first (slot_at (swept_slots plan s) (cond b p (p - slots_of plan))).second).spins) (le-ltb p (slots_of plan) (omega arith))
    ∙ ap (λ k. (slot_at (swept_slots plan s) k).second.spins) back

pub records-are : (plan : Plan) (s : Sample) (t : ℕ) → t < slots_of plan → IsMeasuredIn plan s.bit (swept_state plan s) t (record_at (epoch_records plan s) t)
records-are plan s t below =
    let is : record_at (epoch_records plan s) t ≡ record_of plan s.bit (slot_at (swept_slots plan s) t) = get_or-table (λ k. record_of plan s.bit (slot_at (swept_slots plan s) k)) (slots_of plan) t no_record below in
    let one = first-place plan s t below in
    let other = second-place plan s t below in
    let bonds = bonds_of plan.couplings s.bit in
    record {
      first = ap (λ (r : Record). r.first_energy) is ∙ ap (energy plan.size bonds) (sym one);
      second = ap (λ (r : Record). r.second_energy) is ∙ ap (energy plan.size bonds) (sym other);
      overlap = ap (λ (r : Record). r.overlap) is ∙ ap (λ x. overlap plan.size x (slot_at (swept_slots plan s) t).second.spins) (sym one) ∙ ap (overlap plan.size (spins_at (swept_state plan s) t)) (sym other);
    }

-- ---- how many

below-sites : ℕ → ℕ → ℕ → List ℕ
below-sites l c n = filter (λ i. colour l i == c) (table (λ i. i) n)

sites-more : (l c n : ℕ) → length (below-sites l c (suc n)) ≡ length (below-sites l c n) + cond (colour l n == c) 1 0
unfolding below-sites
sites-more l c n =
    ap (λ m. length (filter (λ i. colour l i == c) (table (λ i. i) m))) (sym (add-one n))
    ∙ ap (λ xs. length (filter (λ i. colour l i == c) xs)) (table-more (λ i. i) n)
    ∙ ap length (filter-append (λ i. colour l i == c) (table (λ i. i) n) (n ∷ []))
    ∙ length-append (below-sites l c n) (cond (colour l n == c) (n ∷ []) [])
    ∙ ap (λ x. length (below-sites l c n) + x) (which (colour l n == c))
  where
    which : (t : Bool) → length (cond t (n ∷ []) []) ≡ cond t 1 0
    which true = refl
    which false = refl

one-colour : (c : ℕ) → c < 2 → cond (c == 0) 1 0 + cond (c == 1) 1 0 ≡ 1
one-colour zero small = refl
one-colour (suc zero) small = refl
one-colour (suc (suc c)) small = absurd (omega arith)

all-sites : (l n : ℕ) → length (below-sites l 0 n) + length (below-sites l 1 n) ≡ n
unfolding below-sites table
all-sites l zero = omega arith
all-sites l (suc n) =
    let before = all-sites l n in
    let one = sites-more l 0 n in
    let other = sites-more l 1 n in
    let both = one-colour (colour l n) (omega arith) in
    omega arith

sweep-count : (plan : Plan) (p j : ℕ) → length (sweep_decisions plan p j) ≡ volume plan.size
unfolding below-sites
sweep-count plan p j =
    length-append (map (Update p j) (sites_of plan.size 0)) (map (Update p j) (sites_of plan.size 1))
    ∙ ap (λ x. x + length (map (Update p j) (sites_of plan.size 1))) (length-map (sites_of plan.size 0) (Update p j))
    ∙ ap (λ x. length (sites_of plan.size 0) + x) (length-map (sites_of plan.size 1) (Update p j))
    ∙ all-sites plan.size (volume plan.size)

length-most : {A : Type 0} (item : ℕ → List A) (n width : ℕ) → ((k : ℕ) → k < n → length (item k) ≤ width) → length (flat_map item (table (λ k. k) n)) ≤ n * width
length-most item zero width each = let e = ap length (joined-zero item (λ k. k)) in omega arith
length-most item (suc n) width each =
    let e = ap (λ m. length (flat_map item (table (λ k. k) m))) (sym (add-one n)) ∙ ap length (joined-more item (λ k. k) n) ∙ length-append (flat_map item (table (λ k. k) n)) (item n) in
    let before = length-most item n width (λ k below. each k (omega arith)) in
    let last = each n (omega arith) in
    omega arith

item-few : (b : Bool) (d : Decision) → length (cond b (d ∷ []) []) ≤ 1
item-few true d = omega arith
item-few false d = omega arith

epoch-count : (plan : Plan) (start k : ℕ) → length (epoch_decisions plan start k) ≤ places_of plan * (plan.sweeps * volume plan.size + 1)
epoch-count plan start k =
    let many = places_of plan in
    let sweeps = epoch_sweeps plan k in
    let rest = flat_map (λ p. cond (exchanges plan (start + k) p) (Exchange p (turns_of plan start k p) ∷ []) []) (table (λ p. p) many) in
    let whole = length-append sweeps rest in
    let one : length sweeps ≡ many * (plan.sweeps * volume plan.size) = length-joined (sweeps_decisions plan (k * plan.sweeps) plan.sweeps) (λ p. p) many (plan.sweeps * volume plan.size)
    (λ p below. length-joined (λ j. sweep_decisions plan p (k * plan.sweeps + j)) (λ j. j) plan.sweeps (volume plan.size) (λ j under. sweep-count plan p (k * plan.sweeps + j))) in
    let other : length rest ≤ many * 1 = length-most (λ p. cond (exchanges plan (start + k) p) (Exchange p (turns_of plan start k p) ∷ []) []) many 1 (λ p below. item-few (exchanges plan (start + k) p) (Exchange p (turns_of plan start k p))) in
    omega arith

pub run-count : (plan : Plan) (start n : ℕ) → length (run_decisions plan start n) ≤ n * (places_of plan * (plan.sweeps * volume plan.size + 1))
run-count plan start n = length-most (epoch_decisions plan start) n (places_of plan * (plan.sweeps * volume plan.size + 1)) (λ k below. epoch-count plan start k)

-- ---- labels

opened : (plan : Plan) (start : Start) (bank b p : ℕ) → p < places_of plan → (copy_in plan (opening plan start bank b).slots p).wheels ≡ seeded_words plan.size plan.seed (slot_of plan p) (replica_of plan p)
opened plan start bank b p below =
    ap (λ (x : PlainSlot). (cond (ltb p (slots_of plan)) x.first x.second).wheels) (get_or-table (opening_slot plan start bank b) (slots_of plan) (slot_of plan p) _ (slot-below plan p below))
    ∙ which (ltb p (slots_of plan))
  where
    which : (one : Bool) → (cond one (opening_slot plan start bank b (slot_of plan p)).first (opening_slot plan start bank b (slot_of plan p)).second).wheels ≡ seeded_words plan.size plan.seed (slot_of plan p) (cond one 0 1)
    which true = refl
    which false = refl

opened-pair : (plan : Plan) (start : Start) (bank b p : ℕ) → p < places_of plan → slot_of plan p + 1 < slots_of plan
    → words_of plan (opening plan start bank b) (ExchangeGenerator p) ≡ seeded plan.seed 2 (slot_of plan p) (replica_of plan p) bank
unfolding words_of
opened-pair plan start bank b p below paired =
    ap (λ (x : PlainPair). cond (ltb p (slots_of plan)) x.first x.second) (get_or-table (opening_pair plan bank) (pairs_of plan) (slot_of plan p) _ (omega arith))
    ∙ which (ltb p (slots_of plan))
  where
    which : (one : Bool) → cond one (seeded plan.seed 2 (slot_of plan p) 0 bank) (seeded plan.seed 2 (slot_of plan p) 1 bank) ≡ seeded plan.seed 2 (slot_of plan p) (cond one 0 1) bank
    which true = refl
    which false = refl

list-small : (l c z : ℕ) → c < 2 → z < l → c * l + z < 2 * l
list-small l zero z few below = omega arith
list-small l (suc zero) z few below = omega arith
list-small l (suc (suc c)) z few below = absurd (omega arith)

pub labelled : (plan : Plan) (start : Start) (bank b : ℕ) (g : Generator) → IsGeneratorOf plan g
    → words_of plan (opening plan start bank b) g ≡ seeded plan.seed (label_of plan bank g).kind (label_of plan bank g).part_a (label_of plan bank g).part_b (label_of plan bank g).part_c
unfolding words_of label_of IsGeneratorOf
labelled plan start bank b (SweepGenerator p c z) of =
    let l = plan.size in
    ap (λ ws. get_or ws (c * l + z) []) (opened plan start bank b p of.0)
    ∙ get_or-table (λ k. sweep_words plan.seed (slot_of plan p) (replica_of plan p) (k / l) (k % l)) (2 * l) (c * l + z) [] (list-small l c z of.1 of.2)
    ∙ ap (λ x. sweep_words plan.seed (slot_of plan p) (replica_of plan p) x ((c * l + z) % l)) (div-mul-add c l z of.2)
    ∙ ap (λ x. sweep_words plan.seed (slot_of plan p) (replica_of plan p) c x) (mod-mul-add c l z of.2)
labelled plan start bank b (ExchangeGenerator p) of = opened-pair plan start bank b p of.0 of.1

-- slot and replica tell the place
place-told : (plan : Plan) (p q : ℕ) → slot_of plan p ≡ slot_of plan q → replica_of plan p ≡ replica_of plan q → p ≡ q
place-told plan p q slot replica = elim (cases_lt p (slots_of plan)) [
  | inl low ↦
      let a = lt-ltb p (slots_of plan) low in
      let s : slot_of plan p ≡ p = ap (λ t. cond t p (p - slots_of plan)) a in
      let r : replica_of plan p ≡ 0 = ap (λ t. cond t 0 1) a in
      elim (cases_lt q (slots_of plan)) [
        | inl also ↦ let k : slot_of plan q ≡ q = ap (λ t. cond t q (q - slots_of plan)) (lt-ltb q (slots_of plan) also) in omega arith
        | inr other ↦ let k : replica_of plan q ≡ 1 = ap (λ t. cond t 0 1) (le-ltb q (slots_of plan) other) in absurd (omega arith)
      ]
  | inr high ↦
      let a = le-ltb p (slots_of plan) high in
      let s : slot_of plan p ≡ p - slots_of plan = ap (λ t. cond t p (p - slots_of plan)) a in
      let r : replica_of plan p ≡ 1 = ap (λ t. cond t 0 1) a in
      elim (cases_lt q (slots_of plan)) [
        | inl other ↦ let k : replica_of plan q ≡ 0 = ap (λ t. cond t 0 1) (lt-ltb q (slots_of plan) other) in absurd (omega arith)
        | inr also ↦ let k : slot_of plan q ≡ q - slots_of plan = ap (λ t. cond t q (q - slots_of plan)) (le-ltb q (slots_of plan) also) in omega arith
      ]
]

digit-told : (x y c e : ℕ) → c < 2 → e < 2 → 2 * x + c ≡ 2 * y + e → (x ≡ y) × (c ≡ e)
digit-told x y c e one other same = (omega arith, omega arith)

pub labels-own : (plan : Plan) (bank : ℕ) (g h : Generator) → IsGeneratorOf plan g → IsGeneratorOf plan h → label_of plan bank g ≡ label_of plan bank h → g ≡ h
unfolding label_of IsGeneratorOf
labels-own plan bank (SweepGenerator p c z) (SweepGenerator q e y) of also same =
    let slot : slot_of plan p ≡ slot_of plan q = ap (λ (x : Label). x.part_a) same in
    let mixed : 2 * replica_of plan p + c ≡ 2 * replica_of plan q + e = ap (λ (x : Label). x.part_b) same in
    let both = digit-told (replica_of plan p) (replica_of plan q) c e of.1 also.1 mixed in
    let plane : z ≡ y = ap (λ (x : Label). x.part_c) same in
    let place = place-told plan p q slot both.0 in
    ap (λ x. SweepGenerator x c z) place ∙ ap (λ x. SweepGenerator q x z) both.1 ∙ ap (SweepGenerator q e) plane
labels-own plan bank (SweepGenerator p c z) (ExchangeGenerator q) of also same = absurd (let kinds : 1 ≡ 2 = ap (λ (x : Label). x.kind) same in omega arith)
labels-own plan bank (ExchangeGenerator p) (SweepGenerator q e y) of also same = absurd (let kinds : 2 ≡ 1 = ap (λ (x : Label). x.kind) same in omega arith)
labels-own plan bank (ExchangeGenerator p) (ExchangeGenerator q) of also same =
    ap ExchangeGenerator (place-told plan p q (ap (λ (x : Label). x.part_a) same) (ap (λ (x : Label). x.part_b) same))
