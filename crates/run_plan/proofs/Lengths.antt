-- How many canonical bytes a plan has.
use Rattle.std.proofs.Common.{◌≡◌, ℕ, ◌+◌, ◌*◌, List, [], ◌∷◌, ◌++◌, length, refl, ap, ◌∙◌, arith, length-append, codes}
use Rattle.std.specs.List.{All, flat_map, sum_by}
use Rattle.std.proofs.lemmas.List.Sums.{sum_by-cons}
use Rattle.std.proofs.lemmas.List.Elements.{All-head, All-tail}
use Rattle.byteorder.specs.Endian.{big_bytes}
use Rattle.spin_model.specs.Lattice.{volume}
use Rattle.spin_model.specs.Words.{words_64}
use Rattle.spin_model.proofs.WordBytes.{length-big_bytes, length-words}
use Rattle.coupling_set.specs.CouplingWords.{CouplingsView}
use Rattle.threshold_table.specs.declared.rule_table.RuleKind.TheVariants as kinds
use Rattle.threshold_table.specs.Tables.{cases_of}
use Rattle.scalar_rule.specs.Plan.{Plan, IsLawfulPlan, slots_of}
use Rattle.run_plan.specs.CanonicalPlan.{header_bytes, pair_bytes, bond_words, kind_number, canonical, canonical_length}
use Rattle.run_plan.proofs.Messages.{length-bond_words}
use native.Mathlib.Nat.{mul-suc}

length-rows : (k : ℕ) (rows : List (List ℕ)) → All (λ row. length row ≡ k) rows → length (flat_map words_64 rows) ≡ 8 * (k * length rows)
length-rows k [] sized = omega arith
length-rows k (row ∷ rows) sized =
    let here : length row ≡ k = All-head (λ xs. length xs ≡ k) row rows sized in
    length-append (words_64 row) (flat_map words_64 rows)
    ∙ omega (arith, here, length-words 8 row, length-rows k rows (All-tail (λ xs. length xs ≡ k) row rows sized), mul-suc k (length rows))

length-pairs : (swaps : List (List ℕ)) → length (flat_map pair_bytes swaps) ≡ sum_by (λ entries. 4 + 8 * length entries) swaps
length-pairs [] = refl
length-pairs (e ∷ es) =
    let one_more : sum_by (λ entries. 4 + 8 * length entries) (e ∷ es) ≡ (4 + 8 * length e) + sum_by (λ entries. 4 + 8 * length entries) es = sum_by-cons (λ entries. 4 + 8 * length entries) e es in
    length-append (pair_bytes e) (flat_map pair_bytes es)
    ∙ omega (arith, length-append (big_bytes 4 (length e)) (words_64 e), length-big_bytes 4 (length e), length-words 8 e, length-pairs es, one_more)

length-bonds : (couplings : CouplingsView) → length (words_64 (bond_words couplings)) ≡ 24 * volume couplings.size
length-bonds couplings = length-words 8 (bond_words couplings) ∙ omega (arith, length-bond_words couplings)

length-six : (a b c d e f : List ℕ) → length (a ++ b ++ c ++ d ++ e ++ f) ≡ length a + length b + length c + length d + length e + length f
length-six a b c d e f = simp length-append refl

length-header : (plan : Plan) → length (header_bytes plan) ≡ 32
unfolding header_bytes
length-header plan =
    length-six (codes "GLASSPL1") (big_bytes 4 plan.size) (big_bytes 4 (slots_of plan)) (big_bytes 4 (kind_number plan.rules.kind)) (big_bytes 4 plan.sweeps) (big_bytes 8 plan.seed)
    ∙ omega (arith, length-big_bytes 4 plan.size, length-big_bytes 4 (slots_of plan), length-big_bytes 4 (kind_number plan.rules.kind), length-big_bytes 4 plan.sweeps, length-big_bytes 8 plan.seed)

length-four : (a b c d : List ℕ) → length (a ++ b ++ c ++ d) ≡ length a + length b + length c + length d
length-four a b c d = simp length-append refl

-- the length by the numbers of slots, entries and sites
pub length-canonical : (plan : Plan) → IsLawfulPlan plan → length (canonical plan) ≡ canonical_length plan
unfolding canonical
length-canonical plan lawful =
    let sized : All (λ row. length row ≡ cases_of plan.rules.kind) plan.rules.rows = λ k d within. omega (arith, (lawful.rules.rows k d within).least, (lawful.rules.rows k d within).most) in
    length-four (header_bytes plan) (flat_map words_64 plan.rules.rows) (flat_map pair_bytes plan.swaps) (words_64 (bond_words plan.couplings))
    ∙ omega (arith, length-header plan, length-rows (cases_of plan.rules.kind) plan.rules.rows sized, length-pairs plan.swaps, length-bonds plan.couplings, ap volume lawful.lattice)

no-pairs : (swaps : List (List ℕ)) → length swaps + 1 ≡ 1 → sum_by (λ entries. 4 + 8 * length entries) swaps ≡ 0
no-pairs [] none = refl
no-pairs (e ∷ es) none = absurd (omega arith)

-- the smallest plan: size 4, one slot, heat bath
pub length-smallest : (plan : Plan) → IsLawfulPlan plan → plan.size ≡ 4 → slots_of plan ≡ 1 → plan.rules.kind ≡ kinds.Heat → length (canonical plan) ≡ 1624
length-smallest plan lawful size one heat =
    let cases : cases_of plan.rules.kind ≡ 7 = ap cases_of heat in
    let sites : volume plan.size ≡ 64 = ap volume size in
    let none = no-pairs plan.swaps (lawful.pairs ∙ one) in
    length-canonical plan lawful ∙ rw (cases, one, none, sites) refl
