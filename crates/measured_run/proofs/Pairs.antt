-- The exchange of a pair writes two neighbouring slots of a bank.
use Rattle.std.proofs.Common.{◌≡◌, ◌≢◌, ℕ, inl, inr, ◌+◌, ◌<◌, true, List, length, map, get_or, set, ap, refl, sym, subst, ◌∙◌, arith}
use Rattle.std.proofs.lemmas.Bool.{cases_eq, cases_Bool}
use Rattle.std.proofs.lemmas.List.{map-set, get_or-map, get_or-set_other, length-map, length-set}
use Rattle.std.proofs.Math.Seq.{map-set_same}
use Rattle.scalar_rule.specs.Plan.{Plan}
use Rattle.scalar_rule.specs.Epoch.{slot_at, pair_at, has_turn}
use Rattle.scalar_rule.specs.Exchange.{cold_side, hot_side, drawn_pair}
use Rattle.scalar_rule.specs.Turns.{exchanged_pair, after_turn, drawn_in_turn}
use Rattle.scalar_rule.specs.declared.sample.PlainPair.{PlainPair}
use Rattle.scalar_rule.proofs.PairTurns.{turn-next}
use Rattle.plane_sweep.specs.Packed.{part_slot, part_pair}
use Rattle.plane_sweep.specs.declared.stand.PairWheels.{PairWheels}
use Rattle.slot_steps.specs.Totals.{AreTotals}
use Rattle.measured_run.specs.Cells.{slots_in, pairs_in, sums_in, AreCounted}
use Rattle.measured_run.specs.declared.cell.Cell.{Cell}

both-set : {A B : Type 0} (f : A → B) (xs : List A) (k : ℕ) (v w : A) → map f (set (set xs k v) (k + 1) w) ≡ set (set (map f xs) k (f v)) (k + 1) (f w)
both-set f xs k v w = map-set f (set xs k v) (k + 1) w ∙ ap (λ zs. set zs (k + 1) (f w)) (map-set f xs k v)

pub both-same : {A B : Type 0} (f : A → B) (xs : List A) (k : ℕ) (v w d : A) → f v ≡ f (get_or xs k d) → f w ≡ f (get_or xs (k + 1) d)
    → map f (set (set xs k v) (k + 1) w) ≡ map f xs
both-same f xs k v w d own next =
    let apart : k + 1 ≢ k = (λ e. absurd (omega (arith, e))) in
    let same : get_or (set xs k v) (k + 1) d ≡ get_or xs (k + 1) d = get_or-set_other xs k (k + 1) v d apart in
    map-set_same f (set xs k v) (k + 1) w d (next ∙ ap f (sym same)) ∙ map-set_same f xs k v d own

-- in each sample they are those of the exchange
pub pair-slots : (plan : Plan) (l b k : ℕ) (pair : PlainPair) (cells : List Cell) (cold hot new_cold new_hot : Cell)
    → k + 1 < length cells → get_or cells k cold ≡ cold → get_or cells (k + 1) hot ≡ hot
    → part_slot l b new_cold.duo ≡ cold_side plan b k pair (part_slot l b cold.duo) (part_slot l b hot.duo)
    → part_slot l b new_hot.duo ≡ hot_side plan b k pair (part_slot l b cold.duo) (part_slot l b hot.duo)
    → slots_in l b (set (set cells k new_cold) (k + 1) new_hot) ≡ exchanged_pair plan b k pair (slots_in l b cells)
unfolding exchanged_pair
pair-slots plan l b k pair cells cold hot new_cold new_hot below at next was became =
    let f = λ (cell : Cell). part_slot l b cell.duo in
    let ss = slots_in l b cells in
    let first : slot_at ss k ≡ f cold = get_or-map f cells k cold _ (omega arith) ∙ ap f at in
    let second : slot_at ss (k + 1) ≡ f hot = get_or-map f cells (k + 1) hot _ below ∙ ap f next in
    let new_first : f new_cold ≡ cold_side plan b k pair (slot_at ss k) (slot_at ss (k + 1)) =
    was ∙ ap (λ s. cold_side plan b k pair s (f hot)) (sym first) ∙ ap (λ s. cold_side plan b k pair (slot_at ss k) s) (sym second) in
    let new_second : f new_hot ≡ hot_side plan b k pair (slot_at ss k) (slot_at ss (k + 1)) =
    became ∙ ap (λ s. hot_side plan b k pair s (f hot)) (sym first) ∙ ap (λ s. hot_side plan b k pair (slot_at ss k) s) (sym second) in
    both-set f cells k new_cold new_hot ∙ ap (λ s. set (set ss k s) (k + 1) (f new_hot)) new_first
    ∙ ap (λ s. set (set ss k (cold_side plan b k pair (slot_at ss k) (slot_at ss (k + 1)))) (k + 1) s) new_second

-- ---- where the pair has its turn

pub turn-slots : (plan : Plan) (b e k : ℕ) (pairs : List PairWheels) (wheels : PairWheels) (cells cells_after : List Cell) → has_turn k e ≡ true
    → k < length pairs → slots_in plan.size b cells_after ≡ exchanged_pair plan b k (part_pair (get_or pairs k wheels)) (slots_in plan.size b cells)
    → slots_in plan.size b cells_after ≡ after_turn plan b k e (pairs_in pairs) (slots_in plan.size b cells)
unfolding after_turn
turn-slots plan b e k pairs wheels cells cells_after on below traded =
    let pair : pair_at (pairs_in pairs) k ≡ part_pair (get_or pairs k wheels) = get_or-map part_pair pairs k wheels _ below in
    rw on (traded ∙ ap (λ p. exchanged_pair plan b k p (slots_in plan.size b cells)) (sym pair))

pub turn-wheels : (e k : ℕ) (pairs : List PairWheels) (wheels now : PairWheels) → has_turn k e ≡ true
    → k < length pairs → part_pair now ≡ drawn_pair (part_pair (get_or pairs k wheels))
    → pairs_in (set pairs k now) ≡ drawn_in_turn k e (pairs_in pairs)
unfolding drawn_in_turn
turn-wheels e k pairs wheels now on below drawn =
    let pair : pair_at (pairs_in pairs) k ≡ part_pair (get_or pairs k wheels) = get_or-map part_pair pairs k wheels _ below in
    rw on (map-set part_pair pairs k now ∙ ap (λ p. set (pairs_in pairs) k p) (drawn ∙ ap drawn_pair (sym pair)))

-- the next pair has no turn, and those behind it have other slots
pub turn-counted : (plan : Plan) (e k : ℕ) (cells cells_after : List Cell) → has_turn k e ≡ true
    → ((j : ℕ) (d : Cell) → k + 1 < j → get_or cells_after j d ≡ get_or cells j d)
    → AreCounted plan e k cells → AreCounted plan e (k + 1) cells_after
turn-counted plan e k cells cells_after on others counted j d from below turn =
    let next = turn-next k e on in
    let apart : j ≢ k + 1 = (λ same. absurd (let here : has_turn (k + 1) e ≡ true = subst (λ i. has_turn i e ≡ true) same turn in cc)) in
    let far : k + 1 < j = elim (cases_eq j (k + 1)) [
      | inl same ↦ absurd (apart same)
      | inr other ↦ omega (arith, other, from)
    ] in
    let own = others j d far in
    let mate = others (j + 1) d (omega (arith, far)) in
    let was = counted j d (omega (arith, from)) below turn in
    let T : Cell → Type 0 = λ x. AreTotals plan x.duo x.totals in
    (subst T (sym own) was.0, subst T (sym mate) was.1)

-- ---- lengths

pub slots-long : (l b : ℕ) (cells : List Cell) → length (slots_in l b cells) ≡ length cells
slots-long l b cells = length-map cells (λ (cell : Cell). part_slot l b cell.duo)

pub pairs-long : (pairs : List PairWheels) → length (pairs_in pairs) ≡ length pairs
pairs-long pairs = length-map pairs part_pair

sums-long : (cells : List Cell) → length (sums_in cells) ≡ length cells
sums-long cells = length-map cells (λ (cell : Cell). cell.sums)

pub same-count : (cells before : List Cell) → sums_in cells ≡ sums_in before → length cells ≡ length before
same-count cells before same = sym (sums-long cells) ∙ ap length same ∙ sums-long before

drawn-long : (k e : ℕ) (pairs : List PlainPair) → length (drawn_in_turn k e pairs) ≡ length pairs
unfolding drawn_in_turn
drawn-long k e pairs = elim (cases_Bool (has_turn k e)) [
  | inl on ↦ rw on (length-set pairs k (drawn_pair (pair_at pairs k)))
  | inr off ↦ rw off refl
]

pub same-pairs : (k e : ℕ) (pairs before : List PairWheels) → pairs_in pairs ≡ drawn_in_turn k e (pairs_in before) → length pairs ≡ length before
same-pairs k e pairs before same = sym (pairs-long pairs) ∙ ap length same ∙ drawn-long k e (pairs_in before) ∙ pairs-long before
