-- The samples of one packed state have the same generators, and go on to have them.
use Rattle.std.proofs.Common.{◌≡◌, ℕ, ◌<◌, List, [], length, get_or, refl, ap, sym, ◌∙◌, arith}
use Rattle.std.proofs.lemmas.List.{get_or-map, ext_get_or}
use Rattle.spin_model.proofs.Tables.{table-of_items}
use Rattle.scalar_rule.specs.Epoch.{slot_at, pair_at}
use Rattle.scalar_rule.specs.Laws.{HaveSameWords}
use Rattle.scalar_rule.specs.Plan.{Plan, slots_of, pairs_of}
use Rattle.scalar_rule.specs.declared.plain_copy.PlainCopy.{PlainCopy}
use Rattle.scalar_rule.specs.declared.sample.PlainPair.{PlainPair}
use Rattle.scalar_rule.specs.declared.sample.PlainSlot.{PlainSlot}
use Rattle.scalar_rule.specs.declared.sample.Sample.{Sample}
use Rattle.plane_sweep.specs.Packed.{part, part_slot, StandFits}
use Rattle.plane_sweep.specs.Sharing.{sharing, sharing_slot}
use Rattle.plane_sweep.specs.declared.replica.Duo.{Duo}
use Rattle.plane_sweep.specs.declared.replica.Replica.{Replica}
use Rattle.plane_sweep.specs.declared.stand.Stand.{Stand}

-- slot t of a sample is its part in slot t of the packed state
slot-of : (l b : ℕ) (stand : Stand) (t : ℕ) (d : Duo) → t < length stand.slots → slot_at (part l b stand).slots t ≡ part_slot l b (get_or stand.slots t d)
unfolding part
slot-of l b stand t d below = get_or-map (part_slot l b) stand.slots t d _ below

same-pairs : (l a b : ℕ) (stand : Stand) → (part l a stand).pairs ≡ (part l b stand).pairs
unfolding part
same-pairs l a b stand = refl

same-epoch : (l a b : ℕ) (stand : Stand) → (part l a stand).epoch ≡ (part l b stand).epoch
unfolding part
same-epoch l a b stand = refl

pub words-part : (plan : Plan) (a b : ℕ) (stand : Stand) → StandFits plan stand → HaveSameWords plan (part plan.size a stand) (part plan.size b stand)
words-part plan a b stand fits =
    let none : Replica = record { planes = []; labels = [] } in
    let d : Duo = record { first = none; second = none } in
    record {
      epochs = same-epoch plan.size a b stand;
      first = λ k within.
          let below : k < length stand.slots = omega (arith, fits.slots) in
          ap (λ (s : PlainSlot). s.first.wheels) (slot-of plan.size a stand k d below) ∙ sym (ap (λ (s : PlainSlot). s.first.wheels) (slot-of plan.size b stand k d below));
      second = λ k within.
          let below : k < length stand.slots = omega (arith, fits.slots) in
          ap (λ (s : PlainSlot). s.second.wheels) (slot-of plan.size a stand k d below) ∙ sym (ap (λ (s : PlainSlot). s.second.wheels) (slot-of plan.size b stand k d below));
      exchange = λ k within. ap (λ pairs. pair_at pairs k) (same-pairs plan.size a b stand);
    }

slot-shared : (from own : PlainSlot) → from.first.wheels ≡ own.first.wheels → from.second.wheels ≡ own.second.wheels → sharing_slot from own ≡ own
slot-shared from own first second =
    let made = λ (v w : List (List ℕ)). let s : PlainSlot = record {
      first = record { spins = own.first.spins; wheels = v; replica = own.first.replica };
      second = record { spins = own.second.spins; wheels = w; replica = own.second.replica };
    } in s in
    ap (λ v. made v from.second.wheels) first ∙ ap (λ w. made own.first.wheels w) second

-- a sample with the generators of another that has the same is itself
pub sharing-same : (plan : Plan) (from own : Sample) → length own.slots ≡ slots_of plan → length from.pairs ≡ pairs_of plan → length own.pairs ≡ pairs_of plan
    → HaveSameWords plan from own → sharing from own ≡ own
sharing-same plan from own slots from_pairs own_pairs same =
    let none : PlainCopy = record { spins = []; wheels = []; replica = 0 } in
    let d : PlainSlot = record { first = none; second = none } in
    let nothing : PlainPair = record { first = []; second = [] } in
    let item = λ (t : ℕ). sharing_slot (slot_at from.slots t) (slot_at own.slots t) in
    let kept = sym (table-of_items item (length own.slots) d own.slots refl
    (λ k below. let within : k < slots_of plan = omega (arith, slots) in sym (slot-shared (slot_at from.slots k) (slot_at own.slots k) (same.first k within) (same.second k within)))) in
    let pairs = ext_get_or nothing from.pairs own.pairs (from_pairs ∙ sym own_pairs) (λ k below. same.exchange k (omega (arith, from_pairs))) in
    let made = λ (e : ℕ) (s : List PlainSlot) (p : List PlainPair). let x : Sample = record { bit = own.bit; epoch = e; slots = s; pairs = p } in x in
    ap (λ e. made e (sharing from own).slots from.pairs) same.epochs ∙ ap (λ s. made own.epoch s from.pairs) kept ∙ ap (λ p. made own.epoch own.slots p) pairs
