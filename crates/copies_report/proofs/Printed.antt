-- The lines of the sums that are held are those of the fields.
use Rattle.std.proofs.Common.{◌≡◌, ℕ, ◌/◌, ◌%◌, ◌<◌, ◌≤◌, List, [], ℤ, pos, take, length, get_or, refl, ap₂, sym, ◌∙◌, arith}
use Rattle.std.proofs.lemmas.List.{get_or-take, length-take, get_or-map}
use Rattle.std.specs.Prelude.{flat_map}
use Rattle.spin_model.specs.Steps.{table}
use Rattle.spin_model.proofs.Joined.{joined-same}
use Rattle.spin_model.proofs.Tables.{table-of_items}
use Rattle.scalar_rule.specs.Epoch.{slot_at}
use Rattle.scalar_rule.specs.declared.plain_copy.PlainCopy.{PlainCopy}
use Rattle.scalar_rule.specs.declared.sample.PlainSlot.{PlainSlot}
use Rattle.plane_sweep.specs.Packed.{part, part_slot}
use Rattle.plane_sweep.specs.declared.stand.Stand.{Stand}
use Rattle.quenched_states.specs.Copies.{CopyPair, copy_pairs, pair_field}
use Rattle.quenched_states.specs.CrossText.{CrossHeading, pair_lines, slots_lines}
use Rattle.copies_report.specs.Held.{bank_fields}
use Rattle.copies_report.specs.States.{bank_at, pair_at, slot_among, states_fields, AreStates, HasSlots}

-- the numbers at the first distances
pub column-shown : (number : ℕ → ℤ) (column : List ℤ) (count n : ℕ) → length column ≡ 33 → ((r : ℕ) → r < count → get_or column r (pos 0) ≡ number r)
    → count ≤ 33 → n ≡ count → take n column ≡ table number count
column-shown number column count n long same few is =
    let all = length-take n column in
    table-of_items number count (pos 0) (take n column) (omega (arith, all, long, is, few))
    (λ k below. get_or-take n column k (pos 0) (omega (arith, below, is)) ∙ same k below)

-- the pairs by their numbers
pub pairs-numbered : (item : CopyPair → List ℕ) → flat_map (λ p. item (pair_at p)) (table (λ p. p) 6) ≡ flat_map item copy_pairs
unfolding table
pairs-numbered item = refl

-- a slot of a sample is that of its bank
slot-read : (l b : ℕ) (stand : Stand) (t : ℕ) → t < length stand.slots → slot_at (part l b stand).slots t ≡ part_slot l b (slot_among stand.slots t)
unfolding part
slot-read l b stand t below =
    let copy : PlainCopy = record { spins = []; wheels = []; replica = 0 } in
    let slot : PlainSlot = record { first = copy; second = copy } in
    get_or-map (part_slot l b) stand.slots t _ slot below

-- a sample's bank is one of a state's
pub bank-slots : (h : CrossHeading) (stands : List Stand) (b : ℕ) → AreStates h stands → b < h.samples → HasSlots h.size h.slots (bank_at stands (b / 64))
bank-slots h stands b are below = are.slots (b / 64) _ (omega (arith, are.samples, below))

-- so the lines of a sample are those of its bank's fields
pub sample-shown : (h : CrossHeading) (first second : List Stand) (b : ℕ) → length (bank_at first (b / 64)).slots ≡ h.slots → length (bank_at second (b / 64)).slots ≡ h.slots
    → slots_lines h (bank_fields h.size (bank_at first (b / 64)).slots (bank_at second (b / 64)).slots) b ≡ slots_lines h (states_fields h.size first second) b
sample-shown h first second b one two =
    let f = bank_at first (b / 64) in
    let s = bank_at second (b / 64) in
    joined-same _ _ (λ t. t) h.slots (λ t below.
    ap₂ (λ (x y : PlainSlot). flat_map (λ pair. pair_lines h.size b t pair (pair_field x y pair)) copy_pairs)
    (sym (slot-read h.size (b % 64) f t (omega (arith, one, below)))) (sym (slot-read h.size (b % 64) s t (omega (arith, two, below)))))
