-- The positions of slots that stand at different epochs: what they keep, how many epochs are completed, and the records
-- kept ahead of the least completed epoch.
use Rattle.std.specs.Prelude.{◌≡◌, ℕ, zero, suc, ◌+◌, ◌*◌, ◌-◌, ◌/◌, ◌%◌, ◌<◌, ◌↔◌, min, max, Bool, true, false, ◌&&◌, nat_lt, if◌then◌else◌, List, length, slice_index_or}
use Rattle.spin_model.specs.Words.{one_if}
use Rattle.spin_model.specs.Steps.{table, count_below}
use Rattle.scalar_rule.specs.Plan.{Plan, slots_of}
use Rattle.scalar_rule.specs.Epoch.{has_turn, has_partner, record_of}
use Rattle.scalar_rule.specs.Records.{is_recorded, record_at, in_order}
use Rattle.scalar_rule.specs.Ragged.{Position, UnevenState, position_at, ready, arrived}
use Rattle.scalar_rule.specs.declared.sample.PlainSlot.{PlainSlot}
use Rattle.scalar_rule.specs.declared.sample.Record.{Record}

-- the least and the greatest of f 0 to f (n - 1), and their sum
unfoldable pub least : (ℕ → ℕ) → ℕ → ℕ
least f zero = f 0
least f (suc n) = min (least f n) (f n)

unfoldable pub greatest : (ℕ → ℕ) → ℕ → ℕ
greatest f zero = f 0
greatest f (suc n) = max (greatest f n) (f n)

unfoldable pub sum_below : (ℕ → ℕ) → ℕ → ℕ
sum_below f zero = 0
sum_below f (suc n) = sum_below f n + f n

-- how many epochs a slot has completed at a position: it is swept and measured in them, also in that in which it waits. It
-- has begun as many
abbrev pub done : Position → ℕ
done p = p.epoch + one_if p.waits

-- the order of a slot's positions: 4 for each epoch, and 2 more where it waits
abbrev pub rank : Position → ℕ
rank p = 4 * p.epoch + (if p.waits then 2 else 0)

-- the content of slot t at epoch e, where it waits or is at rest
abbrev pub content : Plan → UnevenState → ℕ → ℕ → Bool → PlainSlot
content plan s t e waits = if waits then arrived plan s e t else ready plan s e t

-- position t of a list; epoch 0, at rest, where there is none
abbrev pub position_in : List Position → ℕ → Position
position_in ps t = slice_index_or ps t (record { epoch = 0; waits = false })

-- the least completed epoch: every slot has completed so many
abbrev pub floor_of : List Position → ℕ
floor_of ps = least (λ t. done (position_in ps t)) (length ps)

-- the greatest: some slot has completed so many
abbrev pub deepest_of : List Position → ℕ
deepest_of ps = greatest (λ t. done (position_in ps t)) (length ps)

-- how many of the epochs below e are turns of pair k
abbrev pub turns : ℕ → ℕ → ℕ
turns k e = (e + (k + 1) % 2) / 2

-- of the epochs at which pair k has its turn the same ones lie below both
abbrev pub HasSameTurns : ℕ → ℕ → ℕ → Type 0
HasSameTurns k a c = (f : ℕ) → has_turn k f ≡ true → (f < a) ↔ (f < c)

-- what the positions of n slots keep: a slot that waits has a partner at its epoch; the turns of a pair that lie below the
-- epoch of its colder slot are those that lie below the epoch of its hotter one; and no two partners wait at one epoch
pub record AreInStep (n : ℕ) (ps : List Position) : Type 0 where
  pub partnered : (t : ℕ) → t < n → (position_in ps t).waits ≡ true → has_partner n t (position_in ps t).epoch ≡ true
  pub turns : (k : ℕ) → k + 1 < n → HasSameTurns k (position_in ps k).epoch (position_in ps (k + 1)).epoch
  pub lone : (k : ℕ) → k + 1 < n → (position_in ps k).waits ≡ true → (position_in ps (k + 1)).waits ≡ true
      → (position_in ps k).epoch ≡ (position_in ps (k + 1)).epoch → has_turn k (position_in ps k).epoch ≡ false

-- the epochs from c on, samples and n slots make a table, in this order: the place of epoch f, sample b and slot t in it, and
-- the epoch of place i; its sample is i / n modulo samples, its slot i modulo n
abbrev pub cell_number : ℕ → ℕ → ℕ → ℕ → ℕ → ℕ → ℕ
cell_number c samples n f b t = ((f - c) * samples + b) * n + t

abbrev pub cell_epoch : ℕ → ℕ → ℕ → ℕ → ℕ
cell_epoch c samples n i = c + i / n / samples

-- place i has a record ahead of c: its epoch is a recorded one, and its slot has completed it
abbrev pub is_pending : (ℕ → ℕ) → ℕ → ℕ → ℕ → ℕ → ℕ → Bool
is_pending past c samples every n i = is_recorded every (cell_epoch c samples n i) && nat_lt (cell_epoch c samples n i) (past (i % n))

-- how many of the first i places have a record that is kept ahead of the least completed epoch
abbrev pub pending_before : ℕ → ℕ → List Position → ℕ → ℕ
pending_before samples every ps i =
    count_below (is_pending (λ t. done (position_in ps t)) (floor_of ps) samples every (length ps)) i

-- the number of these records; they stand in the order of their places
abbrev pub pending_count : ℕ → ℕ → List Position → ℕ
pending_count samples every ps = pending_before samples every ps ((deepest_of ps - floor_of ps) * samples * length ps)

-- the record of sample b at epoch f in slot t among them
abbrev pub pending_record : ℕ → ℕ → List Position → List Record → ℕ → ℕ → ℕ → Record
pending_record samples every ps pending b f t =
    record_at pending (pending_before samples every ps (cell_number (floor_of ps) samples (length ps) f b t))

-- the record of slot t in sample b at epoch f, from states whose slots may stand at different epochs, which are those of
-- sample 0: the pending one where the slot has it behind it; else what it measures
abbrev pub uneven_record : Plan → (ℕ → UnevenState) → List Record → ℕ → ℕ → ℕ → ℕ → ℕ → Record
uneven_record plan states pending samples every b f t =
    if nat_lt f (done (position_at (states 0) t)) then pending_record samples every (states 0).positions pending b f t
    else record_of plan b (arrived plan (states b) f t)

-- the records from the least completed epoch on and below e, in order of epoch, sample, slot
abbrev pub uneven_records : Plan → (ℕ → UnevenState) → List Record → ℕ → ℕ → ℕ → List Record
uneven_records plan states pending samples every e =
    in_order (λ b f. table (uneven_record plan states pending samples every b f) (slots_of plan)) samples every (floor_of (states 0).positions) e
