-- Where the label of a slot, replica and sample stands among the bytes.
use Rattle.std.proofs.Common.{◌≡◌, ℕ, ◌+◌, ◌*◌, ◌<◌, ◌≤◌, cond, List, drop, sym, ap, ◌∙◌, arith, inl, inr}
use Rattle.std.specs.Prelude.{slice_index, ◌==◌}
use Rattle.std.proofs.lemmas.List.{get_or-take, get_or-drop, get_or-map}
use Rattle.spin_model.proofs.Tables.{length-table, get_or-table}
use Rattle.scalar_rule.specs.Epoch.{slot_at}
use Rattle.scalar_rule.specs.declared.sample.PlainSlot.{PlainSlot}
use Rattle.plane_sweep.specs.Packed.{part_slot}
use Rattle.run_checkpoint.specs.Lengths.{replica_len, slot_len}
use Rattle.run_checkpoint.specs.Reading.{replica_in, slot_in, slots_in, parts_in}
use Rattle.run_checkpoint.specs.Tests.{label}
use Rattle.run_checkpoint.proofs.Items.{item-room}
use Rattle.std.proofs.lemmas.Bool.{cases_Bool}

slot-part : (l n slot b : ℕ) (bytes : List ℕ) → slot < n → slot_at (parts_in l n bytes b) slot ≡ part_slot l b (slot_in l (drop (slot_len l * slot) bytes))
unfolding slots_in
slot-part l n slot b bytes within =
    let sized = length-table (λ i. slot_in l (drop (slot_len l * i) bytes)) n in
    get_or-map (part_slot l b) (slots_in l n bytes) slot (slot_in l bytes) _ (omega (arith, sized))
    ∙ ap (part_slot l b) (get_or-table (λ i. slot_in l (drop (slot_len l * i) bytes)) n slot (slot_in l bytes) within)

replica-label : (l b : ℕ) (bytes : List ℕ) → b < 64 → slice_index (replica_in l bytes).labels b ≡ slice_index bytes b
unfolding replica_in
replica-label l b bytes small = get_or-take 64 bytes b 0 small

first-label : (l b : ℕ) (bytes : List ℕ) → b < 64 → (part_slot l b (slot_in l bytes)).first.replica ≡ slice_index bytes b
unfolding slot_in
first-label l b bytes small = replica-label l b bytes small

second-label : (l b : ℕ) (bytes : List ℕ) → b < 64 → (part_slot l b (slot_in l bytes)).second.replica ≡ slice_index bytes (replica_len l + b)
unfolding slot_in
second-label l b bytes small = replica-label l b (drop (replica_len l) bytes) small ∙ get_or-drop (replica_len l) bytes b 0

-- the replica's place in its slot
abbrev pub replica_place : ℕ → ℕ → ℕ
replica_place l copy = cond (copy == 0) 0 (replica_len l)

pub label-at : (l n slot copy b : ℕ) (bytes : List ℕ) → slot < n → b < 64
    → slice_index bytes (slot_len l * slot + replica_place l copy + b) ≡ label (parts_in l n bytes) slot copy b
label-at l n slot copy b bytes within small =
    let place = slot_len l * slot in
    let part = slot-part l n slot b bytes within in
    elim (cases_Bool (copy == 0)) [
      | inl first ↦ rw first (
          let at : place + 0 + b ≡ place + b = omega arith in
          ap (slice_index bytes) at ∙ sym (get_or-drop place bytes b 0) ∙ sym (first-label l b (drop place bytes) small) ∙ sym (ap (λ (s : PlainSlot). s.first.replica) part))
      | inr second ↦ rw second (
          let at : place + replica_len l + b ≡ place + (replica_len l + b) = omega arith in
          ap (slice_index bytes) at ∙ sym (get_or-drop place bytes (replica_len l + b) 0) ∙ sym (second-label l b (drop place bytes) small) ∙ sym (ap (λ (s : PlainSlot). s.second.replica) part))
    ]

replica-within : (l copy b : ℕ) → b < 64 → replica_place l copy + b < slot_len l
unfolding slot_len replica_len
replica-within l copy b small = elim (cases_Bool (copy == 0)) [
  | inl first ↦ rw first (omega arith)
  | inr second ↦ rw second (omega arith)
]

pub label-within : (l n slot copy b len : ℕ) → slot < n → b < 64 → slot_len l * n ≤ len → slot_len l * slot + replica_place l copy + b < len
label-within l n slot copy b len within small long =
    omega (arith, item-room (slot_len l) n slot within, replica-within l copy b small)
