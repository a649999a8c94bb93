-- The text that is written from the counts is that of the states.
use Rattle.std.proofs.Common.{◌≡◌, ℕ, ◌+◌, ◌*◌, ◌/◌, ◌<◌, ◌≤◌, List, [], ◌++◌, length, get_or, ap, ap₂, sym, ◌∙◌, arith}
use Rattle.std.specs.Prelude.{pos, ◌-ℤ◌, codes}
use Rattle.std.proofs.lemmas.List.{get_or-map}
use Rattle.spin_model.specs.Lattice.{volume, bond_count}
use Rattle.scalar_rule.specs.Epoch.{slot_at}
use Rattle.scalar_rule.specs.Plan.{Plan, slots_of}
use Rattle.scalar_rule.specs.declared.plain_copy.PlainCopy.{PlainCopy}
use Rattle.scalar_rule.specs.declared.sample.PlainSlot.{PlainSlot}
use Rattle.plane_sweep.specs.Packed.{part, part_slot, StandFits}
use Rattle.plane_sweep.specs.declared.replica.Duo.{Duo}
use Rattle.plane_sweep.specs.declared.stand.Stand.{Stand}
use Rattle.overlap_lines.specs.LineText.{header_line, link_line, line_line, direction_lines, slot_lines, sample_lines, lines_text}
use Rattle.overlap_lines.specs.CountedText.{AreCounts, HaveCounts, counted_direction, counted_slot, counted_sample, counted_text}
use Rattle.spin_model.proofs.Joined.{joined-same}

direction-is : (l b t d : ℕ) (duo : Duo) (counts : List (List ℕ)) → AreCounts l duo counts → b < 64 → d < 3
    → counted_direction l b t counts d ≡ direction_lines l b t (part_slot l b duo) d
direction-is l b t d duo counts are below h =
    joined-same _ _ (λ k. k) (l / 2) (λ k within. ap (λ n. line_line b t d (k + 1) (pos (2 * n) -ℤ pos (volume l))) (are.lines d (k + 1) b h (omega arith) (omega arith) below))

slot-is : (l b t : ℕ) (duo : Duo) (counts : List (List ℕ)) → AreCounts l duo counts → b < 64 → counted_slot l b t counts ≡ slot_lines l b t (part_slot l b duo)
slot-is l b t duo counts are below =
    ap₂ (λ (u v : List ℕ). u ++ v) (ap (λ n. link_line b t (pos (2 * n) -ℤ pos (bond_count l))) (are.bonds b below))
    (joined-same _ _ (λ d. d) 3 (λ d h. direction-is l b t d duo counts are below h))

-- slot t of a sample is its part in slot t
slot-read : (l b t : ℕ) (stand : Stand) (duo : Duo) → t < length stand.slots → slot_at (part l b stand).slots t ≡ part_slot l b (get_or stand.slots t duo)
unfolding part
slot-read l b t stand duo below =
    let copy : PlainCopy = record { spins = []; wheels = []; replica = 0 } in
    let none : PlainSlot = record { first = copy; second = copy } in
    get_or-map (part_slot l b) stand.slots t duo none below

sample-is : (plan : Plan) (stand : Stand) (counts : List (List (List ℕ))) (b : ℕ) (duo : Duo) → StandFits plan stand → HaveCounts plan.size stand.slots counts → b < 64
    → counted_sample plan counts b ≡ sample_lines plan b (part plan.size b stand).slots
sample-is plan stand counts b duo fits have below =
    joined-same _ _ (λ t. t) (slots_of plan) (λ t within.
    let here : t < length stand.slots = omega (arith, fits.slots) in
    slot-is plan.size b t (get_or stand.slots t duo) (get_or counts t []) (have t duo here) below
    ∙ ap (slot_lines plan.size b t) (sym (slot-read plan.size b t stand duo here)))

pub text-is : (plan : Plan) (stand : Stand) (counts : List (List (List ℕ))) (samples : ℕ) → StandFits plan stand → HaveCounts plan.size stand.slots counts → samples ≤ 64
    → counted_text plan counts samples stand.epoch ≡ lines_text plan samples stand.epoch (λ b. part plan.size b stand)
unfolding counted_text lines_text
text-is plan stand counts samples fits have few =
    ap (λ (t : List ℕ). header_line plan samples stand.epoch ++ t ++ codes "end\n")
    (joined-same _ _ (λ b. b) samples (λ b within. sample-is plan stand counts b nothing fits have (omega arith)))
  where
    nothing : Duo
    nothing = record { first = record { planes = []; labels = [] }; second = record { planes = []; labels = [] } }
